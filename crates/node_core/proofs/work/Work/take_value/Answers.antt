use Rattle.node_core.proofs.Rules.ScriptSteps.{take_does, take_keeps, take_turns}
use Rattle.node_core.proofs.work.Work.take_value.Goals as goal

pub keep_read-requires : goal.keep_read-requires
keep_read-requires c = take_keeps c.args.self.now c.args.i c.args.key c.args.value c.args.by c.args.snap c.requires.facts c.requires.own

pub operate-requires : goal.operate-requires
operate-requires c = take_turns c.args.self.now c.args.i c.args.key c.args.value c.args.by c.args.snap c.requires.facts c.requires.own c.keep_read.new.self c.keep_read.ensures

pub returns : goal.returns
returns c =
    take_does c.args.self.now c.args.i c.args.key c.args.value c.args.by c.args.snap c.requires.facts c.requires.own c.keep_read.new.self c.keep_read.ensures c.operate.new.self
    c.operate.ensures.done
