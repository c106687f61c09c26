use Rattle.std.proofs.Common.{ap}
use Rattle.snapshot_read.specs.Turning.{turn_of as read_as}
use Rattle.node_core.proofs.PassTurns.TurnSteps.{reply_takes}
use Rattle.node_core.proofs.work.Work.reply_again.Goals as goal

pub take_value-requires-clause-own : goal.take_value-requires-clause-own
take_value-requires-clause-own c =
    let o = c.requires.own in
    let a = c.in-Plain in
    reply_takes c.args.self.now c.args.i o.0 o.1 c.requires.facts c.args.key c.args.value c.args.by c.args.fc.0 o.2 (read_as c.reply_turn.result) (c.reply_turn.ensures o.0 o.1) a.value a.by a.fc.0 a.snap
    (ap read_as a.is)
