use Rattle.node_core.proofs.PassTurns.GateSteps.{asked_facts, asked_less, asked_next, asked_own, asks_fits, asks_part, commits_done, commits_fits, gates_begin, shut_done}
use Rattle.node_core.proofs.work.Work.gates.Goals as goal

pub loop-said-init : goal.loop-said-init
loop-said-init c = let o = c.requires.own in gates_begin c.args.self.now c.args.i c.args.lc.0 c.gate_turn-said.result c.requires.facts o c.gate_turn-said.ensures

pub ask-requires-clause-part : goal.ask-requires-clause-part
ask-requires-clause-part c = asks_part c.args.self.now c.args.i c.args.lc.0 c.loop-said.self c.loop-said.said c.loop-said.invariant c.in-Ask.part c.in-Ask.is

pub ask-requires-clause-fits : goal.ask-requires-clause-fits
ask-requires-clause-fits c = asks_fits c.args.self.now c.args.i c.args.lc.0 c.loop-said.self c.loop-said.said c.loop-said.invariant c.in-Ask.part c.in-Ask.is c.requires.fits

pub gate_turn-said-requires-in-Ask-clause-facts : goal.gate_turn-said-requires-in-Ask-clause-facts
gate_turn-said-requires-in-Ask-clause-facts c = asked_facts c.args.self.now c.args.i c.args.lc.0 c.loop-said.self c.loop-said.said c.loop-said.invariant c.in-Ask.part c.in-Ask.is c.ask.new.self c.ask.ensures

pub gate_turn-said-requires-in-Ask-clause-own : goal.gate_turn-said-requires-in-Ask-clause-own
gate_turn-said-requires-in-Ask-clause-own c =
    let o = asked_own c.args.self.now c.args.i c.args.lc.0 c.loop-said.self c.loop-said.said c.loop-said.invariant c.in-Ask.part c.in-Ask.is c.ask.new.self c.ask.ensures in (o.0, o.1, o.2.1)

pub gate_turn-said-requires-in-Ask-clause-open_ : goal.gate_turn-said-requires-in-Ask-clause-open_
gate_turn-said-requires-in-Ask-clause-open_ c =
    let o = asked_own c.args.self.now c.args.i c.args.lc.0 c.loop-said.self c.loop-said.said c.loop-said.invariant c.in-Ask.part c.in-Ask.is c.ask.new.self c.ask.ensures in (o.0, o.1, o.2.0)

pub loop-said-preserved : goal.loop-said-preserved
loop-said-preserved c = asked_next c.args.self.now c.args.i c.args.lc.0 c.loop-said.self c.loop-said.said c.loop-said.invariant c.in-Ask.part c.in-Ask.is c.ask.new.self c.ask.ensures c.gate_turn-said-in-Ask.result c.gate_turn-said-in-Ask.ensures

pub loop-said-smaller : goal.loop-said-smaller
loop-said-smaller c = asked_less c.args.self.now c.args.i c.args.lc.0 c.loop-said.self c.loop-said.said c.loop-said.invariant c.in-Ask.part c.in-Ask.is c.ask.new.self c.ask.ensures

pub commit-requires-clause-fits : goal.commit-requires-clause-fits
commit-requires-clause-fits c = commits_fits c.args.self.now c.args.i c.args.lc.0 c.loop-said.self c.loop-said.said c.loop-said.invariant c.in-Commit.fc c.in-Commit.is c.requires.fits

pub returns-in-Commit : goal.returns-in-Commit
returns-in-Commit c = commits_done c.args.self.now c.args.i c.args.lc.0 c.loop-said.self c.loop-said.said c.loop-said.invariant c.in-Commit.fc c.in-Commit.is c.commit.new.self c.commit.ensures

pub returns-in_default-said : goal.returns-in_default-said
returns-in_default-said c = shut_done c.args.self.now c.args.i c.args.lc.0 c.loop-said.self c.loop-said.said c.loop-said.invariant c.in_default.not-Ask c.in_default-said.not-Commit
