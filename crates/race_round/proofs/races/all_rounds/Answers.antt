use Rattle.std.proofs.Common.{arith}
use Rattle.race_round.proofs.RoundsMade.{can_still, gone_end, gone_on, holds_after, holds_whole, none_gone, none_read, read_on}
use Rattle.race_round.proofs.races.all_rounds.Goals as goal

pub loop-round-init : goal.loop-round-init
loop-round-init g c = record { gone = none_gone c.args.nodes.now; readings = none_read g.C.Clock.given c.args.nodes.now }

pub round-requires-clause-race : goal.round-requires-clause-race
round-requires-clause-race g c lives within = can_still _ _ _ _ c.requires.race c.loop-round.invariant.gone c.loop-round-test.true

pub returns-then-not-round-clause-replays : goal.returns-then-not-round-clause-replays
returns-then-not-round-clause-replays g c = holds_after _ _ _ _ _ c.loop-round-test.true c.loop-round.invariant.gone c.round.ensures.holds

pub loop-round-preserved : goal.loop-round-preserved
loop-round-preserved g c =
    record {
      gone = gone_on _ 1 _ _ _ c.loop-round.invariant.gone (c.round.ensures.goes_on c.if-not-round.false);
      readings = read_on _ _ _ _ c.loop-round.invariant.readings (c.round.ensures.readings c.if-not-round.false);
    }

pub returns-clause-rounds : goal.returns-clause-rounds
returns-clause-rounds g c = gone_end _ _ _ _ (omega arith) c.loop-round.invariant.gone

pub returns-clause-replays : goal.returns-clause-replays
returns-clause-replays g c = holds_whole _ _ _ (gone_end _ _ _ _ (omega arith) c.loop-round.invariant.gone)
