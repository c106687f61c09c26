use Rattle.std.proofs.Common.{◌∙◌, rules, sym}
use Rattle.race_round.proofs.ClientSteps.{not_true}
use Rattle.race_round.proofs.RoundsMade.{can_settle_all, round_goes_on, round_holds, round_readings}
use Rattle.race_round.proofs.SeatsSettled.{all_seats}
use Rattle.race_round.proofs.races.round.Goals as goal

pub turns-requires : goal.turns-requires
turns-requires g c = let r = c.requires.race in (search rules, (search rules, (search rules, all_seats r.0 r.1 c.args.nodes.now r.2)))

pub settle_all-requires : goal.settle_all-requires
settle_all-requires g c = can_settle_all g.C.Clock.given c.args.nodes.now c.turns.new.nodes c.turns.new.nodes (search rules) c.turns.ensures c.requires.race

pub returns-then-not-settle_all-clause-holds : goal.returns-then-not-settle_all-clause-holds
returns-then-not-settle_all-clause-holds g c =
    round_holds g.C.Clock.given c.args.nodes.now c.turns.new.nodes c.settle_all.new.nodes (search rules) c.turns.ensures c.settle_all.result c.settle_all.ensures

pub returns-clause-holds : goal.returns-clause-holds
returns-clause-holds g c =
    round_holds g.C.Clock.given c.args.nodes.now c.turns.new.nodes c.settle_all.new.nodes (search rules) c.turns.ensures c.settle_all.result c.settle_all.ensures

pub returns-clause-goes_on : goal.returns-clause-goes_on
returns-clause-goes_on g c w =
    round_goes_on g.C.Clock.given c.args.nodes.now c.turns.new.nodes c.settle_all.new.nodes (search rules) c.turns.ensures c.settle_all.result c.settle_all.ensures c.if-not-settle_all.false
    (sym c.wants.ensures ∙ not_true c.wants.result (sym w))

pub returns-clause-readings : goal.returns-clause-readings
returns-clause-readings g c w =
    round_readings g.C.Clock.given c.args.nodes.now c.turns.new.nodes c.settle_all.new.nodes (search rules) c.turns.ensures c.settle_all.result c.settle_all.ensures c.if-not-settle_all.false
    (sym c.wants.ensures ∙ not_true c.wants.result (sym w)) c.requires.race
