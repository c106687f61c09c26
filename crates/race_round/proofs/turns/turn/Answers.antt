use Rattle.std.proofs.Common.{false}
use Rattle.race_round.proofs.TurnsMade.{seat_rewanted, went_moving, went_taking}
use Rattle.race_round.specs.Nodes.{seat_of}
use Rattle.race_round.proofs.turns.turn.Goals as goal

pub take_all-requires : goal.take_all-requires
take_all-requires g c = record { seat = seat_rewanted false (seat_of c.args.n.now) c.requires }

pub returns-then-not-take_all : goal.returns-then-not-take_all
returns-then-not-take_all g c = went_taking g.C.Clock.given false c.args.n.now c.take_all.new.n (c.take_all.ensures.broken c.if-not-take_all.true)

pub returns : goal.returns
returns g c =
    let t = c.take_all.ensures.took c.if-not-take_all.false in
    went_moving g.C.Clock.given false c.move_all.result c.args.n.now c.take_all.new.n c.move_all.new.n t c.take_all.ensures.clock c.move_all.ensures.moved c.move_all.ensures.broken c.move_all.ensures.readings
