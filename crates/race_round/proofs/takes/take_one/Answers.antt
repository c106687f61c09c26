use Rattle.std.proofs.Common.{arith, rules}
use Rattle.race_round.proofs.Takings.{took_false, took_late, took_nothing, took_step, took_true}
use Rattle.race_round.specs.Nodes.{seat_of}
use Rattle.race_round.proofs.takes.take_one.Goals as goal

pub returns-in_default-clause-took : goal.returns-in_default-clause-took
returns-in_default-clause-took g c =
    took_nothing (seat_of c.args.n.now) c.take.new.self c.args.sender c.requires.seat c.requires.other c.take.ensures.only c.in_default.ensures.taken

pub returns-then-stamp-ge-LAST_STAMP-clause-took : goal.returns-then-stamp-ge-LAST_STAMP-clause-took
returns-then-stamp-ge-LAST_STAMP-clause-took g c =
    took_late (seat_of c.args.n.now) c.take.new.self c.args.sender c.in-Some.parcel c.requires.seat c.requires.other c.take.ensures.only c.in-Some.ensures.taken (omega arith)

pub returns-then-not-make_step-clause-took : goal.returns-then-not-make_step-clause-took
returns-then-not-make_step-clause-took g c =
    took_false c.make_step.result c.args.sender (seat_of c.args.n.now) (seat_of c.make_step.new.n) c.if-not-make_step.true
    (took_step (seat_of c.args.n.now) c.take.new.self c.args.sender c.in-Some.parcel c.requires.seat c.requires.other c.take.ensures.only c.in-Some.ensures.taken c.max-stamp.result (search rules)
    c.make_step.result (seat_of c.make_step.new.n) c.make_step.ensures.tried)

pub returns-clause-took : goal.returns-clause-took
returns-clause-took g c =
    took_true c.make_step.result c.args.sender (seat_of c.args.n.now) (seat_of c.make_step.new.n) c.if-not-make_step.false
    (took_step (seat_of c.args.n.now) c.take.new.self c.args.sender c.in-Some.parcel c.requires.seat c.requires.other c.take.ensures.only c.in-Some.ensures.taken c.max-stamp.result (search rules)
    c.make_step.result (seat_of c.make_step.new.n) c.make_step.ensures.tried)
