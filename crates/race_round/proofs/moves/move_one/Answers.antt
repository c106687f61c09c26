use Rattle.std.proofs.Common.{◌∙◌, arith, List, ℕ, sym, subst}
use Rattle.race_round.proofs.ClientSteps.{client_false, client_late, client_true, gave_one, stays_idle}
use Rattle.race_round.specs.Nodes.{seat_of}
use Rattle.race_round.specs.Turns.{Gave}
use Rattle.str_outer.specs.Clocks.{Gives}
use Rattle.race_round.proofs.moves.move_one.Goals as goal

pub returns-then-client_idle-clause-moved : goal.returns-then-client_idle-clause-moved
returns-then-client_idle-clause-moved g c w = stays_idle (seat_of c.args.n.now) c.args.session c.requires.seat (λ t. sym c.if-client_idle.true ∙ c.client_idle.ensures t)

pub returns-then-stamp-ge-LAST_STAMP-clause-broken : goal.returns-then-stamp-ge-LAST_STAMP-clause-broken
returns-then-stamp-ge-LAST_STAMP-clause-broken g c w = client_late (seat_of c.args.n.now) c.requires.seat (omega arith)

pub returns-clause-moved : goal.returns-clause-moved
returns-clause-moved g c w =
    (client_true (seat_of c.args.n.now) c.args.session c.now-reading.result c.requires.seat (λ t. sym c.if-client_idle.false ∙ c.client_idle.ensures t) c.make_step.result (seat_of c.make_step.new.n) c.make_step.ensures.tried w).0

pub returns-clause-broken : goal.returns-clause-broken
returns-clause-broken g c w =
    client_false (seat_of c.args.n.now) c.args.session c.now-reading.result c.requires.seat (λ t. sym c.if-client_idle.false ∙ c.client_idle.ensures t) c.make_step.result (seat_of c.make_step.new.n) c.make_step.ensures.tried w

pub returns-clause-readings : goal.returns-clause-readings
returns-clause-readings g c w =
    let r = (client_true (seat_of c.args.n.now) c.args.session c.now-reading.result c.requires.seat (λ t. sym c.if-client_idle.false ∙ c.client_idle.ensures t) c.make_step.result (seat_of c.make_step.new.n) c.make_step.ensures.tried w).1 in
    let gives = subst (λ x. Gives (g.C.Clock.given c.args.n.now.clock) (g.C.Clock.given x) c.now-reading.result) (sym c.make_step.ensures.clock) c.now-reading.ensures.given in
    subst (λ (l : List ℕ). Gave (g.C.Clock.given c.args.n.now.clock) (g.C.Clock.given c.make_step.new.n.clock) l) (sym r)
    (gave_one (g.C.Clock.given c.args.n.now.clock) (g.C.Clock.given c.make_step.new.n.clock) c.now-reading.result gives)
