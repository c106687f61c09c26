use Rattle.std.proofs.lemmas.Bool.{true≢false}
use Rattle.std.proofs.Common.{◌∙◌, ap, arith, length, refl, rules, sym, true, false}
use Rattle.race_round.proofs.StepsMade.{step_tried, stepped_few}
use Rattle.race_round.specs.Stretches.Tried.{was_unmade}
use Rattle.ring_links.specs.Ends.{place_of}
use Rattle.str_model.specs.declared.messages.Answer.{Answer}
use Rattle.str_model.specs.declared.messages.Message.{Message}
use Rattle.std.specs.Prelude.{List}
use Rattle.race_round.proofs.steps.make_step.Goals as goal

pub returns-then-not-make_room-clause-tried : goal.returns-then-not-make_room-clause-tried
returns-then-not-make_room-clause-tried g c =
    let r = c.make_room.ensures.roomed in
    was_unmade (record { scene_ = r.scene_; id_ = r.id_; view_ = r.view_; log_ = r.log_; stamp_ = r.stamp_; rested = r.rested }) refl

pub enter-requires-clause-messages : goal.enter-requires-clause-messages
enter-requires-clause-messages g c =
    let h = c.make_room.ensures.room c.if-not-make_room.false in
    let f = stepped_few c.make_room.new.n.node c.args.input.now c.step-moves.result c.step-moves.new.self c.make_room.new.n.out c.step-moves.new.out h.room c.step-moves.ensures h.messages h.answers h.need_ in
    let e = ap (λ (l : List Message). length l) (c.as_slice-messages.ensures.value ∙ c.messages-2.ensures) in
    omega (arith, f.0, e, h.log_)

pub enter-requires-clause-answers : goal.enter-requires-clause-answers
enter-requires-clause-answers g c =
    let h = c.make_room.ensures.room c.if-not-make_room.false in
    let f = stepped_few c.make_room.new.n.node c.args.input.now c.step-moves.result c.step-moves.new.self c.make_room.new.n.out c.step-moves.new.out h.room c.step-moves.ensures h.messages h.answers h.need_ in
    let e = ap (λ (l : List Answer). length l) (c.as_slice.ensures.value ∙ c.answers.ensures) in
    omega (arith, f.1, e, h.log_)

pub enter-requires-clause-few : goal.enter-requires-clause-few
enter-requires-clause-few g c =
    let h = c.make_room.ensures.room c.if-not-make_room.false in
    let f = stepped_few c.make_room.new.n.node c.args.input.now c.step-moves.result c.step-moves.new.self c.make_room.new.n.out c.step-moves.new.out h.room c.step-moves.ensures h.messages h.answers h.need_ in
    let e = ap (λ (l : List Answer). length l) (c.as_slice.ensures.value ∙ c.answers.ensures) in
    omega (arith, f.1, e, h.small)

pub send_all-requires-clause-room : goal.send_all-requires-clause-room
send_all-requires-clause-room g c k d o =
    let h = c.make_room.ensures.room c.if-not-make_room.false in
    let f = stepped_few c.make_room.new.n.node c.args.input.now c.step-moves.result c.step-moves.new.self c.make_room.new.n.out c.step-moves.new.out h.room c.step-moves.ensures h.messages h.answers h.need_ in
    let e = ap (λ (l : List Message). length l) (c.as_slice-messages.ensures.value ∙ c.messages-2.ensures) in
    let at = h.ends_ (place_of c.make_room.new.n.ends.node k) d o.2 in
    omega (arith, f.0, e, at)

pub returns-then-not-send_all-clause-tried : goal.returns-then-not-send_all-clause-tried
returns-then-not-send_all-clause-tried g c =
    let h = c.make_room.ensures.room c.if-not-make_room.false in
    step_tried c.args.n.now c.make_room.new.n _ c.args.input.now c.args.logged c.args.stamp _ c.step-moves.result _ _ c.step-moves.new.self c.step-moves.new.out c.requires.seat c.make_room.ensures.roomed h c.step-moves.ensures
    (c.as_slice-messages.ensures.value ∙ c.messages-2.ensures) (c.as_slice.ensures.value ∙ c.answers.ensures) refl refl refl c.enter.ensures.node c.enter.ensures.entries c.enter.ensures.messages c.enter.ensures.released refl
    (search rules) c.send_all.ensures.sent false (λ w. absurd (true≢false (sym w))) (λ w. refl)

pub returns-clause-tried : goal.returns-clause-tried
returns-clause-tried g c =
    let h = c.make_room.ensures.room c.if-not-make_room.false in
    step_tried c.args.n.now c.make_room.new.n _ c.args.input.now c.args.logged c.args.stamp _ c.step-moves.result _ _ c.step-moves.new.self c.step-moves.new.out c.requires.seat c.make_room.ensures.roomed h c.step-moves.ensures
    (c.as_slice-messages.ensures.value ∙ c.messages-2.ensures) (c.as_slice.ensures.value ∙ c.answers.ensures) refl refl refl c.enter.ensures.node c.enter.ensures.entries c.enter.ensures.messages c.enter.ensures.released refl
    (search rules) c.send_all.ensures.sent true (λ w. c.send_all.ensures.away c.if-not-send_all.false) (λ w. absurd (true≢false w))
