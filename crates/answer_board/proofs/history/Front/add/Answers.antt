use Rattle.std.proofs.Common.{◌≡◌, sym, ◌∙◌, ap, subst}
use mathlib.Core.List.{IsPrefix}
use Rattle.answer_board.specs.History.{front_of}
use Rattle.answer_board.specs.Views.{FrontView}
use Rattle.answer_board.proofs.Adding.{adds_moves}
use Rattle.answer_board.proofs.history.Front.add.Goals as goal

pub compare_exchange-found-requires : goal.compare_exchange-found-requires
compare_exchange-found-requires g c =
    let h = c.requires.head in
    let offer = c.plain-offer.ensures in
    let pen = c.no_pen-pen.ensures in
    let again = c.again-seen.ensures in
    let book : c.again-seen.result.book ≡ c.args.head.now.book = ap (λ s. s.book) again ∙ (ap (λ f. f.book) c.self.view_is ∙ sym (ap (λ w. w.book) h)) in
    let follows : IsPrefix (front_of c.self.inside.seen.log) (g.M.Plain.ask c.args.about.now) = subst (λ (f : FrontView). IsPrefix (front_of f.log) (g.M.Plain.ask c.args.about.now)) (sym c.self.view_is) c.requires.follows in (
      ap (λ w. w.tracked) h,
      book,
      pen.0 ∙ book,
      offer.0,
      rw (ap (λ w. w.key) h, pen.1, offer.1, offer.3, c.requires.plain, ap (λ s. s.log) again) (adds_moves c.self.inside.seen.log (g.M.Plain.ask c.args.about.now) c.self.inside.count (sym c.self.invariant.0) follows),
    )
