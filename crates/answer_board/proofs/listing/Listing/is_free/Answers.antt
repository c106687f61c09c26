use Rattle.std.proofs.Common.{false, rules, subst, sym, ◌∙◌, ◌≡◌}
use Rattle.std.specs.Prelude.{is_none}
use Rattle.answer_board.specs.Places.{Listed, is_free}
use Rattle.answer_board.proofs.Slotted.{slot_nowhere, slot_open}
use Rattle.answer_board.proofs.listing.Listing.is_free.Goals as goal

pub returns-in-Some : goal.returns-in-Some
returns-in-Some c =
    let none : c.is_none.result ≡ is_none c.in-Some.slot = search rules in
    none ∙ subst (λ (l : Listed). is_none c.in-Some.slot ≡ is_free l c.args.place) c.self.view_is (slot_open c.self.inside.table c.self.inside.entries.items c.args.place c.in-Some.slot c.self.invariant (sym c.slot.ensures ∙ c.in-Some.is))

pub returns-in-None : goal.returns-in-None
returns-in-None c = subst (λ (l : Listed). false ≡ is_free l c.args.place) c.self.view_is (sym (slot_nowhere c.self.inside.table c.self.inside.entries.items c.args.place (sym c.slot.ensures ∙ c.in-None.is)))
