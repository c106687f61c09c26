use Rattle.std.proofs.Common.{None, Option, Some, ap, rules, subst, ℕ, ◌∙◌, ◌≡◌}
use Rattle.answer_board.specs.Entries.{answer_at, answer_in}
use Rattle.answer_board.specs.Places.{Listed}
use Rattle.answer_board.proofs.Slotted.{finds_at, finds_empty, finds_nowhere}
use Rattle.answer_board.proofs.listing.Listing.find.Goals as goal
use Rattle.std.specs.Prelude.{slice_get}

pub returns-in_err-slot : goal.returns-in_err-slot
returns-in_err-slot c =
    let none : c.from_residual.result ≡ None = search rules in
    none ∙ subst (λ (l : Listed). None ≡ answer_at c.args.place l.items) c.self.view_is (finds_nowhere c.self.inside.table c.self.inside.entries.items c.args.place c.slot.result c.self.invariant c.slot.ensures c.in_err-slot.was)

pub returns-in_err-position : goal.returns-in_err-position
returns-in_err-position c =
    let none : c.from_residual-in_err-position.result ≡ None = search rules in
    let empty : c.slot.result ≡ Some None = c.in_ok-slot.was ∙ ap (λ (o : Option ℕ). Some o) c.in_err-position.was in
    none ∙ subst (λ (l : Listed). None ≡ answer_at c.args.place l.items) c.self.view_is (finds_empty c.self.inside.table c.self.inside.entries.items c.args.place c.slot.result c.self.invariant c.slot.ensures empty)

pub returns : goal.returns
returns c =
    let there : c.slot.result ≡ Some (Some c.in_ok-position.position) = c.in_ok-slot.was ∙ ap (λ (o : Option ℕ). Some o) c.in_ok-position.was in
    let found : c.answer_there.result ≡ answer_in (slice_get c.self.inside.entries.items c.in_ok-position.position) = search rules in
    found ∙ subst (λ (l : Listed). answer_in (slice_get c.self.inside.entries.items c.in_ok-position.position) ≡ answer_at c.args.place l.items) c.self.view_is
    (finds_at c.self.inside.table c.self.inside.entries.items c.args.place c.slot.result c.in_ok-position.position c.self.invariant c.slot.ensures there)
