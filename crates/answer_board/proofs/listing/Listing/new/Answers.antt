use Rattle.std.proofs.Common.{[], ap, length, map, rules, subst, sym, ℕ, ◌∙◌, ◌≡◌, List, Option}
use Rattle.answer_board.specs.Places.{places_of}
use Rattle.answer_board.specs.Slots.{IsListing, empty_rows}
use Rattle.answer_board.specs.declared.entries.Entry.{Entry}
use Rattle.answer_board.proofs.Slotted.{empty_listing, empty_places}
use Rattle.answer_board.proofs.listing.Listing.new.Goals as goal

pub invariant_of-result : goal.invariant_of-result
invariant_of-result c =
    let rows : c.in_ok-new.field-0 ≡ empty_rows c.args.scene.now = search rules in
    let none : c.new-2.result.items ≡ [] = search rules in
    subst (λ (z : List (List (Option ℕ))). IsListing z c.new-2.result.items) (sym rows) (subst (λ (z : List Entry). IsListing (empty_rows c.args.scene.now) z) (sym none) (empty_listing c.args.scene.now))

pub returns : goal.returns
returns c =
    let rows : c.in_ok-new.field-0 ≡ empty_rows c.args.scene.now = search rules in
    let none : c.new-2.result.items ≡ [] = search rules in
    let places : map length c.in_ok-new.field-0 ≡ places_of c.args.scene.now = ap (λ (z : List (List (Option ℕ))). map length z) rows ∙ empty_places c.args.scene.now in
    λ j. record { places = places j; items = none j }
