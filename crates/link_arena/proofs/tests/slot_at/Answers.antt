use Rattle.std.proofs.Common.{Option, subst, sym, true, ℕ, ◌≡◌}
use Rattle.link_arena.specs.Arenas.{key_list, number_of}
use Rattle.link_arena.specs.declared.nodes.Slot.{Slot}
use Rattle.link_arena.specs.Rows.{IsPlace, is_in}
use Rattle.link_arena.proofs.Listed.{first_place, key_next, there}
use Rattle.link_arena.proofs.tests.slot_at.Goals as goal

pub places-init : goal.places-init
places-init c =
    let ss = key_list c.args.arena.now c.args.key in
    subst (λ (o : Option ℕ). IsPlace o ss) (sym c.first_of_key-slot.ensures.first) (first_place ss)

pub next_in_key-slot-requires : goal.next_in_key-slot-requires
next_in_key-slot-requires c =
    let a = c.args.arena.now in
    let s = c.in_ok-slot.field-0.0 in
    let i : is_in s (key_list a c.args.key) ≡ true = subst (λ (o : Option Slot). IsPlace (number_of o) (key_list a c.args.key)) c.in_ok-slot.was c.places.invariant in
    there a c.first_of_key-slot.ensures.lists c.args.key s i

pub places-preserved : goal.places-preserved
places-preserved c =
    let a = c.args.arena.now in
    let s = c.in_ok-slot.field-0.0 in
    let i : is_in s (key_list a c.args.key) ≡ true = subst (λ (o : Option Slot). IsPlace (number_of o) (key_list a c.args.key)) c.in_ok-slot.was c.places.invariant in
    key_next a c.first_of_key-slot.ensures.lists c.args.key s (number_of c.next_in_key-slot.result) i c.next_in_key-slot.ensures
