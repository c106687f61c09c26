use Rattle.std.proofs.Common.{Option, subst, true, ◌≡◌}
use Rattle.link_arena.specs.Arenas.{key_list, number_of}
use Rattle.link_arena.specs.declared.nodes.Slot.{Slot}
use Rattle.link_arena.specs.Rows.{IsPlace, is_in}
use Rattle.link_arena.proofs.Listed.{key_next}
use Rattle.link_arena.proofs.tests.is_key_list.Goals as goal

pub slots-preserved : goal.slots-preserved
slots-preserved c =
    let a = c.args.arena.now in
    let s = c.in-Some.here.0 in
    let i : is_in s (key_list a c.args.key) ≡ true = subst (λ (o : Option Slot). IsPlace (number_of o) (key_list a c.args.key)) c.in-Some.is c.slots.invariant in
    key_next a c.first_of_key-slot.ensures.lists c.args.key s (number_of c.next_in_key-slot.result) i c.next_in_key-slot.ensures
