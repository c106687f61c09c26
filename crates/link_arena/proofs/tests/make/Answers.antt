use Rattle.std.proofs.Common.{sym, false, ◌∙◌, ◌≡◌}
use Rattle.link_arena.specs.Arenas.{number_of}
use Rattle.link_arena.specs.Rows.{is_at}
use Rattle.std.proofs.lemmas.Bool.{not-true}
use Rattle.link_arena.proofs.Listed.{place_apart, there}
use Rattle.link_arena.proofs.tests.make.Goals as goal

pub relink-requires-clause-known : goal.relink-requires-clause-known
relink-requires-clause-known c = there c.args.arena.now c.in-Some.ensures.lists c.in-Relink.key c.in-Some.slot.0 c.in-Some.ensures.place

pub relink-requires-clause-place : goal.relink-requires-clause-place
relink-requires-clause-place c v e =
    let o = number_of c.slot_at-before-in-Relink.result in
    let n : is_at o c.in-Some.slot.0 ≡ false = not-true (is_at o c.in-Some.slot.0) (sym c.is_apart.ensures ∙ c.if-is_apart.true) in
    place_apart c.args.arena.now c.in-Some.ensures.lists c.in-Relink.key c.in-Some.slot.0 o v c.in-Some.ensures.place e c.slot_at-before-in-Relink.ensures.place n

pub unlink-requires : goal.unlink-requires
unlink-requires c = there c.args.arena.now c.in-Some-slot_at.ensures.lists c.in-Unlink.key c.in-Some-slot_at.slot.0 c.in-Some-slot_at.ensures.place

pub set-requires : goal.set-requires
set-requires c = there c.args.arena.now c.in-Some-slot_at-2.ensures.lists c.in-Set.key c.in-Some-slot_at-2.slot.0 c.in-Some-slot_at-2.ensures.place
