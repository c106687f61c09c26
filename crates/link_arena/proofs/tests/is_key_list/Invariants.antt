use Rattle.link_arena.specs.Arenas.{key_list, number_of}
use Rattle.link_arena.specs.Rows.{IsPlace}
use Rattle.link_arena.proofs.tests.is_key_list.Given as goal

-- the slot is one of the key
abbrev pub invariant-slots : goal.invariant-slots
invariant-slots l = IsPlace (number_of l.slot) (key_list l.arena l.fn.key)
