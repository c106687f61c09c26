use Rattle.std.proofs.Common.{length}
use Rattle.link_arena.specs.Arenas.{at, key_list, number_of}
use Rattle.link_arena.specs.Rows.{IsPlace}
use Rattle.version_chain.specs.ChainLists.{of_write}
use Rattle.version_chain.specs.Flat.{from_slot}
use Rattle.version_chain.proofs.Pending.{IsPending}
use Rattle.version_chain.proofs.writes.slot_of.Given as goal

-- the slot is one of the key, and what fits is in a slot from there on
abbrev pub invariant-slots : goal.invariant-slots
invariant-slots l = record {
  place : IsPlace (number_of l.slot) (key_list l.arena l.key);
  pending : IsPending (at l.arena) (of_write l.key l.tx) (λ v. ⊥) (from_slot (number_of l.slot) (key_list l.arena l.key));
}

abbrev pub decreases-slots : goal.decreases-slots
decreases-slots l = length (from_slot (number_of l.slot) (key_list l.arena l.key))
