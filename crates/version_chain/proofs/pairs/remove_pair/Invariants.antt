use Rattle.std.proofs.Common.{length, ◌≡◌}
use Rattle.str_base.specs.Versions.{of_pair, without}
use Rattle.link_arena.specs.Arenas.{at, number_of, tx_list}
use Rattle.link_arena.specs.Rows.{IsPlace}
use Rattle.version_chain.specs.Flat.{IsChains, flat, from_slot}
use Rattle.version_chain.proofs.Pending.{IsPending}
use Rattle.version_chain.proofs.pairs.remove_pair.Given as goal

-- what fits is in a slot from there on, and all others stand as they did
abbrev pub invariant-slots : goal.invariant-slots
invariant-slots l = record {
  chains : IsChains l.arena;
  place : IsPlace (number_of l.slot) (tx_list l.arena l.tx);
  pending : IsPending (at l.arena) (of_pair l.tx l.part) (λ v. ⊥) (from_slot (number_of l.slot) (tx_list l.arena l.tx));
  others : without (of_pair l.tx l.part) (flat l.arena) ≡ without (of_pair l.tx l.part) (flat l.fn.arena);
  spare : l.arena.spare ≡ l.fn.arena.spare;
}

abbrev pub decreases-slots : goal.decreases-slots
decreases-slots l = length (from_slot (number_of l.slot) (tx_list l.arena l.tx))
