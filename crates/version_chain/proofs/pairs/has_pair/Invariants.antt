use Rattle.std.proofs.Common.{length}
use Rattle.str_base.specs.Versions.{of_pair}
use Rattle.link_arena.specs.Arenas.{at, number_of, tx_list}
use Rattle.link_arena.specs.Rows.{IsPlace}
use Rattle.version_chain.specs.Flat.{from_slot}
use Rattle.version_chain.proofs.Pending.{IsPending}
use Rattle.version_chain.proofs.pairs.has_pair.Given as goal

-- the slot is one of the transaction, and what fits is in a slot from there on
abbrev pub invariant-slots : goal.invariant-slots
invariant-slots l = record {
  place : IsPlace (number_of l.slot) (tx_list l.arena l.tx);
  pending : IsPending (at l.arena) (of_pair l.tx l.part) (λ v. ⊥) (from_slot (number_of l.slot) (tx_list l.arena l.tx));
}

abbrev pub decreases-slots : goal.decreases-slots
decreases-slots l = length (from_slot (number_of l.slot) (tx_list l.arena l.tx))
