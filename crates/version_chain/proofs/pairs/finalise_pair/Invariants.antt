use Rattle.std.proofs.Common.{length, ◌≡◌}
use Rattle.str_base.specs.Versions.{finalise, of_pair, settled}
use Rattle.link_arena.specs.Arenas.{at, number_of, tx_list}
use Rattle.link_arena.specs.Rows.{IsPlace}
use Rattle.version_chain.specs.Flat.{IsChains, flat, from_slot}
use Rattle.version_chain.proofs.Pending.{IsPending}
use Rattle.version_chain.proofs.pairs.finalise_pair.Given as goal

-- what fits is in a slot from there on, or is settled, and to settle all comes to what it did
abbrev pub invariant-slots : goal.invariant-slots
invariant-slots l = record {
  chains : IsChains l.arena;
  place : IsPlace (number_of l.slot) (tx_list l.arena l.tx);
  pending : IsPending (at l.arena) (of_pair l.tx l.part) (λ v. settled l.fc.0 v ≡ v) (from_slot (number_of l.slot) (tx_list l.arena l.tx));
  whole : finalise (of_pair l.tx l.part) l.fc.0 (flat l.arena) ≡ finalise (of_pair l.tx l.part) l.fc.0 (flat l.fn.arena);
  spare : l.arena.spare ≡ l.fn.arena.spare;
}

abbrev pub decreases-slots : goal.decreases-slots
decreases-slots l = length (from_slot (number_of l.slot) (tx_list l.arena l.tx))
