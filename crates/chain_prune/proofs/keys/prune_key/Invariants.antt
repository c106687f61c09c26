use Rattle.std.proofs.Common.{length, ◌+◌, ◌^◌, ◌<◌, ◌≡◌, ◌≤◌}
use Rattle.str_base.specs.Versions.{chain}
use Rattle.replica_store.specs.StoreLists.{IsStore, StaysHere}
use Rattle.chain_prune.specs.Hidden.{first_hidden, pruned_key}
use Rattle.chain_prune.proofs.keys.prune_key.Given as goal

-- what pruning leaves is the same, and each version that went is counted
abbrev pub invariant-hidden : goal.invariant-hidden
invariant-hidden l = record {
  next : l.hidden ≡ first_hidden l.below.0 (chain l.key l.store.versions);
  pruned : pruned_key l.key l.below.0 l.store.versions ≡ pruned_key l.key l.below.0 l.fn.store.versions;
  crowd : l.store.crowd ≡ l.fn.store.crowd;
  count : l.dropped + length l.store.versions ≡ length l.fn.store.versions;
  count_of_key : l.dropped + length (chain l.key l.store.versions) ≡ length (chain l.key l.fn.store.versions);
  limit : length (chain l.key l.fn.store.versions) < 2 ^ 63;
  here : StaysHere l.fn.store l.store;
  spare : l.fn.store.spare ≤ l.store.spare;
  kept : IsStore l.fn.store × IsStore l.store;
}

abbrev pub decreases-hidden : goal.decreases-hidden
decreases-hidden l = length l.store.versions
