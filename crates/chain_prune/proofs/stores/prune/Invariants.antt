use Rattle.std.proofs.Common.{drop, length, ◌+◌, ◌^◌, ◌<◌, ◌≡◌, ◌≤◌}
use Rattle.replica_store.specs.StoreLists.{StaysHere}
use Rattle.chain_prune.specs.Hidden.{AgreeBelow, pruned_among}
use Rattle.chain_prune.proofs.stores.prune.Given as goal

-- the keys of the crowd from this place on are pruned
abbrev pub invariant-loop-place : goal.invariant-loop-place
invariant-loop-place l = record {
  versions : l.store.versions ≡ pruned_among (drop l.place l.fn.store.crowd) l.below.0 l.fn.store.versions;
  crowd : AgreeBelow l.place l.store.crowd l.fn.store.crowd;
  count : length l.fn.store.versions < 2 ^ 64 → l.dropped + length l.store.versions ≡ length l.fn.store.versions;
  here : StaysHere l.fn.store l.store;
  spare : l.fn.store.spare ≤ l.store.spare;
}
