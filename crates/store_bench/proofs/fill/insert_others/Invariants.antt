use Rattle.std.proofs.Common.{◌+◌}
use Rattle.replica_store.specs.StoreLists.{StaysHere}
use Rattle.store_bench.specs.Filled.{Held}
use Rattle.version_chain.specs.ChainLists.{Each}
use Rattle.store_bench.proofs.fill.insert_others.Given as goal

abbrev pub invariant-loop-k : goal.invariant-loop-k
invariant-loop-k l = record {
  here : StaysHere l.initial.store l.store;
  held : Each (Held l.fn.size.versions (1 + l.k)) l.store.versions;
}
