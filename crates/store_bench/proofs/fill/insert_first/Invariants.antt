use Rattle.replica_store.specs.StoreLists.{StaysHere}
use Rattle.store_bench.specs.Filled.{Held}
use Rattle.version_chain.specs.ChainLists.{Each}
use Rattle.store_bench.proofs.fill.insert_first.Given as goal

abbrev pub invariant-loop-i : goal.invariant-loop-i
invariant-loop-i l = record {
  here : StaysHere l.initial.store l.store;
  held : Each (Held l.i 1) l.store.versions;
}
