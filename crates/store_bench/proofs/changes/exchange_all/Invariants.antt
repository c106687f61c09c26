use Rattle.replica_store.specs.StoreLists.{StaysHere}
use Rattle.store_bench.specs.Filled.{IsEarlier}
use Rattle.version_chain.specs.ChainLists.{Each}
use Rattle.store_bench.proofs.changes.exchange_all.Given as goal

abbrev pub invariant-loop-i : goal.invariant-loop-i
invariant-loop-i l = record {
  here : StaysHere l.initial.store l.store;
  earlier : Each (IsEarlier l.i) l.store.versions;
}
