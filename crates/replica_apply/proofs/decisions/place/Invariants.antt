use Rattle.std.proofs.Common.{drop, length, map, ◌+◌, ◌≡◌, ◌≤◌}
use Rattle.replica_apply.specs.Changes.{CanInsert}
use Rattle.replica_store.specs.StoreLists.{StaysHere}
use Rattle.str_base.specs.Versions.{insert_all}
use Rattle.str_model.specs.Acts.{pre_version}
use Rattle.replica_apply.proofs.decisions.place.Given as goal

abbrev pub invariant-loop-write : goal.invariant-loop-write
invariant-loop-write l = record {
  rest : insert_all (map (pre_version l.a l.ts.0) (drop l.write-index l.write-items)) l.store.versions
      ≡ insert_all (map (pre_version l.a l.ts.0) l.a.writes) l.initial.store.versions;
  other : CanInsert (map (pre_version l.a l.ts.0) (drop l.write-index l.write-items)) l.store.versions;
  here : StaysHere l.initial.store l.store;
  room : length (drop l.write-index l.write-items) ≤ l.store.spare;
  spare : l.initial.store.spare ≤ l.store.spare + l.write-index;
}
