use Rattle.std.proofs.Common.{drop, if◌then◌else◌, length, ◌++◌, ◌≡◌}
use Rattle.str_base.specs.Values.{set_write}
use Rattle.history_audit.proofs.evaluations.with_write.Given as goal

abbrev pub invariant-loop-earlier : goal.invariant-loop-earlier
invariant-loop-earlier l = record {
  size : length l.list ≡ l.earlier-index;
  rest : l.list ++ (if l.is_missing then set_write l.write (drop l.earlier-index l.writes) else drop l.earlier-index l.writes) ≡ set_write l.write l.writes;
}
