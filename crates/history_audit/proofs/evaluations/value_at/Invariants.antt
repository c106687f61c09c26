use Rattle.std.proofs.Common.{drop, find, ◌≡◌}
use Rattle.str_base.specs.Versions.{same_key}
use Rattle.history_audit.proofs.evaluations.value_at.Given as goal

abbrev pub invariant-loop-write : goal.invariant-loop-write
invariant-loop-write l =
    find (λ w. same_key w.key l.key) (drop l.write-index l.writes) ≡ find (λ w. same_key w.key l.key) l.writes
