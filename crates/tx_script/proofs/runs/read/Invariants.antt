use Rattle.std.proofs.Common.{drop, find, ◌≡◌}
use Rattle.str_base.specs.Versions.{same_key}
use Rattle.tx_script.proofs.runs.read.Given as goal

abbrev pub invariant-loop-done : goal.invariant-loop-done
invariant-loop-done l =
    find (λ r. same_key r.key l.key) (drop l.done-index l.reads) ≡ find (λ r. same_key r.key l.key) l.reads
