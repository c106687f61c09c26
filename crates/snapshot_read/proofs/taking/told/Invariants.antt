use Rattle.std.proofs.Common.{drop, find, ◌==◌, ◌≡◌}
use Rattle.snapshot_read.proofs.taking.told.Given as goal

abbrev pub invariant-loop-other : goal.invariant-loop-other
invariant-loop-other l = find (λ x. x.seq == l.fn.seq) (drop l.other-index l.own) ≡ find (λ x. x.seq == l.fn.seq) l.own
