use Rattle.std.proofs.Common.{drop, ◌≡◌}
use Rattle.cascade_abort.specs.Fates.{fate_of}
use Rattle.cascade_abort.proofs.fates.fate_of.Given as goal

abbrev pub invariant-loop-fate : goal.invariant-loop-fate
invariant-loop-fate l = fate_of (drop l.fate-index l.fates) l.seq ≡ fate_of l.fates l.seq
