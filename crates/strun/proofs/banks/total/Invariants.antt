use Rattle.std.proofs.Common.{take, ◌≡◌}
use Rattle.std.specs.Int.{int_wrap, w64}
use Rattle.strun.specs.Banks.{total_of}
use Rattle.strun.proofs.banks.total.Given as goal

abbrev pub invariant-loop-got : goal.invariant-loop-got
invariant-loop-got l = l.sum ≡ int_wrap w64 (total_of (take l.got-index l.gots))
