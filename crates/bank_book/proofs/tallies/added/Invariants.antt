use Rattle.std.proofs.Common.{pos, take, ℤ, ◌+ℤ◌, ◌≡◌}
use Rattle.std.specs.Int.{int_wrap, w64}
use Rattle.std.specs.List.{fold}
use Rattle.str_scene.specs.declared.names.Op.{Op}
use Rattle.bank_book.specs.Tallies.{adds}
use Rattle.bank_book.proofs.tallies.added.Given as goal

abbrev pub invariant-loop-op : goal.invariant-loop-op
invariant-loop-op l = l.sum ≡ int_wrap w64 (fold (λ (sum : ℤ) (op : Op). sum +ℤ adds l.key op) (pos 0) (take l.op-index l.ops))
