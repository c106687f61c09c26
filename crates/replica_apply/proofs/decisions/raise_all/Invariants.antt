use Rattle.std.proofs.Common.{drop, length, ◌≡◌}
use Rattle.str_model.specs.Acts.{raise_all}
use Rattle.replica_apply.proofs.decisions.raise_all.Given as goal

abbrev pub invariant-loop-mark : goal.invariant-loop-mark
invariant-loop-mark l = record {
  rest : raise_all (drop l.mark-index l.mark-items) l.marks ≡ raise_all l.given l.initial.marks;
  len : length l.marks ≡ length l.initial.marks;
}
