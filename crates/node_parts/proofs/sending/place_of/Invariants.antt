use Rattle.std.proofs.Common.{drop, take, ◌++◌, ◌≡◌}
use Rattle.str_model.specs.Views.{release}
use Rattle.node_parts.proofs.sending.place_of.Given as goal

abbrev pub invariant-loop-k : goal.invariant-loop-k
invariant-loop-k l = take l.k l.answers ++ release l.answer (drop l.k l.answers) ≡ take l.first l.answers ++ release l.answer (drop l.first l.answers)
