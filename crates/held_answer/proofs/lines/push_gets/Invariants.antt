use Rattle.std.proofs.Common.{flat_map, take, ◌++◌, ◌≡◌}
use Rattle.str_model.specs.Lines.{get_spelled}
use Rattle.held_answer.proofs.lines.push_gets.Given as goal

abbrev pub invariant-loop-got : goal.invariant-loop-got
invariant-loop-got l = l.out.items ≡ l.fn.out.items ++ flat_map (get_spelled l.keys) (take l.got-index l.gets)
