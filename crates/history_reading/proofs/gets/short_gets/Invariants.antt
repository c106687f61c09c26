use Rattle.std.proofs.Common.{take, ◌≡◌}
use Rattle.history_reading.proofs.gets.short_gets.Given as goal

abbrev pub invariant-loop-got : goal.invariant-loop-got
invariant-loop-got l = l.gets ≡ take l.got-index l.list
