use Rattle.std.proofs.Common.{◌≡◌, ◌≤◌, ◌++◌, ◌+◌, take, vec_capacity, vec_len}
use Rattle.door.specs.Searching.{found_among}
use Rattle.door.proofs.looking.push_all_found.Given as goal

abbrev pub invariant-loop-index : goal.invariant-loop-index
invariant-loop-index l = record {
  items : l.answers.items ≡ l.initial.answers.items ++ found_among (take l.index l.found);
  few : vec_len l.answers ≤ vec_len l.initial.answers + l.index;
  capacity : vec_capacity l.answers ≡ vec_capacity l.initial.answers;
}
