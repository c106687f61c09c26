use Rattle.std.proofs.Common.{◌≡◌, ◌+◌, ◌++◌, take, vec_capacity, vec_len}
use Rattle.lamport_log.proofs.node_logs.put_answers.Given as goal

abbrev pub invariant-loop-answer : goal.invariant-loop-answer
invariant-loop-answer l = record {
  items : l.to.items ≡ l.initial.to.items ++ take l.answer-index l.from;
  len : vec_len l.to ≡ vec_len l.initial.to + l.answer-index;
  capacity : vec_capacity l.to ≡ vec_capacity l.initial.to;
}
