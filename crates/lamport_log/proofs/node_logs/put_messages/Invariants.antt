use Rattle.std.proofs.Common.{◌≡◌, ◌+◌, ◌++◌, take, vec_capacity, vec_len}
use Rattle.lamport_log.proofs.node_logs.put_messages.Given as goal

abbrev pub invariant-loop-message : goal.invariant-loop-message
invariant-loop-message l = record {
  items : l.to.items ≡ l.initial.to.items ++ take l.message-index l.from;
  len : vec_len l.to ≡ vec_len l.initial.to + l.message-index;
  capacity : vec_capacity l.to ≡ vec_capacity l.initial.to;
}
