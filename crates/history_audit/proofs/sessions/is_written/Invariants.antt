use Rattle.std.proofs.Common.{drop, ◌≡◌}
use Rattle.std.specs.List.{list_any}
use Rattle.history_audit.specs.Tests.{is_key, is_written, written_key}
use Rattle.history_audit.proofs.sessions.is_written.Given as goal

abbrev pub invariant-loop-op : goal.invariant-loop-op
invariant-loop-op l = list_any (λ op. is_key l.key (written_key op)) (drop l.op-index l.ops) ≡ is_written l.key l.ops
