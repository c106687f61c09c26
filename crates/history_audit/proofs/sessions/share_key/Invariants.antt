use Rattle.std.proofs.Common.{drop, ◌≡◌}
use Rattle.std.specs.List.{list_any}
use Rattle.history_audit.specs.Tests.{is_written_in, share_key, written_key}
use Rattle.history_audit.proofs.sessions.share_key.Given as goal

abbrev pub invariant-loop-op : goal.invariant-loop-op
invariant-loop-op l = list_any (λ op. is_written_in l.others (written_key op)) (drop l.op-index l.ops) ≡ share_key l.ops l.others
