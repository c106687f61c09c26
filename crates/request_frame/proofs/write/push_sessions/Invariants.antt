use Rattle.std.proofs.Common.{take, ◌++◌, ◌≡◌}
use Rattle.std.specs.Prelude.{flat_map}
use Rattle.request_frame.specs.Writing.{session_bytes}
use Rattle.request_frame.proofs.write.push_sessions.Given as goal

abbrev pub invariant-loop-session : goal.invariant-loop-session
invariant-loop-session l = l.out.items ≡ l.fn.out.items ++ flat_map (session_bytes l.keys) (take l.session-index l.sessions)
