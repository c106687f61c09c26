use Rattle.std.proofs.Common.{flat_map, take, ◌++◌, ◌≡◌}
use Rattle.scene_text.specs.Writing.{session_text}
use Rattle.scene_text.proofs.write.push_sessions.Given as goal

abbrev pub invariant-loop-session : goal.invariant-loop-session
invariant-loop-session l = l.out.items ≡ l.fn.out.items ++ flat_map (session_text l.keys) (take l.session-index l.sessions)
