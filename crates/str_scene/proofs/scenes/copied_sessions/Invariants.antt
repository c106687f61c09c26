use Rattle.std.proofs.Common.{◌≡◌, take}
use Rattle.str_scene.proofs.scenes.copied_sessions.Given as goal

abbrev pub invariant-loop-session : goal.invariant-loop-session
invariant-loop-session l = l.copy.items ≡ take l.session-index l.sessions
