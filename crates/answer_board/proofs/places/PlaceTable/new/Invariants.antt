use Rattle.std.proofs.Common.{None, length, map, replicate, take, ◌≡◌}
use Rattle.str_scene.specs.Scenes.{Session}
use Rattle.answer_board.proofs.places.PlaceTable.new.Given as goal

abbrev pub invariant-loop-session : goal.invariant-loop-session
invariant-loop-session l = l.rows.items ≡ map (λ (s : Session). replicate (length s.txs) None) (take l.session-index l.session-items)
