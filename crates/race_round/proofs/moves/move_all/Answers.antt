use Rattle.race_round.proofs.Sequences.{within}
use Rattle.std.proofs.Common.{ap, length}
use Rattle.race_round.proofs.ClientSteps.{moves_broken, moves_first, moves_next}
use Rattle.str_scene.specs.Scenes.{Scene}
use Rattle.race_round.proofs.moves.move_all.Goals as goal

pub loop-place-init : goal.loop-place-init
loop-place-init g c = moves_first _ _ c.requires.seat

pub returns-then-not-move_one-clause-broken : goal.returns-then-not-move_one-clause-broken
returns-then-not-move_one-clause-broken g c w = moves_broken _ _ _ _ _ _ _ (within c.loop-place-test.true (ap (λ l. length l) c.sessions-place-end.ensures.value) (ap (λ (s : Scene). length s.sessions) c.scene.ensures)) c.loop-place.invariant (c.move_one.ensures.broken c.if-not-move_one.true)

pub loop-place-preserved : goal.loop-place-preserved
loop-place-preserved g c =
    moves_next _ _ _ _ _ _ _ c.loop-place.invariant (c.move_one.ensures.moved c.if-not-move_one.false) (c.move_one.ensures.readings c.if-not-move_one.false)
