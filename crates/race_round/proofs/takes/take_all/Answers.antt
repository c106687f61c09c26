use Rattle.race_round.proofs.Sequences.{within}
use Rattle.std.proofs.Common.{◌≡◌, ◌+◌, ◌∙◌, ap, eqb-true, refl, sym}
use Rattle.race_round.proofs.Takings.{takes_broken, takes_more, takes_none, takes_own}
use Rattle.race_round.specs.Nodes.{seat_of}
use Rattle.str_base.specs.declared.names.NodeId.{NodeId}
use Rattle.str_scene.specs.Scenes.{Scene}
use Rattle.race_round.proofs.takes.take_all.Goals as goal

pub loop-place-init : goal.loop-place-init
loop-place-init g c = record { took = takes_none (seat_of c.args.n.now) c.requires.seat; clock = refl }

pub returns-then-not-take_some-clause-broken : goal.returns-then-not-take_some-clause-broken
returns-then-not-take_some-clause-broken g c w = takes_broken _ _ _ _ _ (within c.loop-place-test.true c.nodes-place-end.ensures.value (ap (λ (s : Scene). s.nodes) c.scene.ensures)) c.loop-place.invariant.took (c.take_some.ensures.broken c.if-not-take_some.true)

pub loop-place-preserved-then-eq : goal.loop-place-preserved-then-eq
loop-place-preserved-then-eq g c =
    let same : c.loop-place.place + 1 ≡ c.id-id.result.0 = eqb-true (c.loop-place.place + 1) c.id-id.result.0 (sym c.eq.ensures ∙ c.if-eq.true) in
    record {
      took = takes_own _ _ _ c.loop-place.invariant.took (c.requires.seat.ends_ ∙ (ap (λ (x : NodeId). x.0) (sym c.id-id.ensures.value) ∙ sym same));
      clock = c.loop-place.invariant.clock;
    }

pub loop-place-preserved : goal.loop-place-preserved
loop-place-preserved g c =
    record {
      took = takes_more _ _ _ _ c.loop-place.invariant.took (c.take_some.ensures.took c.if-not-take_some.false);
      clock = c.take_some.ensures.clock ∙ c.loop-place.invariant.clock;
    }
