use Rattle.std.proofs.Common.{List, ap, arith, length, slice_get, sym, take, ◌∙◌}
use Rattle.replica_apply.specs.declared.slaves.Evicted.{Evicted}
use Rattle.str_scene.specs.Scenes.{Here}
use Rattle.node_core.proofs.Rules.ArrivalSteps.{evict_done, evict_facts, step_above, step_fits, step_next, step_open}
use Rattle.node_core.proofs.Whole.Moves.{did_self}
use Rattle.node_core.proofs.PassTurns.PassOver.{got_index}
use Rattle.node_core.proofs.work.Work.evict_all.Goals as goal

pub loop-evicted-init : goal.loop-evicted-init
loop-evicted-init c = did_self c.args.self.now

pub overflow_sub-evicted : goal.overflow_sub-evicted
overflow_sub-evicted c =
    let items = c.as_slice-evicted-items.result.now in
    let q = c.as_slice-evicted-items.ensures.items in
    let k = c.loop-evicted.evicted-index in
    let e = ap (λ (xs : List Evicted). slice_get xs k) (sym q) ∙ got_index items k _ c.loop-evicted-test.true in
    step_above c.args.self.now c.requires.facts c.args.a.now c.requires.named c.args.evict.now c.requires.evicted k _ e c.loop-evicted.self c.loop-evicted.invariant

pub abort-requires-clause-facts : goal.abort-requires-clause-facts
abort-requires-clause-facts c =
    evict_facts c.args.self.now c.requires.facts c.args.a.now c.requires.named c.args.evict.now (take c.loop-evicted.evicted-index c.args.evict.now) c.loop-evicted.self c.loop-evicted.invariant

pub abort-requires-clause-own : goal.abort-requires-clause-own
abort-requires-clause-own c =
    let items = c.as_slice-evicted-items.result.now in
    let q = c.as_slice-evicted-items.ensures.items in
    let k = c.loop-evicted.evicted-index in
    let e = ap (λ (xs : List Evicted). slice_get xs k) (sym q) ∙ got_index items k _ c.loop-evicted-test.true in
    step_open c.args.self.now c.requires.facts c.args.a.now c.requires.named c.args.evict.now c.requires.evicted k _ e c.loop-evicted.self c.loop-evicted.invariant

pub abort-requires-clause-fits : goal.abort-requires-clause-fits
abort-requires-clause-fits c =
    let items = c.as_slice-evicted-items.result.now in
    let q = c.as_slice-evicted-items.ensures.items in
    let k = c.loop-evicted.evicted-index in
    let e = ap (λ (xs : List Evicted). slice_get xs k) (sym q) ∙ got_index items k _ c.loop-evicted-test.true in
    step_fits c.args.self.now c.requires.facts c.args.a.now c.requires.named c.args.evict.now c.requires.evicted k _ e c.loop-evicted.self c.loop-evicted.invariant c.id-node.result (c.id-node.ensures.value ∙ ap (λ (h : Here). h.node) c.site.ensures.value) c.requires.fits

pub loop-evicted-preserved : goal.loop-evicted-preserved
loop-evicted-preserved c =
    let items = c.as_slice-evicted-items.result.now in
    let q = c.as_slice-evicted-items.ensures.items in
    let k = c.loop-evicted.evicted-index in
    let e = ap (λ (xs : List Evicted). slice_get xs k) (sym q) ∙ got_index items k _ c.loop-evicted-test.true in
    step_next c.args.self.now c.requires.facts c.args.a.now c.requires.named c.args.evict.now c.requires.evicted k _ e c.loop-evicted.self c.loop-evicted.invariant c.id-node.result (c.id-node.ensures.value ∙ ap (λ (h : Here). h.node) c.site.ensures.value) c.abort.new.self c.abort.ensures

pub returns : goal.returns
returns c =
    let m = ap (λ (xs : List Evicted). length xs) c.as_slice-evicted-items.ensures.items in
    evict_done c.args.self.now c.requires.facts c.args.a.now c.requires.named c.args.evict.now c.loop-evicted.evicted-index c.loop-evicted.self (omega (arith, m)) c.loop-evicted.invariant
