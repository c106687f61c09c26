use Rattle.std.proofs.Common.{List, ap, arith, length, slice_get, slice_index_or, sym, ℕ, ◌∙◌}
use Rattle.node_core.proofs.Whole.Moves.{did_self}
use Rattle.node_core.proofs.PassTurns.PassOver.{got_index}
use Rattle.node_core.proofs.PassTurns.PassSteps.{pass_done, pass_facts, pass_fits, pass_next, pass_opens, pass_own}
use Rattle.node_core.proofs.work.Work.pass.Goals as goal

pub loop-place-init : goal.loop-place-init
loop-place-init c = did_self c.args.self.now

pub turn-requires-clause-facts : goal.turn-requires-clause-facts
turn-requires-clause-facts c =
    let items = c.as_slice-place-items.result.now in
    let q = c.as_slice-place-items.ensures.items ∙ c.undecided-places.ensures in
    let k = c.loop-place.place-index in
    let e = ap (λ (xs : List ℕ). slice_get xs k) (sym q) ∙ got_index items k 0 c.loop-place-test.true in
    pass_facts c.args.self.now c.requires.facts k (slice_index_or items k 0) e c.loop-place.self c.loop-place.invariant

pub turn-requires-clause-own : goal.turn-requires-clause-own
turn-requires-clause-own c =
    let items = c.as_slice-place-items.result.now in
    let q = c.as_slice-place-items.ensures.items ∙ c.undecided-places.ensures in
    let k = c.loop-place.place-index in
    let e = ap (λ (xs : List ℕ). slice_get xs k) (sym q) ∙ got_index items k 0 c.loop-place-test.true in
    pass_own c.args.self.now c.requires.facts k (slice_index_or items k 0) e c.loop-place.self c.loop-place.invariant

pub turn-requires-clause-open_ : goal.turn-requires-clause-open_
turn-requires-clause-open_ c =
    let items = c.as_slice-place-items.result.now in
    let q = c.as_slice-place-items.ensures.items ∙ c.undecided-places.ensures in
    let k = c.loop-place.place-index in
    let e = ap (λ (xs : List ℕ). slice_get xs k) (sym q) ∙ got_index items k 0 c.loop-place-test.true in
    pass_opens c.args.self.now c.requires.facts k (slice_index_or items k 0) e c.loop-place.self c.loop-place.invariant

pub turn-requires-clause-fits : goal.turn-requires-clause-fits
turn-requires-clause-fits c =
    let items = c.as_slice-place-items.result.now in
    let q = c.as_slice-place-items.ensures.items ∙ c.undecided-places.ensures in
    let k = c.loop-place.place-index in
    let e = ap (λ (xs : List ℕ). slice_get xs k) (sym q) ∙ got_index items k 0 c.loop-place-test.true in
    pass_fits c.args.self.now c.requires.facts k (slice_index_or items k 0) e c.loop-place.self c.loop-place.invariant c.requires.fits

pub loop-place-preserved : goal.loop-place-preserved
loop-place-preserved c =
    let items = c.as_slice-place-items.result.now in
    let q = c.as_slice-place-items.ensures.items ∙ c.undecided-places.ensures in
    let k = c.loop-place.place-index in
    let e = ap (λ (xs : List ℕ). slice_get xs k) (sym q) ∙ got_index items k 0 c.loop-place-test.true in
    pass_next c.args.self.now c.requires.facts k (slice_index_or items k 0) e c.loop-place.self c.loop-place.invariant c.turn.new.self c.turn.ensures

pub returns : goal.returns
returns c =
    let q = c.as_slice-place-items.ensures.items ∙ c.undecided-places.ensures in
    let m = ap (λ (xs : List ℕ). length xs) q in
    pass_done c.args.self.now c.requires.facts c.loop-place.place-index c.loop-place.self (omega (arith, m)) c.loop-place.invariant
