use Rattle.std.proofs.Common.{ap, arith, get_or, length, refl, sym, ◌+◌, ◌<◌, ◌∙◌, ◌≡◌}
use Rattle.std.proofs.lemmas.Option.{slice_get-get_or}
use Rattle.std.specs.Prelude.{Some, slice_index}
use Rattle.cluster_run.proofs.Bounds.{bound_end, bound_from, bound_turn}
use Rattle.cluster_run.proofs.marks.HeardMarks.bound.Goals as goal
use Rattle.str_model.proofs.Pruning.PruneBounds.{bound_own}

pub loop-i-init : goal.loop-i-init
loop-i-init c = let b = bound_own c.args.low.0 c.args.own c.args.self.now in record { least = omega (arith, b); low = omega arith }

pub loop-i-preserved : goal.loop-i-preserved
loop-i-preserved c =
    let row = c.args.self.now in
    let count = c.len-i-end.ensures ∙ (c.self.inside.times.ok.0 ∙ ap length c.self.view_is) in
    let within : c.loop-i.i < length row = omega (arith, c.loop-i-test.true, count) in
    let read : c.index.result.now ≡ get_or row c.loop-i.i c.index.result.now = c.index.ensures ∙ ap (λ xs. get_or xs c.loop-i.i c.index.result.now) c.self.view_is in
    let some : Some (get_or row c.loop-i.i c.index.result.now) ≡ Some (get_or row c.loop-i.i 0) = sym (slice_get-get_or row c.loop-i.i c.index.result.now within) ∙ slice_get-get_or row c.loop-i.i 0 within in
    let time : c.index.result.now ≡ slice_index row c.loop-i.i = read ∙ (let e : get_or row c.loop-i.i c.index.result.now ≡ get_or row c.loop-i.i 0 = cc some in e) in
    let r = bound_turn c.args.low.0 c.args.own c.loop-i.i (c.loop-i.i + 1) row c.loop-i.least c.lesser-least.result _ _ (omega arith) refl time c.lesser-least.ensures.own c.lesser-least.ensures.other within
    c.loop-i.invariant.least c.loop-i.invariant.low in
    record { least = r.0; low = r.1 }

pub returns : goal.returns
returns c =
    let row = c.args.self.now in
    let count = c.len-i-end.ensures ∙ (c.self.inside.times.ok.0 ∙ ap length c.self.view_is) in
    let over : c.loop-i.i ≡ length row = omega (arith, c.loop-i-test.false, c.loop-i.auto.i-end, count) in
    let rest : bound_from c.args.low.0 c.args.own c.loop-i.i row ≡ c.args.low.0 = ap (λ m. bound_from c.args.low.0 c.args.own m row) over ∙ bound_end c.args.low.0 c.args.own row in
    omega (arith, rest, c.loop-i.invariant.least, c.loop-i.invariant.low)
