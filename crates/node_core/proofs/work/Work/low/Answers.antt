use Rattle.std.proofs.Common.{List, ap, drop, slice_get, slice_index_or, sym, ℕ, ◌+◌, ◌∙◌}
use Rattle.std.proofs.lemmas.Option.{slice_get_within}
use Rattle.str_model.specs.Pruning.{low, low_from}
use Rattle.node_core.proofs.PassTurns.PassOver.{at_open, got_index}
use Rattle.node_core.proofs.OldVersions.LowMark.{least_at, low_ends, low_next, low_open, owner_at, rs_of}
use Rattle.node_core.proofs.work.Work.low.Goals as goal

pub loop-place-init : goal.loop-place-init
loop-place-init c =
    let own = c.args.self.now.doing.view.own in
    let q = c.as_slice-place-items.ensures.items ∙ c.undecided-places.ensures in
    ap (λ (xs : List ℕ). least_at own c.floor-low.result.0 xs) q ∙ (low_open own c.floor-low.result.0 ∙ ap (λ (f : ℕ). low_from f own) c.floor-low.ensures)

pub rs-rs-requires : goal.rs-rs-requires
rs-rs-requires c =
    let own = c.args.self.now.doing.view.own in
    let items = c.as_slice-place-items.result.now in
    let q = c.as_slice-place-items.ensures.items ∙ c.undecided-places.ensures in
    let k = c.loop-place.place-index in
    let p = slice_index_or items k 0 in
    let o = owner_at own p (at_open 0 own k p (ap (λ (xs : List ℕ). slice_get xs k) (sym q) ∙ got_index items k 0 c.loop-place-test.true)) in
    slice_get_within own p o.0 o.1

pub loop-place-preserved : goal.loop-place-preserved
loop-place-preserved c =
    let own = c.args.self.now.doing.view.own in
    let items = c.as_slice-place-items.result.now in
    let q = c.as_slice-place-items.ensures.items ∙ c.undecided-places.ensures in
    let k = c.loop-place.place-index in
    let p = slice_index_or items k 0 in
    let e = got_index items k 0 c.loop-place-test.true in
    let o = owner_at own p (at_open 0 own k p (ap (λ (xs : List ℕ). slice_get xs k) (sym q) ∙ e)) in
    ap (λ (n : ℕ). least_at own n (drop (k + 1) items)) c.min.ensures
    ∙ low_next own c.loop-place.low.0 c.rs-rs.result.0 (low c.args.self.now.doing.view) items k p e (ap rs_of o.1 ∙ sym (c.rs-rs.ensures o.0 o.1)) c.loop-place.invariant

pub returns : goal.returns
returns c =
    low_ends c.args.self.now.doing.view.own c.loop-place.low.0 (low c.args.self.now.doing.view) c.as_slice-place-items.result.now c.loop-place.place-index c.loop-place-test.false c.loop-place.invariant
