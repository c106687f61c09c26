use Rattle.std.proofs.Common.{List, ap, arith, length, refl, slice_get, slice_set, subst, sym, ◌+◌, ◌∙◌, ◌≡◌}
use Rattle.dependency_set.specs.declared.snaps.OwnSnap.{OwnSnap}
use Rattle.str_model.specs.NodeFacts.{how_many}
use Rattle.str_model.specs.Views
use Rattle.str_model.specs.Views.{Own, is_decided, lc_of}
use Rattle.snapshot_read.proofs.FromFacts.{told-length}
use Rattle.node_parts.specs.Owning.{IsFree, IsOwnList, Named, OwnState, is_told, told_also}
use Rattle.node_parts.proofs.Owning.ListKept.{certain_told, free_untold, kept_told}
use Rattle.node_parts.proofs.Owning.NamesKept.{at_place, lent, number_is, owns, owns_set, place_there}
use Rattle.node_parts.proofs.own_list.OwnList.certify.Goals as goal

pub tell-requires : goal.tell-requires
tell-requires c =
    let in' = c.self.inside in
    let all = ap (λ (v : OwnState). v.all) c.self.view_is in
    let m : length in'.told.items ≡ how_many is_told c.args.self.now.all = ap length c.self.invariant.0.told_is ∙ (told-length 0 (owns in'.all.items) ∙ ap (how_many is_told) all) in
    omega (arith, m, c.requires.few, c.self.invariant.1, in'.told.ok.0)

pub index_mut-own-requires : goal.index_mut-own-requires
index_mut-own-requires c =
    let in' = c.self.inside in
    let r = c.requires.own in
    let h = place_there in'.all.items c.args.i r.0 (ap (λ (v : OwnState). slice_get v.all c.args.i) c.self.view_is ∙ r.1) in
    omega (arith, h, in'.all.ok.0)

pub certify-requires-clause-free : goal.certify-requires-clause-free
certify-requires-clause-free c =
    let in' = c.self.inside in
    let old = c.index_mut-own.result.now in
    let r = c.requires.own in
    let l = lent in'.all.items c.args.i old c.args.self.now.all r.0 (ap (λ (v : OwnState). v.all) c.self.view_is) r.1 c.index_mut-own.ensures.value in
    subst IsFree (sym l.own) r.2.0

pub certify-requires-clause-rs : goal.certify-requires-clause-rs
certify-requires-clause-rs c =
    let in' = c.self.inside in
    let old = c.index_mut-own.result.now in
    let r = c.requires.own in
    let l = lent in'.all.items c.args.i old c.args.self.now.all r.0 (ap (λ (v : OwnState). v.all) c.self.view_is) r.1 c.index_mut-own.ensures.value in
    r.2.1 ∙ sym (ap (λ (z : Own). z.snap.rs) l.own)

pub invariant_of-self : goal.invariant_of-self
invariant_of-self c =
    let in' = c.self.inside in
    let old = c.index_mut-own.result.now in
    let r = c.requires.own in
    let l = lent in'.all.items c.args.i old c.args.self.now.all r.0 (ap (λ (v : OwnState). v.all) c.self.view_is) r.1 c.index_mut-own.ensures.value in
    let new = c.certify.new.self in
    let e = c.certify.ensures in
    let f : IsFree old.own = subst IsFree (sym l.own) r.2.0 in
    let p = ap (λ (z : Named). z.own.phase) e in
    let k = kept_told in'.node in'.all.items in'.undecided in'.told.items in'.last.items c.args.i (c.args.i + 1) old new c.self.invariant.0 l.stands refl
    (ap (λ (z : Named). z.tx) e) (ap (λ (z : Named). z.own.place) e) (ap is_decided p ∙ sym f.0) (free_untold old.own f) (certain_told new.own c.args.lc.0 (ap is_decided p) (ap lc_of p)) in
    let q = c.tx.ensures ∙ number_is in'.node in'.all.items c.args.i c.index.result.now c.self.invariant.0.numbered (at_place in'.all.items c.args.i c.index.result.now l.place c.index.ensures) in
    let w = c.copy.ensures ∙ sym (ap (λ (z : Named). z.own.snap) e) in
    let t : c.tell.new.told.items ≡ told_also (record { seq = c.args.i + 1; snap = new.own.snap }) in'.told.items =
    c.tell.ensures.told ∙ (λ j. told_also (record { seq = (q j).seq; snap = w j }) in'.told.items) in (
      subst (λ (o : List OwnSnap). IsOwnList in'.node (slice_set in'.all.items c.args.i new) in'.undecided o in'.last.items) (sym t) k,
      omega (arith, c.self.invariant.1, c.tell.ensures.capacity),
    )

pub returns : goal.returns
returns c x e =
    let in' = c.self.inside in
    let old = c.index_mut-own.result.now in
    let new = c.certify.new.self in
    let s = c.self.view_is in
    let a = ap (λ (v : OwnState). v.all) s in
    let l = lent in'.all.items c.args.i old c.args.self.now.all x a e c.index_mut-own.ensures.value in
    let y = ap (λ (z : Named). z.own) c.certify.ensures ∙ ap (λ (z : Own). record z { snap = c.args.snap; parts = c.args.parts; phase = Views.Local c.args.lc.0 }) l.own in
    let all = owns_set in'.all.items c.args.i new c.args.self.now.all _ a y in
    λ j. record { node = (s j).node; all = all j; sessions = (s j).sessions; spare = (s j).spare }
