use Rattle.std.proofs.Common.{List, ap, arith, false, refl, slice_get, slice_set, subst, sym, ◌+◌, ◌∙◌, ◌≡◌}
use Rattle.cascade_abort.specs.declared.fates.Fate.{Fate}
use Rattle.cascade_abort.specs.Fates.{Names}
use Rattle.dependency_set.specs.declared.names.Dep.{Dep}
use Rattle.dependency_set.specs.declared.snaps.OwnSnap.{OwnSnap}
use Rattle.dependency_set.specs.Snapshots.{Snap}
use Rattle.str_model.specs.Turns.{dep_turn}
use Rattle.str_model.specs.Views.{Own, is_decided}
use Rattle.node_parts.specs.Owning.{IsOwnList, Looked, Named, OwnState, is_told, told_again}
use Rattle.node_parts.proofs.Owning.DependencyFates.{any_closed, look_changes, look_stays}
use Rattle.node_parts.proofs.Owning.ListKept.{kept_anew}
use Rattle.node_parts.proofs.Owning.NamesKept.{lent, number_is, owns, owns_set, place_there}
use Rattle.node_parts.proofs.own_list.OwnList.look.Goals as goal

pub returns-then-not-has_closed-clause-looked : goal.returns-then-not-has_closed-clause-looked
returns-then-not-has_closed-clause-looked c x e =
    let in' = c.self.inside in
    let now = c.args.self.now.all in
    let all = ap (λ (v : OwnState). v.all) c.self.view_is in
    let l = lent in'.all.items c.args.i c.index.result.now now x all e c.index.ensures in
    let deps : c.deps-deps.result.now ≡ x.snap.deps = c.deps-deps.ensures.value ∙ (ap (λ (z : Snap). z.deps) c.snap.ensures ∙ ap (λ (z : Own). z.snap.deps) l.own) in
    let same : owns c.as_slice.result.now ≡ now = ap owns c.as_slice.ensures.value ∙ all in
    let none : any_closed now x.snap.deps ≡ false =
    sym (λ j. any_closed (same j) (deps j)) ∙ (sym c.has_closed.ensures ∙ c.if-not-has_closed.true) in
    look_stays now c.args.i x e none

pub index_mut-own-requires : goal.index_mut-own-requires
index_mut-own-requires c =
    let in' = c.self.inside in
    let r = c.requires in
    let h = place_there in'.all.items c.args.i r.0 (ap (λ (v : OwnState). slice_get v.all c.args.i) c.self.view_is ∙ r.1) in
    omega (arith, h, in'.all.ok.0)

pub invariant_of-self : goal.invariant_of-self
invariant_of-self c =
    let in' = c.self.inside in
    let old = c.index_mut-own.result.now in
    let new = c.resolve-turn.new.self in
    let e = c.resolve-turn.ensures.own in
    let r = c.requires in
    let l = lent in'.all.items c.args.i old c.args.self.now.all r.0 (ap (λ (v : OwnState). v.all) c.self.view_is) r.1 c.index_mut-own.ensures.value in
    let k = kept_anew in'.node in'.all.items in'.undecided in'.told.items in'.last.items c.args.i (c.args.i + 1) old new c.self.invariant.0 l.stands refl
    (ap (λ (z : Named). z.tx) e) (ap (λ (z : Named). z.own.place) e) (ap (λ (z : Named). is_decided z.own.phase) e) (ap (λ (z : Named). is_told z.own) e) in
    let q = c.tx.ensures ∙ (ap (λ (z : Named). z.tx) e ∙ number_is in'.node in'.all.items c.args.i old c.self.invariant.0.numbered l.stands) in
    let t : c.tell_again.new.told.items ≡ told_again (c.args.i + 1) new.own.snap in'.told.items =
    c.tell_again.ensures.told ∙ (λ j. told_again (q j).seq (c.snap-2.ensures j) in'.told.items) in (
      subst (λ (o : List OwnSnap). IsOwnList in'.node (slice_set in'.all.items c.args.i new) in'.undecided o in'.last.items) (sym t) k,
      omega (arith, c.self.invariant.1, c.tell_again.ensures.capacity),
    )

pub returns-clause-looked : goal.returns-clause-looked
returns-clause-looked c x e =
    let in' = c.self.inside in
    let now = c.args.self.now.all in
    let old = c.index_mut-own.result.now in
    let new = c.resolve-turn.new.self in
    let w = c.resolve-turn.ensures.own in
    let all = ap (λ (v : OwnState). v.all) c.self.view_is in
    let f = lent in'.all.items c.args.i c.index.result.now now x all e c.index.ensures in
    let l = lent in'.all.items c.args.i old now x all e c.index_mut-own.ensures.value in
    let deps : c.deps-deps.result.now ≡ old.own.snap.deps =
    c.deps-deps.ensures.value ∙ (ap (λ (z : Snap). z.deps) c.snap.ensures ∙ (ap (λ (z : Own). z.snap.deps) f.own ∙ sym (ap (λ (z : Own). z.snap.deps) l.own))) in
    let same : owns c.as_slice-2.result.now ≡ now = ap owns c.as_slice-2.ensures.value ∙ all in
    let a : Names now c.deps-deps.result.now c.fates-fates.result.items = subst (λ (o : List Own). Names o c.deps-deps.result.now c.fates-fates.result.items) same c.fates-fates.ensures in
    let b : Names now old.own.snap.deps c.fates-fates.result.items = subst (λ (ds : List Dep). Names now ds c.fates-fates.result.items) deps a in
    let names : Names now old.own.snap.deps c.as_slice-3.result.now = subst (λ (fs : List Fate). Names now old.own.snap.deps fs) (sym c.as_slice-3.ensures.value) b in
    let turn = c.resolve-turn.ensures.turn now names ∙ ap (λ (z : Own). dep_turn now z.snap) l.own in
    let rs = ap (λ (z : Named). z.own.snap.rs) w ∙ ap (λ (z : Own). z.snap.rs) l.own in
    let snap = sym (ap (λ (z : Named). z.own.snap) w) in
    let y : new.own ≡ record x { snap = new.own.snap } = ap (λ (z : Named). z.own) w ∙ (λ j. record (l.own j) { snap = snap j }) in
    subst (λ (o : List Own). Looked now o c.args.i x c.resolve-turn.result) (sym (owns_set in'.all.items c.args.i new now (record x { snap = new.own.snap }) all y))
    (look_changes now c.args.i x c.resolve-turn.result new.own.snap turn rs)
