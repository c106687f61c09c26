-- Dependencies in the midst of a step: each is an earlier transaction that is undecided with a local commit timestamp at or
-- below the snapshot, or has been decided since.
use Rattle.std.proofs.Common.{Some, add-sub_cancel, ap, arith, false, inl, inr, subst, subst₂, sym, ℕ, ◌-◌, ◌<◌, ◌∙◌, ◌≡◌, ◌≤◌, ◌⊎◌}
use Rattle.dependency_set.specs.declared.names.Dep.{Dep}
use Rattle.str_model.specs.declared.messages.Input.{Input}
use Rattle.str_model.specs.Acts.{fresh}
use Rattle.str_model.specs.Owned.{AreTimed, Owns}
use Rattle.str_scene.specs.Scenes.{Here}
use Rattle.str_base.specs.Versions.{stamp}
use Rattle.str_model.specs.Views.{Doing, Own, View, is_decided, lc_of}
use Rattle.str_model.proofs.Principle.SingleChanges.{Act, Where}
use Rattle.str_model.proofs.Changes.SnapshotsGain.{Extends, Gains, gains_it, gains_of}
use Rattle.str_model.proofs.OwnFacts.LocalOwners.{Depends, Locals, WeakDep, after_own, locals-act, same_own}
use Rattle.str_model.proofs.Changes.OwnChanges.{Becomes, OwnStep, aborts, certifies, closes, commits, goes_on, own_step, rests, starts_one, turns_one}
use Rattle.str_model.proofs.OwnFacts.NodeTimes.{timed-step}
use Rattle.str_base.proofs.Lists.{got_push, got_set}
use Rattle.str_base.specs.Members.{In}
use Rattle.std.proofs.lemmas.Bool.{cases_lt}

-- ---- dependencies

lift_dep : (d e : View) (i : ℕ) (x : Own) (dep : Dep) → OwnStep d e → WeakDep d i x dep → WeakDep e i x dep
lift_dep d e i x dep s h =
    let a = after_own d e h.place h.lc h.owner s h.owns h.is_lc in
    record {
      place = h.place;
      owner = a.owner;
      seq = h.seq;
      before = h.before;
      owns = a.owns;
      rs = ap stamp a.rs ∙ h.rs;
      lc = h.lc;
      is_lc = a.lc ∙ h.is_lc;
      below = h.below;
    }

-- the owner of a Local version at or below a snapshot stands before it
pub earlier : (v : View) (t : AreTimed v) (p i lc : ℕ) (o x : Own) → Owns v p o → Owns v i x → lc_of o.phase ≡ Some lc → lc ≤ x.snap.rs → p < i
earlier v t p i lc o x own is l le = by_order (cases_lt p i)
  where
    by_order : (p < i) ⊎ (i ≤ p) → p < i
    by_order (inl h) = h
    by_order (inr h) = absurd (omega (arith, t.rising i p x o h is own, ((t.each p o own).lc lc l).0))

module _ (here : Here) (v : View) (h : Depends here v) where
  gained : (i : ℕ) (x : Own) (dep : Dep) → Owns v i x → Gains v x.snap.rs dep → WeakDep v i x dep
  gained i x dep own (gains_it u o mem k le is q) =
      let lo = h.locals u mem k in
      let same : lo.owner ≡ o = same_own v lo.place (u.tx.seq - 1) lo.owner o lo.owns is (sym (ap (λ n. n - 1) lo.seq ∙ add-sub_cancel lo.place 1)) in
      record {
        place = lo.place;
        owner = lo.owner;
        seq = ap (λ z. z.seq) q ∙ lo.seq;
        before = earlier v h.times lo.place i u.ts.0 lo.owner x lo.owns own lo.lc le;
        owns = lo.owns;
        rs = ap (λ z. stamp z.snap.rs) same ∙ sym (ap (λ z. z.rs) q);
        lc = u.ts.0;
        is_lc = lo.lc;
        below = le;
      }
  gained i x dep own (gains_of u o mem k le is j) =
      let lo = h.locals u mem k in
      let same : lo.owner ≡ o = same_own v lo.place (u.tx.seq - 1) lo.owner o lo.owns is (sym (ap (λ n. n - 1) lo.seq ∙ add-sub_cancel lo.place 1)) in
      let first = earlier v h.times lo.place i u.ts.0 lo.owner x lo.owns own lo.lc le in
      let w = h.deps lo.place lo.owner dep lo.owns lo.open_ (subst (λ (z : Own). In dep z.snap.deps) (sym same) j) in
      let above = ((h.times.each lo.place lo.owner lo.owns).lc u.ts.0 lo.lc).0 in
      record {
        place = w.place;
        owner = w.owner;
        seq = w.seq;
        before = omega (arith, w.before, first);
        owns = w.owns;
        rs = w.rs;
        lc = w.lc;
        is_lc = w.is_lc;
        below = omega (arith, w.below, above, le);
      }

  extended : (i : ℕ) (x y : Own) (dep : Dep) → Owns v i x → is_decided x.phase ≡ false → Extends v x.snap y.snap → In dep y.snap.deps → WeakDep v i y dep
  extended i x y dep own open_ ex j =
      elim (ex.deps dep j) [ inl k ↦ same_rs (h.deps i x dep own open_ k) | inr g ↦ same_rs (gained i x dep own g) ]
    where
      same_rs : WeakDep v i x dep → WeakDep v i y dep
      same_rs w =
          record {
            place = w.place;
            owner = w.owner;
            seq = w.seq;
            before = w.before;
            owns = w.owns;
            rs = w.rs;
            lc = w.lc;
            is_lc = w.is_lc;
            below = omega (arith, w.below, ex.rs);
          }

  deps-step : (e : View) (s : OwnStep v e) (i : ℕ) (x : Own) (dep : Dep) → Owns e i x → is_decided x.phase ≡ false → In dep x.snap.deps → WeakDep e i x dep
  deps-step e (rests q f) i x dep own op j = lift_dep v e i x dep (rests q f) (h.deps i x dep (rw (← q) own) op j)
  deps-step e (starts_one place rs le q f) i x dep own op j =
      elim (got_push v.own i (fresh place rs) x (rw (← q) own)) [
        | inl a ↦ absurd (subst (λ (z : Own). In dep z.snap.deps) a.1 j)
        | inr a ↦ lift_dep v e i x dep (starts_one place rs le q f) (h.deps i x dep a op j)
      ]
  deps-step e (turns_one n x' y' is q b) i x dep own op j =
      elim (got_set v.own n i y' x (rw (← q) own)) [
        | inl a ↦ lift_dep v e i x dep (turns_one n x' y' is q b) (subst₂ (λ m z. WeakDep v m z dep) (sym a.0) (sym a.1) (changed b (subst (λ (z : Own). is_decided z.phase ≡ false) a.1 op) (subst (λ (z : Own). In dep z.snap.deps) a.1 j)))
        | inr a ↦ lift_dep v e i x dep (turns_one n x' y' is q b) (h.deps i x dep a.1 op j)
      ]
    where
      changed : Becomes v v.floor e.floor x' y' → is_decided y'.phase ≡ false → In dep y'.snap.deps → WeakDep v n y' dep
      changed (goes_on r f) o k = extended n x' y' dep is r.was_open r.snap k
      changed (certifies m o' none ph pl ex lt f) o k = extended n x' y' dep is o' ex k
      changed (commits m fc o' some le r f) o k = absurd (cc (ap (λ z. is_decided z.phase) r, o))
      changed (closes o' none r f) o k = absurd (cc (ap (λ z. is_decided z.phase) r, o))
      changed (aborts cause o' r f) o k = absurd (cc (ap (λ z. is_decided z.phase) r, o))

pub depends-act : (here : Here) (input : Input) (w : Where) (d e : Doing) → Act here input w d e → Depends here d.view → Depends here e.view
unfolding Locals
depends-act here input w d e a h =
    let s = own_step here input w d e a in
    record { times = timed-step d.view e.view s h.times; locals = locals-act here input w d e a h.locals; deps = deps-step here d.view h e.view s }
