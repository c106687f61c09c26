-- After each event every dependency of an undecided transaction stands: one pass upwards finishes every cascade.
use Rattle.std.proofs.Common.{Bool, List, None, Option, Some, add-sub_cancel, ap, arith, false, inl, inr, length, refl, slice_get, slice_set, subst, suc, sym, true, zero, ℕ, ◌-◌, ◌<◌, ◌∙◌, ◌≡◌, ◌≢◌, ◌⊎◌}
use Rattle.dependency_set.specs.declared.names.Dep.{Dep}
use Rattle.str_model.specs.declared.messages.Input.{Input}
use Rattle.str_model.specs.Acts.{aborted}
use Rattle.str_model.specs.Owned.{IsTimed, Owns}
use Rattle.str_model.specs.Pass
use Rattle.str_model.specs.Runs.{opening_view}
use Rattle.str_scene.specs.Scenes.{Here, Scene}
use Rattle.str_model.specs.Scripts
use Rattle.str_model.specs.Turns.{DepTurn, Keep, Late, Lost, dep_turn, own_fate, phase_fate}
use Rattle.str_model.specs.Turns
use Rattle.str_model.specs.Views.{Aborted, Committed, Doing, Own, Phase, View, is_decided, lc_of, starts}
use Rattle.str_model.proofs.Principle.SingleChanges.{Act, InRule, InTurn, InWait, Where, along}
use Rattle.str_model.proofs.Principle.StepPaths.{StepPath, first-path, resolved_first, rest-path, turn-path}
use Rattle.str_model.proofs.OwnFacts.TurnsBelow.{Below, OpenAt, UpTo, fate_same, keeps_below, keeps_up_to, leaves, resolve_all-open}
use Rattle.str_model.proofs.OwnFacts.EarlierDependencies.{depends-act}
use Rattle.str_model.proofs.Changes.DependencyLooks.{after_look}
use Rattle.str_model.proofs.OwnFacts.LocalOwners.{Depends, same_own}
use Rattle.str_model.proofs.OwnFacts.NodeTimes.{timed_opening}
use Rattle.str_base.proofs.Lists.{get_set, get_set_other}
use Rattle.str_base.specs.Members.{In}

-- ---- the first part of a turn leaves open dependencies alone

written : (v : List Own) (i : ℕ) (x z y : Own) → slice_get v i ≡ Some x → slice_get (slice_set v i z) i ≡ Some y → y ≡ z
written v i x z y is own = let k : Some y ≡ Some z = sym own ∙ get_set v i x z is in cc k

resolved-open : (here : Here) (i : ℕ) (x : Own) (t : DepTurn) (d : Doing) → Owns d.view i x → dep_turn d.view.own x.snap ≡ t
    → Depends here (after_look here i x t d).view → OpenAt (after_look here i x t d).view i
unfolding dep_turn aborted
resolved-open here i x (Lost q ffc ds) d is e b y dep own op m =
    let z : Own = record x { snap = record (x.snap) { ffc = ffc; deps = ds } } in
    absurd (cc (ap (λ z. is_decided z.phase) (written (slice_set d.view.own i z) i z _ y (get_set d.view.own i x z is) own), op))
resolved-open here i x (Late q fc ffc ds) d is e b y dep own op m =
    let z : Own = record x { snap = record (x.snap) { ffc = ffc; deps = ds } } in
    absurd (cc (ap (λ z. is_decided z.phase) (written (slice_set d.view.own i z) i z _ y (get_set d.view.own i x z is) own), op))
resolved-open here i x (Keep ffc ds) d is e b y dep own op m =
    let z : Own = record x { snap = record (x.snap) { ffc = ffc; deps = ds } } in
    let w = b.deps i y dep own op m in
    let same : y ≡ z = written d.view.own i x z y is own in
    let in_ds : In dep ds = subst (λ (k : Own). In dep k.snap.deps) same m in
    let at : dep.seq - 1 ≡ w.place = ap (λ n. n - 1) w.seq ∙ add-sub_cancel w.place 1 in
    ap own_fate (get_set_other d.view.own i (dep.seq - 1) z (λ q. absurd (omega (arith, q, at, w.before))))
    ∙ resolve_all-open d.view.own x.snap.rs x.snap.deps x.snap.ffc ffc ds e dep in_ds

pub of_own-open : (here : Here) (i : ℕ) (o : Option Own) (d : Doing) → slice_get d.view.own i ≡ o → Depends here (Scripts.of_own (Pass.resolve_own here i) o d).view
    → OpenAt (Scripts.of_own (Pass.resolve_own here i) o d).view i
of_own-open here i None d e b = λ x dep own op m. absurd (cc (e, own))
of_own-open here i (Some x) d e b = by_decided (is_decided x.phase) refl b
  where
    by_decided : (c : Bool) → is_decided x.phase ≡ c → Depends here (Scripts.unless_decided c (Pass.resolve_own here i x) d).view → OpenAt (Scripts.unless_decided c (Pass.resolve_own here i x) d).view i
    by_decided true q b' = λ y dep own op m. absurd (cc (ap (λ z. is_decided z.phase) (same_own d.view i i x y e own refl), q, op))
    by_decided false q b' = resolved-open here i x (dep_turn d.view.own x.snap) d e refl b'

module _ (here : Here) (input : Input) where
  -- once its dependencies were looked at, each of them is open
  pub resolved_up : (i : ℕ) (d : Doing) → Below here i d.view → UpTo here i (resolved_first here input (InTurn i) i d).view
  unfolding resolved_first
  resolved_up i d h =
      let d1 : Doing = resolved_first here input (InTurn i) i d in
      let first : Below here i d1.view = along here input (InTurn i) (λ e. Below here i e.view) (keeps_below here input i) d d1 (first-path here input (InTurn i) i d refl) h in
      record { base = first.base; below = first.below; at_it = of_own-open here i (slice_get d.view.own i) d refl first.base }

  pub turn_open : (i : ℕ) (d : Doing) → Below here i d.view → Below here (suc i) (Pass.turn here i d).view
  turn_open i d h =
      let d1 : Doing = resolved_first here input (InTurn i) i d in
      let start : UpTo here i d1.view = resolved_up i d h in
      let end = along here input (InTurn i) (λ e. UpTo here i e.view) (keeps_up_to here input i) d1 (Pass.turn here i d) (rest-path here input (InTurn i) i d refl) start in
      record { base = end.base; below = λ j x dep lt. by_order j x dep end (order j i lt) }
    where
      order : (j n : ℕ) → j < suc n → (j < n) ⊎ (j ≡ n)
      order j n lt = grind arith

      by_order : (j : ℕ) (x : Own) (dep : Dep) → UpTo here i (Pass.turn here i d).view → (j < i) ⊎ (j ≡ i) → Owns (Pass.turn here i d).view j x → is_decided x.phase ≡ false → In dep x.snap.deps
          → own_fate (slice_get (Pass.turn here i d).view.own (dep.seq - 1)) ≡ Turns.Open
      by_order j x dep end (inl lt) own op m = end.below j x dep lt own op m
      by_order j x dep end (inr q) own op m = end.at_it x dep (subst (λ k. Owns (Pass.turn here i d).view k x) q own) op m

  pub pass_open : (n : ℕ) (d : Doing) → Depends here d.view → Below here n (Pass.pass_to here n d).view
  pass_open zero d h = record { base = h; below = λ i x dep lt own op m. absurd (omega (arith, lt)) }
  pass_open (suc i) d h = turn_open i (Pass.pass_to here i d) (pass_open i d h)

  -- those who wait touch no own transaction
  waits_open : (n : ℕ) (d e : Doing) → Act here input InWait d e → Below here n d.view → Below here n e.view
  waits_open n d e a h =
      let l = leaves here input InWait d e (λ q. cc q) a in
      let base = depends-act here input InWait d e a h.base in
      record {
        base = base;
        below = λ j x dep lt own op m.
            let w = base.deps j x dep own op m in
            fate_same InWait d.view e.view dep w.place l w.seq (λ t. t) ∙ h.below j x dep lt (sym (l.others j (λ t. t)) ∙ own) op m;
      }

  pub same_length : (w : Where) → (w ≢ InRule) → (n : ℕ) (d e : Doing) → Act here input w d e → length d.view.own ≡ n → length e.view.own ≡ n
  same_length w f n d e a q = (leaves here input w d e f a).same_length ∙ q

  pub pass_length : (n : ℕ) (d : Doing) → length (Pass.pass_to here n d).view.own ≡ length d.view.own
  pass_length zero d = refl
  pass_length (suc i) d =
      along here input (InTurn i) (λ e. length e.view.own ≡ length d.view.own) (same_length (InTurn i) (λ q. cc q) (length d.view.own))
      (Pass.pass_to here i d) (Pass.turn here i (Pass.pass_to here i d)) (turn-path here input (InTurn i) i (Pass.pass_to here i d) refl) (pass_length i d)

  pub step_open : (v : View) (e : Doing) → StepPath here input (starts v) e → Below here (length v.own) v → Below here (length e.view.own) e.view
  step_open v e s h =
      let r = s.ruled in
      let n = length r.view.own in
      let base = along here input InRule (λ d. Depends here d.view) (depends-act here input InRule) (starts v) r s.rule h.base in
      let passed = pass_open n r base in
      let end = along here input InWait (λ d. Below here n d.view) (waits_open n) (Pass.pass_to here n r) e s.waits passed in
      let len : length e.view.own ≡ n = along here input InWait (λ d. length d.view.own ≡ n) (same_length InWait (λ q. cc q) n) (Pass.pass_to here n r) e s.waits (pass_length n r) in
      subst (λ k. Below here k e.view) (sym len) end

pub open_opening : (here : Here) (scene : Scene) → Below here (length (opening_view scene).own) (opening_view scene)
open_opening here scene =
    record {
      base = record { times = timed_opening scene; locals = λ u h k. absurd h; deps = λ i x dep own op m. absurd (cc own) };
      below = λ i x dep lt own op m. absurd (cc own);
    }

-- what has an LC and the fate of an undecided one is undecided
pub fate_open : (f lc : ℕ) (x : Own) → IsTimed f x → lc_of x.phase ≡ Some lc → phase_fate x.phase ≡ Turns.Open → is_decided x.phase ≡ false
fate_open f lc x t l o = by_phase x.phase refl
  where
    by_phase : (p : Phase) → x.phase ≡ p → is_decided x.phase ≡ false
    by_phase (Committed m None) e = absurd (cc (ap lc_of e, t.without_fc m e, l))
    by_phase (Committed m (Some fc)) e = absurd (cc (ap phase_fate e, o))
    by_phase (Aborted m c) e = absurd (cc (ap phase_fate e, o))
    by_phase _ e = ap is_decided e
