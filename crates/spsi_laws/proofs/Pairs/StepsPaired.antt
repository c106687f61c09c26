-- Over every run: each that an undecided transaction or one of its dependencies has read from is before each of its dependencies, where both wrote one key.
use Rattle.std.proofs.Common.{Bool, List, None, Option, Some, arith, false, inl, inr, length, refl, slice_get, subst, suc, sym, true, zero, ℕ, ◌∙◌, ◌≡◌}
use Rattle.std.proofs.lemmas.Option.{slice_get_within}
use Rattle.si_laws.proofs.Guards.GuardGrounds.{grounds_opening}
use Rattle.spsi_laws.proofs.Pairs.CertifiedLast.{left_names}
use Rattle.spsi_laws.proofs.Pairs.ReadsBefore.{AllPaired, Calm, Middle, active_path, calm_paired, calm_same, middle_path}
use Rattle.spsi_laws.proofs.Pairs.RulesOnOwn.{Ruled, RuledTo, calm_more, is_calm, operates, own_calm, ruled, set_calm}
use Rattle.str_base.specs.declared.names.Cause.{Cause}
use Rattle.str_model.proofs.Principle.SingleChanges.{InRule, InTurn, InWait, Path, along}
use Rattle.str_model.proofs.Principle.StepPaths.{StepPath, first-path, resolved_first, rest-path}
use Rattle.str_model.proofs.Principle.Everywhere.{IsSeen, Stage, at_place, during, during_start, stage_of, steps_everywhere}
use Rattle.str_model.proofs.Changes.DependencyLooks.{after_look}
use Rattle.str_model.specs.Acts.{aborted, decided_as}
use Rattle.str_model.specs.Owned.{Owns}
use Rattle.str_model.specs.Pass
use Rattle.str_model.specs.Runs.{opening, opening_view, run}
use Rattle.str_model.specs.Scripts
use Rattle.str_model.specs.Turns.{DepTurn, Keep, Late, Lost, dep_turn, left_by}
use Rattle.str_model.specs.Views.{Doing, Own, View, is_decided, put, starts}
use Rattle.str_model.specs.declared.messages.Input.{Input}
use Rattle.str_scene.specs.SceneLimits.{IsScene}
use Rattle.str_scene.specs.Scenes.{Here, Scene}
use Rattle.str_scene.specs.declared.names.Event.{Event}
use Rattle.str_model.proofs.OwnFacts.DependenciesStand.{of_own-open, open_opening, step_open, turn_open}
use Rattle.str_model.proofs.OwnFacts.LocalOwners.{Depends}
use Rattle.str_model.proofs.OwnFacts.EarlierDependencies.{depends-act}
use Rattle.str_model.proofs.OwnFacts.TurnsBelow.{Below, OpenAt, UpTo, keeps_below, leaves}
use Rattle.str_base.proofs.Lists.{get_set, got_replicate, got_set}

-- ---- the first part of a turn

-- what is left by a look is calm
module _ (here : Here) (i : ℕ) (x : Own) (d : Doing) (own : Owns d.view i x) (op : is_decided x.phase ≡ false) where
  left_calm : (t : DepTurn) → dep_turn d.view.own x.snap ≡ t → Calm d.view (put i (record x { snap = left_by t x.snap }) d).view
  left_calm t e =
      set_calm d.view (put i (record x { snap = left_by t x.snap }) d).view i x (record x { snap = left_by t x.snap }) own op refl refl (λ seq n. left_names d.view x.snap t e seq n)

  lost_calm : (cause : Cause) (y : Own) → is_decided y.phase ≡ false → Calm (put i y d).view (aborted here i cause y (put i y d)).view
  unfolding aborted
  lost_calm cause y op' =
      set_calm (put i y d).view (aborted here i cause y (put i y d)).view i y (decided_as (Rattle.str_model.specs.Views.Aborted (Rattle.str_model.specs.Views.lc_of y.phase) cause) y) (get_set d.view.own i x y own) op' refl refl (λ seq n. n)

  look_calm : (t : DepTurn) → dep_turn d.view.own x.snap ≡ t → Calm d.view (after_look here i x t d).view
  look_calm (Keep f es) e = left_calm (Keep f es) e
  look_calm (Lost q f es) e =
      let y : Own = record x { snap = left_by (Lost q f es) x.snap } in
      calm_more d.view (put i y d).view (after_look here i x (Lost q f es) d).view (left_calm (Lost q f es) e) (lost_calm _ y op)
  look_calm (Late q fc f es) e =
      let y : Own = record x { snap = left_by (Late q fc f es) x.snap } in
      calm_more d.view (put i y d).view (after_look here i x (Late q fc f es) d).view (left_calm (Late q fc f es) e) (lost_calm _ y op)

of_own-calm : (here : Here) (i : ℕ) (o : Option Own) (d : Doing) → slice_get d.view.own i ≡ o → Calm d.view (Scripts.of_own (Pass.resolve_own here i) o d).view
of_own-calm here i None d e = own_calm d.view d.view refl
of_own-calm here i (Some x) d e = by_decided (is_decided x.phase) refl
  where
    by_decided : (b : Bool) → is_decided x.phase ≡ b → Calm d.view (Scripts.unless_decided b (Pass.resolve_own here i x) d).view
    by_decided true q = own_calm d.view d.view refl
    by_decided false q = look_calm here i x d e q (dep_turn d.view.own x.snap) refl

first_calm : (here : Here) (input : Input) (i : ℕ) (d : Doing) → Calm d.view (resolved_first here input (InTurn i) i d).view
unfolding resolved_first
first_calm here input i d = of_own-calm here i (slice_get d.view.own i) d refl

-- after it the dependencies of an undecided one are undecided
first_open : (here : Here) (input : Input) (i : ℕ) (d : Doing) → Depends here (resolved_first here input (InTurn i) i d).view → OpenAt (resolved_first here input (InTurn i) i d).view i
unfolding resolved_first
first_open here input i d b = of_own-open here i (slice_get d.view.own i) d refl b

-- ---- a step

-- what is known of each state
pub record Paired (scene : Scene) (s : Stage) : Type 0 where
  pub middle : Middle scene s
  pub open_ : (n : ℕ) (v : View) → slice_get s.nodes n ≡ Some v → Below (at_place scene n) (length v.own) v
  pub pairs : AllPaired scene s

module _ (scene : Scene) (ok : IsScene scene) (s : Stage) (h : Paired scene s) (i : ℕ) (v : View) (input : Input) (is : slice_get s.nodes i ≡ Some v) (seen : IsSeen s input) where
  here : Here
  here = at_place scene i

  -- in the midst of the pass: the turns below n are done
  record Passed (n : ℕ) (d : Doing) : Type 0 where
    middle : Middle scene (during s i d)
    below : Below (at_place scene i) n d.view
    pairs : AllPaired scene (during s i d)

  turned : (n : ℕ) (d : Doing) → Passed n d → Passed (suc n) (Pass.turn (at_place scene i) n d)
  turned n d p =
      let d1 : Doing = resolved_first (at_place scene i) input (InTurn n) n d in
      let first : Path (at_place scene i) input (InTurn n) d d1 = first-path (at_place scene i) input (InTurn n) n d refl in
      let rest : Path (at_place scene i) input (InTurn n) d1 (Pass.turn (at_place scene i) n d) = rest-path (at_place scene i) input (InTurn n) n d refl in
      let mid1 = middle_path scene ok s h.middle.grounds_ i v input is seen (InTurn n) d d1 first p.middle in
      let below1 : Below (at_place scene i) n d1.view = along (at_place scene i) input (InTurn n) (λ e. Below (at_place scene i) n e.view) (keeps_below (at_place scene i) input n) d d1 first p.below in
      let pairs1 = calm_paired scene s i v input is seen (InTurn n) d d1 first p.middle.grounds_.reported (first_calm (at_place scene i) input n d) p.pairs in
      let up1 : UpTo (at_place scene i) n d1.view = record { base = below1.base; below = below1.below; at_it = first_open (at_place scene i) input n d below1.base } in
      record {
        middle = middle_path scene ok s h.middle.grounds_ i v input is seen (InTurn n) d1 (Pass.turn (at_place scene i) n d) rest mid1;
        below = turn_open (at_place scene i) input n d p.below;
        pairs = active_path scene ok s h.middle.grounds_ i v input is seen n d1 (Pass.turn (at_place scene i) n d) rest mid1 up1 pairs1;
      }

  passed : (n : ℕ) (d : Doing) → Passed 0 d → Passed n (Pass.pass_to (at_place scene i) n d)
  passed zero d p = p
  passed (suc n) d p = turned n (Pass.pass_to (at_place scene i) n d) (passed n d p)

  -- after the rule
  record AfterRule (d : Doing) : Type 0 where
    middle : Middle scene (during s i d)
    pairs : AllPaired scene (during s i d)

  start_middle : Middle scene (during s i (starts v))
  start_middle = subst (Middle scene) (sym (during_start s i v is)) h.middle

  start_pairs : AllPaired scene (during s i (starts v))
  start_pairs = subst (AllPaired scene) (sym (during_start s i v is)) h.pairs

  after_rule : (r : Doing) → Path (at_place scene i) input InRule (starts v) r → Ruled (at_place scene i) input (starts v) r → AfterRule r
  after_rule r p (is_calm c) = record {
    middle = middle_path scene ok s h.middle.grounds_ i v input is seen InRule (starts v) r p start_middle;
    pairs = calm_paired scene s i v input is seen InRule (starts v) r p start_middle.grounds_.reported c start_pairs;
  }
  after_rule r p (operates j x own q) =
      let b : Below (at_place scene i) (length v.own) v = h.open_ i v is in
      let up : UpTo (at_place scene i) j v = record {
        base = b.base;
        below = λ k y dep lt o op m. b.below k y dep (slice_get_within v.own k y o) o op m;
        at_it = λ y dep o op m. b.below j y dep (slice_get_within v.own j y o) o op m;
      } in
      record {
        middle = middle_path scene ok s h.middle.grounds_ i v input is seen (InTurn j) (starts v) r q start_middle;
        pairs = active_path scene ok s h.middle.grounds_ i v input is seen j (starts v) r q start_middle up start_pairs;
      }

  -- those who wait touch no own transaction
  waits_calm : (d e : Doing) → Path (at_place scene i) input InWait d e → Calm d.view e.view
  waits_calm d e p =
      let same = along (at_place scene i) input InWait (λ z. (j : ℕ) → slice_get z.view.own j ≡ slice_get d.view.own j)
      (λ a b act f j. (leaves (at_place scene i) input InWait a b (λ q. cc q) act).others j (λ t. t) ∙ f j) d e p (λ j. refl) in
      λ j y own op. calm_same d.view e.view j y (sym (same j) ∙ own) op

  stepped : (e : Doing) → StepPath (at_place scene i) input (starts v) e → Paired scene (during s i e)
  stepped e path =
      let r : Doing = path.ruled in
      let kind : Ruled (at_place scene i) input (starts v) r = subst (λ (o : Option Doing). RuledTo (at_place scene i) input (starts v) o) path.is_rule (ruled (at_place scene i) input (starts v)) in
      let a = after_rule r path.rule kind in
      let n : ℕ = length r.view.own in
      let b0 : Below (at_place scene i) (length v.own) v = h.open_ i v is in
      let base : Depends (at_place scene i) r.view = along (at_place scene i) input InRule (λ d. Depends (at_place scene i) d.view) (depends-act (at_place scene i) input InRule) (starts v) r path.rule b0.base in
      let p = passed n r (record { middle = a.middle; below = record { base = base; below = λ k x dep lt own op m. absurd (omega (arith, lt)) }; pairs = a.pairs }) in
      let d : Doing = Pass.pass_to (at_place scene i) n r in
      let below_e : Below (at_place scene i) (length e.view.own) e.view = step_open (at_place scene i) input v e path b0 in
      record {
        middle = middle_path scene ok s h.middle.grounds_ i v input is seen InWait d e path.waits p.middle;
        open_ = λ m u there. elim (got_set s.nodes i m e.view u there) [
          | inl z ↦ subst (λ (k : ℕ). Below (at_place scene k) (length u.own) u) (sym z.0) (subst (λ (y : View). Below (at_place scene i) (length y.own) y) (sym z.1) below_e)
          | inr z ↦ h.open_ m u z.1
        ];
        pairs = calm_paired scene s i v input is seen InWait d e path.waits p.middle.grounds_.reported (waits_calm d e path.waits) p.pairs;
      }

paired_opening : (scene : Scene) (ok : IsScene scene) → Paired scene (stage_of (opening scene))
paired_opening scene ok = record {
  middle = record { grounds_ = grounds_opening scene ok; counted = λ n i v x r t there own op via by. absurd (empty n i v x there own); nested = λ n v there i k x z seq own op oz names nz. absurd (empty n i v x there own) };
  open_ = λ n v there. subst (λ (u : View). Below (at_place scene n) (length u.own) u) (sym (got_replicate scene.nodes n (opening_view scene) v there)) (open_opening (at_place scene n) scene);
  pairs = λ n i v x there own op r t b via by names. absurd (empty n i v x there own);
}
  where
    empty : (n i : ℕ) (v : View) (x : Own) → slice_get (stage_of (opening scene)).nodes n ≡ Some v → Owns v i x → ⊥
    empty n i v x there own = let o : Owns (opening_view scene) i x = subst (λ (u : View). Owns u i x) (got_replicate scene.nodes n (opening_view scene) v there) own in cc o

-- in every state of a run
pub paired : (scene : Scene) → IsScene scene → (es : List Event) → Paired scene (stage_of (run scene es))
paired scene ok es =
    steps_everywhere scene (Paired scene) (λ s i v input e is seen path h. stepped scene ok s h i v input is seen e path) (paired_opening scene ok) es
