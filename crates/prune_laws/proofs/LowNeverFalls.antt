-- A node's low mark never falls, and no transaction that is undecided later or begins later has a snapshot below it.
use Rattle.prune_laws.specs.PruneLaw.{LowNeverFalls}
use Rattle.si_laws.proofs.Stages.LinkedStates.{one_of}
use Rattle.std.proofs.Common.{List, Some, ap, arith, inl, inr, length, slice_get, slice_set, subst, sym, ℕ, ◌∙◌, ◌≡◌, ◌≤◌}
use Rattle.std.proofs.lemmas.Option.{slice_get_within}
use Rattle.str_base.proofs.Lists.{get_set, get_set_other, got_push, got_set}
use Rattle.str_model.specs.Acts.{fresh}
use Rattle.str_model.specs.declared.messages.Input.{Input}
use Rattle.str_model.specs.Owned.{Owns}
use Rattle.str_model.specs.Pruning.{low}
use Rattle.str_model.specs.Runs.{World, opening, run}
use Rattle.str_model.specs.Views.{Doing, Own, View}
use Rattle.str_scene.specs.Scenes.{Scene}
use Rattle.str_model.proofs.Changes.OwnChanges.{OwnStep, own_step, rests, starts_one, turns_one}
use Rattle.str_model.proofs.OwnFacts.NodeTimes.{becomes-rs}
use Rattle.str_model.proofs.Principle.Everywhere.{IsSeen, Stage, at_place, during, ever_after, run-append, stage_of}
use Rattle.str_model.proofs.Principle.SingleChanges.{Act, Where}
use Rattle.str_model.proofs.Pruning.PruneKept.{Above, above-act, above_low, low_above}

-- the own transactions from the k-th on have snapshots at or above the mark
abbrev BegunAbove : ℕ → ℕ → View → Type 0
BegunAbove g k v = (i : ℕ) (x : Own) → Owns v i x → k ≤ i → g ≤ x.snap.rs

begun_step : (g k : ℕ) (d e : View) → OwnStep d e → Above g d → BegunAbove g k d → BegunAbove g k e
begun_step g k d e (rests o f) a b i x q le = b i x (ap (λ (xs : List Own). slice_get xs i) (sym o) ∙ q) le
begun_step g k d e (starts_one place rs up o f) a b i x q le =
    elim (got_push d.own i (fresh place rs) x (ap (λ (xs : List Own). slice_get xs i) (sym o) ∙ q)) [
      | inl p ↦ (let s : x.snap.rs ≡ rs = ap (λ (z : Own). z.snap.rs) p.1 in let l = a.floor in omega (arith, s, l, up))
      | inr p ↦ b i x p le
    ]
begun_step g k d e (turns_one j x y is o t) a b i u q le =
    elim (got_set d.own j i y u (ap (λ (xs : List Own). slice_get xs i) (sym o) ∙ q)) [
      | inl p ↦ (let s : u.snap.rs ≡ y.snap.rs = ap (λ (z : Own). z.snap.rs) p.1 in
          let r = becomes-rs d d.floor e.floor x y t in
          let n = p.0 in
          let old : g ≤ x.snap.rs = b j x is (omega (arith, n, le)) in omega (arith, s, r, old))
      | inr p ↦ b i u p.1 le
    ]

module _ (scene : Scene) (n g k : ℕ) where
  -- the n-th node's view, where there is one, keeps above the mark
  abbrev KeepsAbove : Stage → Type 0
  KeepsAbove s = (u : View) → slice_get s.nodes n ≡ Some u → Above g u × BegunAbove g k u

  above_stays : (s : Stage) (i : ℕ) (v : View) (input : Input) (w : Where) (d e : Doing) → slice_get s.nodes i ≡ Some v → IsSeen s input → KeepsAbove s → Act (at_place scene i) input w d e
      → KeepsAbove (during s i d) → KeepsAbove (during s i e)
  above_stays s i v input w d e is seen hs act h u q =
      elim (got_set s.nodes i n e.view u q) [
        | inl z ↦ (let a = h d.view (ap (λ (m : ℕ). slice_get (slice_set s.nodes i d.view) m) z.0 ∙ get_set s.nodes i v d.view is) in
            subst (λ (y : View). Above g y × BegunAbove g k y) (sym z.1)
            (above-act g (at_place scene i) input w d e act a.0, begun_step g k d.view e.view (own_step (at_place scene i) input w d e act) a.0 a.1))
        | inr z ↦ h u (get_set_other s.nodes i n d.view z.0 ∙ z.1)
      ]

pub low_never_falls : LowNeverFalls
low_never_falls scene early late n v u at later =
    let begins : KeepsAbove scene n (low v) (length v.own) (stage_of (run scene early)) =
    (λ y q. subst (λ (z : View). Above (low v) z × BegunAbove (low v) (length v.own) z) (one_of v y (slice_get (run scene early).nodes n) at q)
    (above_low v, λ i x own le. let l = slice_get_within v.own i x own in absurd (omega (arith, l, le)))) in
    let a =
    ever_after scene (KeepsAbove scene n (low v) (length v.own)) (above_stays scene n (low v) (length v.own)) (run scene early) late begins u
    (ap (λ (w : World). slice_get w.nodes n) (sym (run-append scene (opening scene) early late)) ∙ later) in
    record {
      mark = low_above (low v) u a.0;
      above = λ i x own c. elim c [ inl o ↦ a.0.open_ i x own o | inr le ↦ a.1 i x own le ];
    }
