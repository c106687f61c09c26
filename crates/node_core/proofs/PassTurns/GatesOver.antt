-- The gate of a certified own transaction, looked at until it asks no partition.
use Rattle.std.proofs.Common.{None, Option, Some, ap, arith, false, length, refl, slice_get, subst, suc, sym, ℕ, ◌<◌, ◌∙◌, ◌≡◌, ◌≤◌}
use Rattle.node_core.proofs.Whole.Growing.{Grows, grows_along}
use Rattle.node_core.proofs.PassTurns.OwnMoments.{any_input}
use Rattle.str_base.proofs.Lists.{get_set}
use Rattle.str_base.specs.declared.names.PartId.{PartId}
use Rattle.str_base.specs.Members.{In}
use Rattle.str_model.specs.Acts.{asked, committed, with_asked}
use Rattle.str_model.specs.Gates.{Ask, CommitAt, GateTurn, gate_of}
use Rattle.str_model.specs.NodeFacts.{IsShut, MomentFacts}
use Rattle.str_model.specs.Owned.{Owns}
use Rattle.str_model.specs.Pass.{gate_done, gate_phase, gates, gates_in}
use Rattle.str_model.specs.Views.{Aborted, Active, CertWait, Closing, Committed, Doing, Global, Local, Own, Phase, ReadWait, Remote, Reply, View, is_decided, lc_of}
use Rattle.str_model.proofs.OwnFacts.LocalOwners.{same_own}
use Rattle.str_model.proofs.Principle.SingleChanges.{InTurn}
use Rattle.str_model.proofs.Principle.StepPaths.{gates-path}
use Rattle.str_model.proofs.ViewFacts.GatesEnd.{Asks, OfScene, asks_next, gates-fuel, participants_of, seats_of, to_ask, to_ask-within}
use Rattle.str_model.proofs.ViewFacts.QuietTurns.{open_does}
use Rattle.str_scene.specs.Scenes.{Here, participants}

-- how many partitions are left to be asked by the transaction, where there is one
abbrev pub left_of : Here → Option Own → ℕ
left_of here None = 0
left_of here (Some x) = to_ask here.scene x.parts

abbrev pub asks_left : Here → ℕ → View → ℕ
asks_left here i v = left_of here (slice_get v.own i)

module _ (here : Here) (i : ℕ) (d : Doing) (x : Own) (lc : ℕ) (own : Owns d.view i x) (f : is_decided x.phase ≡ false) (l : lc_of x.phase ≡ Some lc) where
  -- a look at the gate does what the gate says
  pub gates_step : (n : ℕ) → gates here i (suc n) d ≡ gate_done here i (gates here i n) lc x (gate_of here d.view lc x) d
  gates_step n = open_does i (λ z. gate_phase here i (gates here i n) z.phase z) d x own f ∙ by_phase x.phase f l
    where
      at : (m : ℕ) → m ≡ lc → gate_done here i (gates here i n) m x (gate_of here d.view m x) d ≡ gate_done here i (gates here i n) lc x (gate_of here d.view lc x) d
      at m e = ap (λ k. gate_done here i (gates here i n) k x (gate_of here d.view k x) d) e

      by_phase : (p : Phase) → is_decided p ≡ false → lc_of p ≡ Some lc → gate_phase here i (gates here i n) p x d ≡ gate_done here i (gates here i n) lc x (gate_of here d.view lc x) d
      by_phase (Local m) f l = at m (cc l)
      by_phase (Global m) f l = at m (cc l)
      by_phase Active f l = absurd (cc l)
      by_phase (ReadWait k) f l = absurd (cc l)
      by_phase (Remote k) f l = absurd (cc l)
      by_phase (Reply k a by fc) f l = absurd (cc l)
      by_phase CertWait f l = absurd (cc l)
      by_phase (Closing w) f l = absurd (cc l)
      by_phase (Committed m fc) f l = absurd (cc f)
      by_phase (Aborted m c) f l = absurd (cc f)

  -- where it commits, that is all
  pub gates_commit : (n fc : ℕ) → gate_of here d.view lc x ≡ CommitAt fc → gates here i (suc n) d ≡ committed here i lc fc x d
  gates_commit n fc g = gates_step n ∙ ap (λ t. gate_done here i (gates here i n) lc x t d) g

  -- where it waits, nothing changes
  pub gates_shut : (n : ℕ) → IsShut (gate_of here d.view lc x) → gates here i (suc n) d ≡ d
  gates_shut n s = gates_step n ∙ by_turn (gate_of here d.view lc x) s
    where
      by_turn : (t : GateTurn) → IsShut t → gate_done here i (gates here i n) lc x t d ≡ d
      by_turn (Ask p) s = absurd s
      by_turn (CommitAt fc) s = absurd s
      by_turn (GateTurn.Shut q) s = refl
      by_turn (GateTurn.Missing p m) s = refl

-- the participants of an own transaction are of the scene
pub of_scene : (here : Here) (v : View) (i : ℕ) (x : Own) → MomentFacts here v → Owns v i x → OfScene here.scene x.parts
of_scene here v i x h own = by_lc (lc_of x.phase) refl
  where
    by_lc : (o : Option ℕ) → lc_of x.phase ≡ o → OfScene here.scene x.parts
    by_lc None e = λ a m. absurd (subst (In a) ((h.homes i x own).none e) m)
    by_lc (Some lc) e = seats_of here.scene x.parts (participants here.scene here.node x.writes) ((h.homes i x own).seats_are lc e) (participants_of here.scene here.node x.writes)

module _ (here : Here) (i : ℕ) (d : Doing) (x : Own) (own : Owns d.view i x) where
  left_is : asks_left here i d.view ≡ to_ask here.scene x.parts
  left_is = ap (left_of here) own

  asks_of : OfScene here.scene x.parts → Asks here i (asks_left here i d.view) d.view
  asks_of o = record {
    few = λ z own'. (let e = ap (λ (y : Own). to_ask here.scene y.parts) (same_own d.view i i x z own own' refl) in let q = left_is in omega (arith, e, q));
    of = λ z own'. subst (λ (y : Own). OfScene here.scene y.parts) (same_own d.view i i x z own own' refl) o;
  }

  -- so many looks are enough as there are partitions left to be asked
  pub gates_few : MomentFacts here d.view → gates_in here i d ≡ gates here i (suc (asks_left here i d.view)) d
  gates_few h =
      sym (gates-fuel here i (asks_left here i d.view) (length here.scene.parts) d
      (let e = left_is in let w = to_ask-within here.scene x.parts in omega (arith, e, w)) (asks_of (of_scene here d.view i x h own)))

-- one more partition is asked: one fewer is left, and the gate goes on
pub record Asking (here : Here) (i : ℕ) (d e : Doing) : Type 0 where
  pub less : asks_left here i e.view < asks_left here i d.view
  pub same : gates here i (suc (asks_left here i d.view)) d ≡ gates here i (suc (asks_left here i e.view)) e
  pub grows : Grows e (gates here i (suc (asks_left here i d.view)) d)

module _ (here : Here) (i : ℕ) (d : Doing) (x : Own) (lc : ℕ) (own : Owns d.view i x) (f : is_decided x.phase ≡ false) (l : lc_of x.phase ≡ Some lc) where
  pub asked_owns : (p : PartId) → let y : Own = record x { parts = with_asked p x.parts; phase = Global lc } in Owns (asked here i lc p x d).view i y
  unfolding asked
  asked_owns p = get_set d.view.own i x (record x { parts = with_asked p x.parts; phase = Global lc }) own

  pub asking : (p : PartId) → MomentFacts here d.view → gate_of here d.view lc x ≡ Ask p → Asking here i d (asked here i lc p x d)
  asking p h g =
      let n = asks_left here i d.view in
      let e : Doing = asked here i lc p x d in
      let y : Own = record x { parts = with_asked p x.parts; phase = Global lc } in
      let k = asks_left here i e.view in
      let r = asks_next here i n lc p x d own g (asks_of here i d x own (of_scene here d.view i x h own)) in
      let owns : Owns e.view i y = asked_owns p in
      let few = r.2.few y owns in
      let is : k ≡ to_ask here.scene y.parts = left_is here i e y owns in
      let le : k ≤ r.0 = omega (arith, few, is) in
      let q = r.1 in
      let step : gates here i (suc n) d ≡ gates here i n e = gates_step here i d x lc own f l n ∙ ap (λ t. gate_done here i (gates here i n) lc x t d) g in
      let all : gates here i (suc n) d ≡ gates here i (suc k) e = step ∙ (ap (λ m. gates here i m e) q ∙ sym (gates-fuel here i k r.0 e le (asks_of here i e y owns (r.2.of y owns)))) in
      record {
        less = omega (arith, le, q);
        same = all;
        grows = subst (Grows e) (sym all) (grows_along here any_input (InTurn i) e (gates here i (suc k) e) (gates-path here any_input (InTurn i) i (suc k) e refl));
      }
