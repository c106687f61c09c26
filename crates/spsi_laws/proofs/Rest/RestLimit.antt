-- No parked Prepare is judged at the limit of timestamps.
use Rattle.std.proofs.Common.{List, None, Option, Some, [], ap, arith, false, find, length, lt-ltb, nat_lt, refl, slice_get, slice_set, subst, suc, zero, ℕ, ◌++◌, ◌+◌, ◌<◌, ◌^◌, ◌∷◌, ◌≡◌, ◌≤◌}
use Rattle.std.specs.List.{sum_by}
use Rattle.si_laws.proofs.Times.TimesBounded.{StageBelow}
use Rattle.si_laws.proofs.Times.ProposalsCounted.{acks_append, acks_in, certified_in, proposed_by, rise_act}
use Rattle.spsi_laws.proofs.Rest.RestPass.{NoLimit, nobody}
use Rattle.str_base.specs.declared.names.Version.{Version}
use Rattle.str_model.proofs.Principle.SingleChanges.{Act, InRule, InTurn, InWait, Path, PathTo, Where, along}
use Rattle.str_model.proofs.Principle.StepPaths.{turn-path}
use Rattle.str_model.proofs.Principle.Everywhere.{at_place, stage_of}
use Rattle.str_model.proofs.Changes.SnapshotsGain.{if_elim}
use Rattle.str_model.proofs.Principle.RulePaths.{rule-path}
use Rattle.str_model.specs.Pass
use Rattle.str_model.specs.Proposals.{Accept, Ignore, MasterTurn, Park, Refuse, master_turn, parks, proposed, refuses, ts_limit}
use Rattle.str_model.specs.Proposals
use Rattle.str_model.specs.Runs.{World}
use Rattle.str_model.specs.Steps
use Rattle.str_model.specs.Turns.{met}
use Rattle.str_model.specs.Views.{Doing, View, starts}
use Rattle.str_model.specs.declared.messages.Arrived.{Arrived}
use Rattle.str_model.specs.declared.messages.Input.{Input}
use Rattle.str_model.specs.declared.messages.Input.TheVariants.{Deliver}
use Rattle.str_model.specs.declared.messages.Message.{Message}
use Rattle.str_model.specs.declared.messages.Waiter.TheVariants.{Held}
use Rattle.str_scene.specs.Scenes.{Here, Scene}
use Rattle.str_model.proofs.ViewFacts.TimesBelow.{BodyBelow, ViewBelow, body_higher, passed_below, view_higher}
use Rattle.str_model.proofs.ViewFacts.ChangesBelow.{view_act}
use Rattle.str_base.proofs.Lists.{sum_by-set_got}
use Rattle.str_base.specs.Members.{In}

pub ignore_is : (v : View) (a : Arrived) → master_turn v a ≡ Ignore → nat_lt (proposed v a) ts_limit ≡ false
unfolding master_turn
ignore_is v a e = by_refuse (find (refuses a) (met a.writes v.versions)) e
  where
    by_park : (o : Option Version) → Proposals.master_parks v a o ≡ Ignore → nat_lt (proposed v a) ts_limit ≡ false
    by_park (Some q) e = absurd (cc e)
    by_park None e = (if_elim (λ t. t ≡ Ignore → nat_lt (proposed v a) ts_limit ≡ false) (nat_lt (proposed v a) ts_limit) (Accept (proposed v a)) Ignore (λ g k. absurd (cc k)) (λ g k. g)) e

    by_refuse : (o : Option Version) → Proposals.master_refuses v a o ≡ Ignore → nat_lt (proposed v a) ts_limit ≡ false
    by_refuse (Some q) e = absurd (cc e)
    by_refuse None e = by_park (find (parks a) (met a.writes v.versions)) e

module _ (here : Here) (b0 : ℕ) (big : 2 ^ 62 ≤ b0) where
  abbrev Held_ : Doing → Type 0
  Held_ d = ViewBelow (b0 + proposed_by d) d.view

  held_act : (input : Input) (w : Where) → ((m : Message) → input ≡ Deliver m → BodyBelow b0 m.body) → (d e : Doing) → Act here input w d e → Held_ d → Held_ e
  held_act input w comes d e a h =
      let r = rise_act here input w d e a in
      view_act here input w (b0 + proposed_by d) (omega (arith, big)) (λ m q valid. body_higher b0 (b0 + proposed_by d) m.body (omega arith) (comes m q)) (b0 + proposed_by e) (omega (arith, r)) d e a (omega (arith, r)) h

  nothing_comes : (m : Message) → nobody ≡ Deliver m → BodyBelow b0 m.body
  nothing_comes m q = absurd (cc q)

  pass_held : (n : ℕ) (d : Doing) → Held_ d → Held_ (Pass.pass_to here n d)
  pass_held zero d h = h
  pass_held (suc i) d h =
      along here nobody (InTurn i) Held_ (held_act nobody (InTurn i) nothing_comes) (Pass.pass_to here i d) (Pass.turn here i (Pass.pass_to here i d)) (turn-path here nobody (InTurn i) i (Pass.pass_to here i d) refl) (pass_held i d h)

  more_proposed : (d e : Doing) → Path here nobody InWait d e → proposed_by d ≤ proposed_by e
  more_proposed d e p = along here nobody InWait (λ z. proposed_by d ≤ proposed_by z) (λ a b act le. let r = rise_act here nobody InWait a b act in omega (arith, r, le)) d e p (omega arith)

  no_limit : (input : Input) (v : View) (r f : Doing) → ((m : Message) → input ≡ Deliver m → BodyBelow b0 m.body) → Held_ (starts v) → Path here input InRule (starts v) r → b0 + proposed_by f ≤ 2 ^ 62 + 2 ^ 19
      → NoLimit here (Pass.pass_to here (length r.view.own) r) f
  no_limit input v r f comes h p few d a to from m e =
      let hr : Held_ r = along here input InRule Held_ (held_act input InRule comes) (starts v) r p h in
      let hp = pass_held (length r.view.own) r hr in
      let hd : Held_ d = along here nobody InWait Held_ (held_act nobody InWait nothing_comes) (Pass.pass_to here (length r.view.own) r) d to hp in
      let le = more_proposed d f from in
      let lc = (hd.waiters (Held a) m).1 in
      let pass = passed_below (b0 + proposed_by d) d.view a.writes hd in
      let below : proposed d.view a < ts_limit = omega (arith, lc, pass, le, few) in
      cc (lt-ltb (proposed d.view a) ts_limit below, ignore_is d.view a e)

-- the same for a node of a run, by the number of proposals before and after
pub run_no_limit : (scene : Scene) (w : World) (n : ℕ) (v : View) (input : Input) (r f : Doing) → StageBelow (2 ^ 62 + (sum_by (λ (u : View). certified_in u.own) w.nodes + acks_in w.sent)) (stage_of w)
    → slice_get w.nodes n ≡ Some v → ((m : Message) → input ≡ Deliver m → In m w.sent) → Steps.rule (at_place scene n) input (starts v) ≡ Some r
    → sum_by (λ (u : View). certified_in u.own) w.nodes + acks_in w.sent ≤ 2 ^ 17
    → sum_by (λ (u : View). certified_in u.own) (slice_set w.nodes n f.view) + acks_in (w.sent ++ f.sent) ≤ 2 ^ 17
    → NoLimit (at_place scene n) (Pass.pass_to (at_place scene n) (length r.view.own) r) f
run_no_limit scene w n v input r f below is seen ruled now few =
    let here : Here = at_place scene n in
    let b : ℕ = 2 ^ 62 + (sum_by (λ (u : View). certified_in u.own) w.nodes + acks_in w.sent) in
    let p : Path here input InRule (starts v) r = subst (λ (o : Option Doing). PathTo here input InRule (starts v) o) ruled (rule-path here input InRule refl (starts v)) in
    let s = sum_by-set_got (λ (u : View). certified_in u.own) w.nodes n v f.view is in
    let t = acks_append w.sent f.sent in
    let one = one_of_sum (λ (u : View). certified_in u.own) w.nodes n v is in
    no_limit here b (omega arith) input v r f (λ m q. below.sent m (seen m q)) (view_higher b (b + proposed_by (starts v)) v (omega arith) (below.nodes n v is)) p (omega (arith, now, few, s, t, one))
  where
    one_of_sum : {A : Type 0} (g : A → ℕ) (xs : List A) (i : ℕ) (x : A) → slice_get xs i ≡ Some x → g x ≤ sum_by g xs
    one_of_sum g [] i x e = absurd (cc e)
    one_of_sum g (y ∷ xs) zero x e = let a = Rattle.std.proofs.lemmas.List.Sums.sum_by-cons g y xs in let q : g y ≡ g x = (let k : y ≡ x = cc e in ap g k) in omega (arith, a, q)
    one_of_sum g (y ∷ xs) (suc i) x e = let a = Rattle.std.proofs.lemmas.List.Sums.sum_by-cons g y xs in let r = one_of_sum g xs i x e in omega (arith, a, r)
