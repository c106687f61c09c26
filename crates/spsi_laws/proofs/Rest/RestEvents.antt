-- After every list of events each own transaction rests, and those who wait do so for an undecided version.
use Rattle.std.proofs.Common.{arith, length, option_map, ◌^◌, ◌≤◌, List, None, Option, Some, [], add-one, ap, append_assoc, append-nil, inl, inr, refl, slice_get, slice_set, sub-one, subst, subst₂, suc, sym, zero, ℕ, ◌++◌, ◌+◌, ◌-◌, ◌∙◌, ◌∷◌, ◌≡◌}
use Rattle.spsi_laws.proofs.Work.LeftWorld.{fit_opening}
use Rattle.spsi_laws.proofs.Rest.RestPass.{WaitsFor, step_rests, step_waits}
use Rattle.spsi_laws.proofs.Rest.RestTurns.{DoneAt, Fit, fits-act}
use Rattle.spsi_laws.proofs.Work.WorkHolds.{run_more}
use Rattle.str_base.specs.declared.names.NodeId.{NodeId}
use Rattle.str_model.proofs.Principle.StepPaths.{step-keeps}
use Rattle.str_model.proofs.Principle.Everywhere.{at_each_event, at_place}
use Rattle.std.specs.List.{sum_by}
use Rattle.si_laws.proofs.Times.ProposalsFew.{few_proposals}
use Rattle.si_laws.proofs.Times.TimesBounded.{bounded_}
use Rattle.si_laws.proofs.Times.ProposalsCounted.{acks_in, certified_in}
use Rattle.si_laws.specs.Numbers.{proposals}
use Rattle.spsi_laws.proofs.Rest.RestLimit.{run_no_limit}
use Rattle.str_model.specs.Waiters
use Rattle.str_model.specs.Steps.{after_rule}
use Rattle.str_model.specs.Pass.{pass_to}
use Rattle.str_model.specs.Runs.{World, give, happens, opening, opening_view, run}
use Rattle.str_model.specs.Runs
use Rattle.str_model.specs.Steps.{rule, step}
use Rattle.str_model.specs.Views.{Doing, View, starts}
use Rattle.str_model.specs.declared.messages.Input.{Input}
use Rattle.str_model.specs.declared.messages.Input.TheVariants.{Client, Deliver}
use Rattle.str_model.specs.declared.messages.Message.{Message}
use Rattle.str_model.specs.declared.messages.Waiter.{Waiter}
use Rattle.str_scene.specs.declared.names.Event.{Event}
use Rattle.str_scene.specs.declared.names.Event.TheVariants.{Client as ClientEvent, Deliver as DeliverEvent}
use Rattle.str_scene.specs.SceneLimits.{IsScene}
use Rattle.str_scene.specs.Scenes.{Here, Scene, Session, nth}
use Rattle.str_model.proofs.OwnFacts.DependenciesStand.{open_opening}
use Rattle.str_base.proofs.Lists.{got_replicate, got_set}
use Rattle.str_base.proofs.Members.{in_at}
use Rattle.str_base.specs.Members.{In}

pub fits_run : (scene : Scene) → IsScene scene → (es : List Event) (n : ℕ) (v : View) → slice_get (run scene es).nodes n ≡ Some v → Fit (at_place scene n) v
fits_run scene ok es n v g =
    at_each_event scene ok Fit
    (λ here. record { fit = fit_opening here scene; base = (open_opening here scene).base; gives = λ i x o. absurd (cc o); foreign = λ q m p. absurd m })
    (λ here good input u e p h. step-keeps here input (λ d. Fit here d.view) (λ w d f a k. fits-act here input w d f a k) (starts u) e p h) es n v g

-- how many proposals a cluster has seen
abbrev pub Few : List View → List Message → Type 0
Few vs ms = sum_by (λ (u : View). certified_in u.own) vs + acks_in ms ≤ 2 ^ 17

few_run : (scene : Scene) → IsScene scene → (es : List Event) → Few (run scene es).nodes (run scene es).sent
few_run scene ok es = let k = few_proposals scene ok es in let same : proposals (run scene es) ≡ sum_by (λ (u : View). certified_in u.own) (run scene es).nodes + acks_in (run scene es).sent = refl in omega (arith, k, same)

-- the end of a step
step_is : (here : Here) (input : Input) (v : View) (e r : Doing) → rule here input (starts v) ≡ Some r → step here input v ≡ Some e
    → Waiters.wait_turns here [] (pass_to here (length r.view.own) r).view.waiters (pass_to here (length r.view.own) r) ≡ e
unfolding step after_rule
step_is here input v e r k q =
    let s : option_map (after_rule here) (Some r) ≡ Some e = ap (option_map (after_rule here)) (sym k) ∙ q in cc s

module _ (scene : Scene) (ok : IsScene scene) (P : Here → View → Type 0) (opens : (here : Here) → P here (opening_view scene))
    (steps : (es : List Event) (n : ℕ) (v : View) (input : Input) (e : Doing) → slice_get (run scene es).nodes n ≡ Some v → ((m : Message) → input ≡ Deliver m → In m (run scene es).sent) → step (at_place scene n) input v ≡ Some e
    → Few (slice_set (run scene es).nodes n e.view) ((run scene es).sent ++ e.sent) → P (at_place scene n) e.view) where
  All : List View → Type 0
  All vs = (n : ℕ) (v : View) → slice_get vs n ≡ Some v → P (at_place scene n) v

  stepped_all : (es : List Event) (e : Event) (i : ℕ) (w : World) (v : View) (input : Input) (o : Option Doing) → w.nodes ≡ (run scene es).nodes → w.sent ≡ (run scene es).sent → ((m : Message) → input ≡ Deliver m → In m (run scene es).sent) → slice_get w.nodes i ≡ Some v → step (at_place scene i) input v ≡ o
      → Few (Runs.stepped e i w o).nodes (Runs.stepped e i w o).sent → All w.nodes → All (Runs.stepped e i w o).nodes
  unfolding All
  stepped_all es e i w v input None s sm seen is q few h n u g = h n u g
  stepped_all es e i w v input (Some d) s sm seen is q few h n u g = elim (got_set w.nodes i n d.view u g) [
    | inl k ↦ subst₂ (λ (m : ℕ) (z : View). P (at_place scene m) z) (sym k.0) (sym k.1) (steps es i v input d (ap (λ ns. slice_get ns i) (sym s) ∙ is) seen q (subst₂ (λ (ns : List View) (ms : List Message). Few (slice_set ns i d.view) (ms ++ d.sent)) s sm few))
    | inr k ↦ h n u k.1
  ]

  step_at_all : (es : List Event) (e : Event) (n : NodeId) (input : Input) (w : World) (o : Option View) → w.nodes ≡ (run scene es).nodes → w.sent ≡ (run scene es).sent → ((m : Message) → input ≡ Deliver m → In m (run scene es).sent) → nth w.nodes n.0 ≡ o
      → Few (Runs.step_at scene e n input w o).nodes (Runs.step_at scene e n input w o).sent → All w.nodes → All (Runs.step_at scene e n input w o).nodes
  step_at_all es e n input w None s sm seen q few h = h
  step_at_all es e n input w (Some v) s sm seen q few h = by_place n.0 q few
    where
      by_place : (k : ℕ) → nth w.nodes k ≡ Some v → Few (Runs.stepped e (k - 1) w (step (record { scene = scene; node = record { 0 = k } }) input v)).nodes (Runs.stepped e (k - 1) w (step (record { scene = scene; node = record { 0 = k } }) input v)).sent
          → All (Runs.stepped e (k - 1) w (step (record { scene = scene; node = record { 0 = k } }) input v)).nodes
      by_place zero z few = absurd (cc z)
      by_place (suc i) z few =
          rw (sub-one, ← add-one i) (stepped_all es e i w v input (step (at_place scene i) input v) s sm seen z refl (rw (sub-one, ← add-one i) at few) h)

  happens_all : (es : List Event) (e : Event) → Few (happens scene (run scene es) e).nodes (happens scene (run scene es) e).sent → All (run scene es).nodes → All (happens scene (run scene es) e).nodes
  unfolding happens
  happens_all es (ClientEvent s t) few h = by_session (nth scene.sessions s.0) few
    where
      by_session : (o : Option Session) → Few (Runs.client_event scene (ClientEvent s t) s t (run scene es) o).nodes (Runs.client_event scene (ClientEvent s t) s t (run scene es) o).sent
          → All (Runs.client_event scene (ClientEvent s t) s t (run scene es) o).nodes
      by_session None few = h
      by_session (Some text) few = step_at_all es (ClientEvent s t) text.node (Client s t) (run scene es) (nth (run scene es).nodes text.node.0) refl refl (λ m q. absurd (cc q)) refl few h
  happens_all es (DeliverEvent i) few h = by_message (nth (run scene es).sent i) refl few
    where
      nth_in : (xs : List Message) (k : ℕ) (m : Message) → nth xs k ≡ Some m → In m xs
      nth_in xs zero m q = absurd (cc q)
      nth_in xs (suc j) m q = in_at xs j m q

      by_message : (o : Option Message) → nth (run scene es).sent i ≡ o → Few (Runs.deliver_event scene (DeliverEvent i) i (run scene es) o).nodes (Runs.deliver_event scene (DeliverEvent i) i (run scene es) o).sent
          → All (Runs.deliver_event scene (DeliverEvent i) i (run scene es) o).nodes
      by_message None q few = h
      by_message (Some m) q few =
          step_at_all es (DeliverEvent i) m.receiver (Deliver m) (give i (run scene es)) (nth (run scene es).nodes m.receiver.0) refl refl
          (λ l r. let same : m ≡ l = cc r in subst (λ (z : Message). In z (run scene es).sent) same (nth_in (run scene es).sent i m q)) refl few h

  from_all : (early late : List Event) → All (run scene early).nodes → All (run scene (early ++ late)).nodes
  from_all early [] h = rw append-nil h
  from_all early (e ∷ late) h =
      let all : (early ++ e ∷ []) ++ late ≡ early ++ e ∷ late = append_assoc early (e ∷ []) late in
      let next : All (run scene (early ++ e ∷ [])).nodes = rw (run_more scene early e) (happens_all early e (subst (λ (w : World). Few w.nodes w.sent) (run_more scene early e) (few_run scene ok (early ++ e ∷ []))) h) in
      subst (λ es. All (run scene es).nodes) all (from_all (early ++ e ∷ []) late next)

  pub all_run : (es : List Event) (n : ℕ) (v : View) → slice_get (run scene es).nodes n ≡ Some v → P (at_place scene n) v
  unfolding All
  all_run es = from_all [] es (λ n v g. subst (P (at_place scene n)) (sym (got_replicate scene.nodes n (opening_view scene) v g)) (opens (at_place scene n)))

-- each own transaction rests
pub rests_run : (scene : Scene) → IsScene scene → (es : List Event) (n : ℕ) (v : View) → slice_get (run scene es).nodes n ≡ Some v → (i : ℕ) → DoneAt v i
rests_run scene ok es n v g =
    all_run scene ok (λ here v. (i : ℕ) → DoneAt v i) (λ here i x o. absurd (cc o)) (λ es n v input e g seen q few. step_rests (at_place scene n) input v e (fits_run scene ok es n v g) q) es n v g

-- those who wait do so for an undecided version
pub waits_run : (scene : Scene) → IsScene scene → (es : List Event) (n : ℕ) (v : View) → slice_get (run scene es).nodes n ≡ Some v → (r : Waiter) → In r v.waiters → WaitsFor (at_place scene n) v r
waits_run scene ok es n v g =
    all_run scene ok (λ here v. (r : Waiter) → In r v.waiters → WaitsFor here v r) (λ here r k. absurd k)
    (λ es n v input e g seen q few. step_waits (at_place scene n) input v e (fits_run scene ok es n v g)
    (λ r k. run_no_limit scene (run scene es) n v input r _ (bounded_ scene es) g seen k (few_run scene ok es)
    (subst (λ (z : Doing). Few (slice_set (run scene es).nodes n z.view) ((run scene es).sent ++ z.sent)) (sym (step_is (at_place scene n) input v e r k q)) few)) q) es n v g
