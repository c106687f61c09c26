-- A message that counts as given was given by an event, after it was sent.
use Rattle.std.proofs.Common.{List, None, Option, Some, [], ap, append_assoc, append-nil, arith, inl, inr, length, refl, slice_get, subst, suc, sym, true, zero, ℕ, ◌++◌, ◌+◌, ◌-◌, ◌∙◌, ◌∷◌, ◌≡◌, ◌⊎◌}
use Rattle.spsi_laws.proofs.Work.WorkHolds.{run_more}
use Rattle.str_base.specs.declared.names.NodeId.{NodeId}
use Rattle.str_model.specs.Runs.{World, give, happens, opening, run}
use Rattle.str_model.specs.Runs
use Rattle.str_model.specs.Steps.{step}
use Rattle.str_model.specs.Views.{Doing, View}
use Rattle.str_model.specs.declared.messages.Input.{Input}
use Rattle.str_model.specs.declared.messages.Input.TheVariants.{Client, Deliver}
use Rattle.str_model.specs.declared.messages.Message.{Message}
use Rattle.str_scene.specs.declared.names.Event.{Event}
use Rattle.str_scene.specs.declared.names.Event.TheVariants.{Client as ClientEvent, Deliver as DeliverEvent}
use Rattle.str_scene.specs.Scenes.{Scene, Session, nth}
use Rattle.str_base.proofs.Lists.{got_set}
use Rattle.si_laws.proofs.Presence.DecisionsDelivered.{given_before}

stepped_given : (e : Event) (i : ℕ) (w : World) (o : Option Doing) (j : ℕ) → slice_get (Runs.stepped e i w o).given j ≡ Some true → slice_get w.given j ≡ Some true
stepped_given e i w None j q = q
stepped_given e i w (Some d) j q = given_before w.given (length d.sent) j q

step_at_given : (scene : Scene) (e : Event) (n : NodeId) (input : Input) (w : World) (o : Option View) (j : ℕ) → slice_get (Runs.step_at scene e n input w o).given j ≡ Some true → slice_get w.given j ≡ Some true
step_at_given scene e n input w None j q = q
step_at_given scene e n input w (Some v) j q = stepped_given e (n.0 - 1) w (step (record { scene = scene; node = n }) input v) j q

-- it was given before, or this event gives it
pub given_step : (scene : Scene) (w : World) (e : Event) (j : ℕ) → slice_get (happens scene w e).given j ≡ Some true → (slice_get w.given j ≡ Some true) ⊎ ((e ≡ DeliverEvent (j + 1)) × ((m : Message) × (slice_get w.sent j ≡ Some m)))
unfolding happens
given_step scene w (ClientEvent s t) j q = inl (by_session (nth scene.sessions s.0) q)
  where
    by_session : (o : Option Session) → slice_get (Runs.client_event scene (ClientEvent s t) s t w o).given j ≡ Some true → slice_get w.given j ≡ Some true
    by_session None q = q
    by_session (Some text) q = step_at_given scene (ClientEvent s t) text.node (Client s t) w (nth w.nodes text.node.0) j q
given_step scene w (DeliverEvent i) j q = by_message (nth w.sent i) refl q
  where
    by_place : (k : ℕ) (m : Message) → nth w.sent k ≡ Some m → i ≡ k → (j ≡ k - 1) → (DeliverEvent i ≡ DeliverEvent (j + 1)) × ((m : Message) × (slice_get w.sent j ≡ Some m))
    by_place zero m e is at = absurd (cc e)
    by_place (suc c) m e is at =
        let same : j ≡ c = omega (arith, at) in
        let more : i ≡ j + 1 = omega (arith, is, same) in
        (ap (λ n. DeliverEvent n) more, (m, ap (λ n. slice_get w.sent n) same ∙ e))

    by_message : (o : Option Message) → nth w.sent i ≡ o → slice_get (Runs.deliver_event scene (DeliverEvent i) i w o).given j ≡ Some true
        → (slice_get w.given j ≡ Some true) ⊎ ((DeliverEvent i ≡ DeliverEvent (j + 1)) × ((m : Message) × (slice_get w.sent j ≡ Some m)))
    by_message None e q = inl q
    by_message (Some m) e q =
        elim (got_set w.given (i - 1) j true true (step_at_given scene (DeliverEvent i) m.receiver (Deliver m) (give i w) (nth w.nodes m.receiver.0) j q)) [
          | inl p ↦ inr (by_place i m e refl p.0)
          | inr p ↦ inl p.1
        ]

-- the event by which a message was given
pub record GivenBy (scene : Scene) (es : List Event) (j : ℕ) : Type 0 where
  pub early : List Event
  pub late : List Event
  pub all : es ≡ early ++ DeliverEvent (j + 1) ∷ late
  pub message : Message
  pub was_sent : slice_get (run scene early).sent j ≡ Some message

module _ (scene : Scene) where
  abbrev EachGiven : List Event → Type 0
  EachGiven es = (j : ℕ) → slice_get (run scene es).given j ≡ Some true → GivenBy scene es j

  one_more : (es : List Event) (e : Event) → EachGiven es → EachGiven (es ++ e ∷ [])
  one_more es e h j q = elim (given_step scene (run scene es) e j (ap (λ (w : World). slice_get w.given j) (sym (run_more scene es e)) ∙ q)) [
    | inl old ↦ (let g = h j old in record { early = g.early; late = g.late ++ e ∷ []; all = ap (λ xs. xs ++ e ∷ []) g.all ∙ append_assoc g.early (DeliverEvent (j + 1) ∷ g.late) (e ∷ []); message = g.message; was_sent = g.was_sent })
    | inr new ↦ record { early = es; late = []; all = ap (λ x. es ++ x ∷ []) new.0; message = new.1.0; was_sent = new.1.1 }
  ]

  from_each : (early late : List Event) → EachGiven early → EachGiven (early ++ late)
  from_each early [] h = rw append-nil h
  from_each early (e ∷ late) h = subst EachGiven (append_assoc early (e ∷ []) late) (from_each (early ++ e ∷ []) late (one_more early e h))

  pub given_by : (es : List Event) (j : ℕ) → slice_get (run scene es).given j ≡ Some true → GivenBy scene es j
  given_by es = from_each [] es (λ j q. absurd (cc q))
