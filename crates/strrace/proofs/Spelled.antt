-- The journal of a run has an entry for each of its events, in order.
use Rattle.std.proofs.Common.{List, None, Option, Some, [], ap, append-nil, append_assoc, false, length, sym, true, ℕ, ◌++◌, ◌-◌, ◌∙◌, ◌∷◌, ◌≡◌}
use Rattle.cluster_run.specs.Clusters.{events_of as journal_events}
use Rattle.std.proofs.lemmas.List.{map-append}
use Rattle.str_base.specs.declared.names.NodeId.{NodeId}
use Rattle.str_model.specs.Runs.{World, client_event, deliver_event, give, happens, opening, run, run_from, step_at, stepped}
use Rattle.str_model.specs.Steps.{step}
use Rattle.str_model.specs.Views.{Doing, View}
use Rattle.str_model.specs.declared.messages.Input.{Input}
use Rattle.str_model.specs.declared.messages.Input.TheVariants.{Client, Deliver}
use Rattle.str_model.specs.declared.messages.Message.{Message}
use Rattle.str_model.specs.declared.names.Done.{Done}
use Rattle.str_scene.specs.Scenes.{Scene, Session, nth}
use Rattle.str_scene.specs.declared.names.Event.{Event}
use Rattle.str_scene.specs.declared.names.Event.TheVariants.{Client as ClientEvent, Deliver as DeliverEvent}

-- the journal goes on with this event
Spells : Event → World → World → Type 0
Spells e w v = journal_events v.journal ≡ journal_events w.journal ++ e ∷ []

stepped_spells : (e : Event) (i : ℕ) (w : World) (o : Option Doing) → Spells e w (stepped e i w o)
unfolding Spells
stepped_spells e i w None = map-append (λ (d : Done). d.event) w.journal (record { event = e; idle = true; answers = 0 } ∷ [])
stepped_spells e i w (Some d) = map-append (λ (d : Done). d.event) w.journal (record { event = e; idle = false; answers = length d.released } ∷ [])

step_at_spells : (scene : Scene) (e : Event) (n : NodeId) (input : Input) (w : World) (o : Option View) → Spells e w (step_at scene e n input w o)
step_at_spells scene e n input w None = stepped_spells e 0 w None
step_at_spells scene e n input w (Some v) = stepped_spells e (n.0 - 1) w (step (record { scene = scene; node = n }) input v)

happens_spells : (scene : Scene) (w : World) (e : Event) → Spells e w (happens scene w e)
unfolding happens Spells
happens_spells scene w (ClientEvent s t) = by_session (nth scene.sessions s.0)
  where
    by_session : (o : Option Session) → Spells (ClientEvent s t) w (client_event scene (ClientEvent s t) s t w o)
    by_session None = stepped_spells (ClientEvent s t) 0 w None
    by_session (Some text) = step_at_spells scene (ClientEvent s t) text.node (Client s t) w (nth w.nodes text.node.0)
happens_spells scene w (DeliverEvent i) = by_message (nth w.sent i)
  where
    by_message : (o : Option Message) → Spells (DeliverEvent i) w (deliver_event scene (DeliverEvent i) i w o)
    by_message None = stepped_spells (DeliverEvent i) 0 w None
    by_message (Some m) = step_at_spells scene (DeliverEvent i) m.receiver (Deliver m) (give i w) (nth w.nodes m.receiver.0)

spelled_from : (scene : Scene) (w : World) (es : List Event) → journal_events (run_from scene w es).journal ≡ journal_events w.journal ++ es
unfolding Spells
spelled_from scene w [] = sym (append-nil (journal_events w.journal))
spelled_from scene w (e ∷ es) =
    spelled_from scene (happens scene w e) es
    ∙ (ap (λ (xs : List Event). xs ++ es) (happens_spells scene w e) ∙ append_assoc (journal_events w.journal) (e ∷ []) es)

-- the journal spells all events of the run
pub spelled : (scene : Scene) (es : List Event) → journal_events (run scene es).journal ≡ es
spelled scene es = spelled_from scene (opening scene) es
