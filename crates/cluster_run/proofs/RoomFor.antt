-- How many messages an event sends.
use Rattle.std.proofs.Common.{List, None, Option, Some, ap, arith, length, length-append, option_map, refl, slice_get, ℕ, ◌++◌, ◌+◌, ◌-◌, ◌∙◌, ◌≡◌, ◌≤◌}
use Rattle.cluster_run.specs.Clusters.{ArePlaced, HasRoom, views_of}
use Rattle.cluster_run.proofs.Stepping.{here_is, nth-map}
use Rattle.node_core.specs.Working.{NodeState, here_of}
use Rattle.si_laws.proofs.Stages.ParticipantSeats.{of_nth}
use Rattle.str_base.specs.declared.names.NodeId.{NodeId}
use Rattle.str_model.specs.declared.messages.Input.{Input}
use Rattle.str_model.specs.declared.messages.Input.TheVariants.{Client, Deliver}
use Rattle.str_model.specs.declared.messages.Message.{Message}
use Rattle.str_model.specs.Runs.{World, at_node, client_event, deliver_event, give, happens, step_at, stepped}
use Rattle.str_model.specs.Steps.{count_of, need, step}
use Rattle.str_model.specs.Views.{Doing, View}
use Rattle.str_scene.specs.declared.names.Event.{Event}
use Rattle.str_scene.specs.declared.names.Event.TheVariants.{Client as ClientEvent, Deliver as DeliverEvent}
use Rattle.str_scene.specs.Scenes.{Here, Scene, Session, nth}

-- a step at a node sends no more than it has room for
pub sends_at_most : (scene : Scene) (e : Event) (node : NodeId) (input : Input) (w : World) (ns : List NodeState) (room : ℕ) → ArePlaced scene ns → w.nodes ≡ views_of ns → HasRoom room input (nth ns node.0)
    → length (at_node scene e node input w).sent ≤ length w.sent + room
unfolding need
sends_at_most scene e node input w ns room p v r = by_node (nth ns node.0) refl r
  where
    at : (o : Option NodeState) → nth ns node.0 ≡ o → at_node scene e node input w ≡ step_at scene e node input w (option_map (λ (n : NodeState). n.view) o)
    at o q = ap (step_at scene e node input w) (ap (λ vs. nth vs node.0) v ∙ (nth-map (λ (n : NodeState). n.view) ns node.0 ∙ ap (option_map (λ (n : NodeState). n.view)) q))

    by_node : (o : Option NodeState) → nth ns node.0 ≡ o → HasRoom room input o → length (at_node scene e node input w).sent ≤ length w.sent + room
    by_node None q r = let a = ap (λ (u : World). length u.sent) (at None q) in omega (arith, a)
    by_node (Some n) q r = by_step (step (here_of n) input n.view) refl r
      where
        place : (i : ℕ) × (node.0 ≡ i + 1) × (slice_get ns i ≡ Some n)
        place = of_nth ns node.0 n q

        steps : step (record { scene = scene; node = node }) input n.view ≡ step (here_of n) input n.view
        steps = ap (λ (h : Here). step h input n.view) (here_is scene n node place.0 (p.scene_ place.0 n place.2) (p.id place.0 n place.2) place.1)

        by_step : (o : Option Doing) → step (here_of n) input n.view ≡ o → count_of (step (here_of n) input n.view) ≤ room → length (at_node scene e node input w).sent ≤ length w.sent + room
        by_step None k r = let a = ap (λ (u : World). length u.sent) (at (Some n) q ∙ ap (stepped e (node.0 - 1) w) (steps ∙ k)) in omega (arith, a)
        by_step (Some d) k r =
            let a : length (at_node scene e node input w).sent ≡ length (w.sent ++ d.sent) = ap (λ (u : World). length u.sent) (at (Some n) q ∙ ap (stepped e (node.0 - 1) w) (steps ∙ k)) in
            let b = length-append w.sent d.sent in
            let c : count_of (step (here_of n) input n.view) ≡ d.added + (length d.sent + length d.released) = ap count_of k in
            omega (arith, a, b, c, r)

-- ---- what was sent stays sent

stepped_keeps : (e : Event) (i : ℕ) (w : World) (o : Option Doing) → length w.sent ≤ length (stepped e i w o).sent
stepped_keeps e i w None = omega arith
stepped_keeps e i w (Some d) = let a = length-append w.sent d.sent in omega (arith, a)

at_keeps : (scene : Scene) (e : Event) (n : NodeId) (input : Input) (w : World) (o : Option View) → length w.sent ≤ length (step_at scene e n input w o).sent
at_keeps scene e n input w None = stepped_keeps e 0 w None
at_keeps scene e n input w (Some v) = stepped_keeps e (n.0 - 1) w (step (record { scene = scene; node = n }) input v)

pub happens_keeps : (scene : Scene) (w : World) (e : Event) → length w.sent ≤ length (happens scene w e).sent
unfolding happens
happens_keeps scene w (ClientEvent s t) = by_session (nth scene.sessions s.0)
  where
    by_session : (o : Option Session) → length w.sent ≤ length (client_event scene (ClientEvent s t) s t w o).sent
    by_session None = stepped_keeps (ClientEvent s t) 0 w None
    by_session (Some text) = at_keeps scene (ClientEvent s t) text.node (Client s t) w (nth w.nodes text.node.0)
happens_keeps scene w (DeliverEvent i) = by_message (nth w.sent i)
  where
    by_message : (o : Option Message) → length w.sent ≤ length (deliver_event scene (DeliverEvent i) i w o).sent
    by_message None = stepped_keeps (DeliverEvent i) 0 w None
    by_message (Some m) = at_keeps scene (DeliverEvent i) m.receiver (Deliver m) (give i w) (nth w.nodes m.receiver.0)
