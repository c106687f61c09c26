-- What an event is, by what its session or its message is.
use Rattle.std.proofs.Common.{None, Option, Some, ap, option_map, refl, sym, ℕ, ◌≡◌}
use Rattle.str_base.specs.declared.names.NodeId.{NodeId}
use Rattle.str_base.specs.declared.names.SessionId.{SessionId}
use Rattle.str_model.specs.declared.messages.Input.TheVariants.{Client, Deliver}
use Rattle.str_model.specs.declared.messages.Message.{Message}
use Rattle.str_model.specs.Runs.{World, at_node, client_event, deliver_event, give, happens, stepped}
use Rattle.str_scene.specs.declared.names.Event.TheVariants.{Client as ClientEvent, Deliver as DeliverEvent}
use Rattle.str_scene.specs.Scenes.{Scene, Session, nth}

pub client_nowhere : (scene : Scene) (w : World) (s : SessionId) (t : ℕ) → None ≡ option_map (λ (x : Session). x.node) (nth scene.sessions s.0) → happens scene w (ClientEvent s t) ≡ stepped (ClientEvent s t) 0 w None
unfolding happens
client_nowhere scene w s t e = by_session (nth scene.sessions s.0) e
  where
    by_session : (o : Option Session) → None ≡ option_map (λ (x : Session). x.node) o → client_event scene (ClientEvent s t) s t w o ≡ stepped (ClientEvent s t) 0 w None
    by_session None e = refl
    by_session (Some x) e = absurd (cc e)

pub client_at : (scene : Scene) (w : World) (s : SessionId) (t : ℕ) (node : NodeId) → Some node ≡ option_map (λ (x : Session). x.node) (nth scene.sessions s.0)
    → happens scene w (ClientEvent s t) ≡ at_node scene (ClientEvent s t) node (Client s t) w
unfolding happens
client_at scene w s t node e = by_session (nth scene.sessions s.0) e
  where
    by_session : (o : Option Session) → Some node ≡ option_map (λ (x : Session). x.node) o → client_event scene (ClientEvent s t) s t w o ≡ at_node scene (ClientEvent s t) node (Client s t) w
    by_session None e = absurd (cc e)
    by_session (Some x) e = let same : node ≡ x.node = cc e in ap (λ n. at_node scene (ClientEvent s t) n (Client s t) w) (sym same)

pub deliver_nothing : (scene : Scene) (w : World) (i : ℕ) → None ≡ nth w.sent i → happens scene w (DeliverEvent i) ≡ stepped (DeliverEvent i) 0 w None
unfolding happens
deliver_nothing scene w i e = ap (deliver_event scene (DeliverEvent i) i w) (sym e)

pub deliver_to : (scene : Scene) (w : World) (i : ℕ) (m : Message) → Some m ≡ nth w.sent i → happens scene w (DeliverEvent i) ≡ at_node scene (DeliverEvent i) m.receiver (Deliver m) (give i w)
unfolding happens
deliver_to scene w i m e = ap (deliver_event scene (DeliverEvent i) i w) (sym e)
