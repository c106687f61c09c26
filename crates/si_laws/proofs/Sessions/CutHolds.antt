-- A run that is cut off has a beginning of the journal and of the answers.
use Rattle.std.proofs.lemmas.List.{take-append-drop}
use Rattle.std.proofs.Common.{List, None, Option, Some, [], ap, append-nil, append_assoc, drop, length, refl, sym, take, true, false, ℕ, ◌++◌, ◌-◌, ◌∙◌, ◌∷◌, ◌≡◌}
use Rattle.si_laws.specs.Laws.Cut.{BeginsWith, CutHolds, GoesOnFrom}
use Rattle.si_laws.proofs.Changes.DecidedStay.{answers_grow}
use Rattle.str_model.proofs.Principle.Everywhere.{run-append}
use Rattle.str_base.specs.declared.names.NodeId.{NodeId}
use Rattle.str_base.specs.declared.names.SessionId.{SessionId}
use Rattle.str_model.specs.Runs.{World, client_event, deliver_event, give, happens, opening, run, run_from, step_at, stepped}
use Rattle.str_model.specs.Steps.{step}
use Rattle.str_model.specs.Views.{Doing, View}
use Rattle.str_model.specs.declared.messages.Input.{Input}
use Rattle.str_model.specs.declared.messages.Input.TheVariants.{Client, Deliver}
use Rattle.str_model.specs.declared.messages.Message.{Message}
use Rattle.str_scene.specs.SceneLimits.{IsScene}
use Rattle.str_scene.specs.Scenes.{Scene, Session, nth}
use Rattle.str_scene.specs.declared.names.Event.{Event}
use Rattle.str_scene.specs.declared.names.Event.TheVariants.{Client as ClientEvent, Deliver as DeliverEvent}

-- what grows twice has grown
both : {X : Type 0} → (xs ys zs : List X) → BeginsWith ys xs → BeginsWith zs ys → BeginsWith zs xs
both xs ys zs g h = (g.0 ++ h.0, sym (append_assoc xs g.0 h.0) ∙ ap (λ l. l ++ h.0) g.1 ∙ h.1)

stepped_grows : (e : Event) (i : ℕ) (w : World) (o : Option Doing) → BeginsWith (stepped e i w o).journal w.journal
stepped_grows e i w None = (record { event = e; idle = true; answers = 0 } ∷ [], refl)
stepped_grows e i w (Some d) = (record { event = e; idle = false; answers = length d.released } ∷ [], refl)

at_view_grows : (scene : Scene) (e : Event) (n : NodeId) (input : Input) (w : World) (o : Option View) → BeginsWith (step_at scene e n input w o).journal w.journal
at_view_grows scene e n input w None = stepped_grows e 0 w None
at_view_grows scene e n input w (Some view) = stepped_grows e (n.0 - 1) w (step (record { scene = scene; node = n }) input view)

client_grows : (scene : Scene) (e : Event) (s : SessionId) (t : ℕ) (w : World) (o : Option Session) → BeginsWith (client_event scene e s t w o).journal w.journal
client_grows scene e s t w None = stepped_grows e 0 w None
client_grows scene e s t w (Some text) = at_view_grows scene e text.node (Client s t) w (nth w.nodes text.node.0)

deliver_grows : (scene : Scene) (e : Event) (i : ℕ) (w : World) (o : Option Message) → BeginsWith (deliver_event scene e i w o).journal w.journal
deliver_grows scene e i w None = stepped_grows e 0 w None
deliver_grows scene e i w (Some m) = at_view_grows scene e m.receiver (Deliver m) (give i w) (nth w.nodes m.receiver.0)

happens_grows : (scene : Scene) (w : World) (e : Event) → BeginsWith (happens scene w e).journal w.journal
unfolding happens
happens_grows scene w (ClientEvent s t) = client_grows scene (ClientEvent s t) s t w (nth scene.sessions s.0)
happens_grows scene w (DeliverEvent i) = deliver_grows scene (DeliverEvent i) i w (nth w.sent i)

-- the journal grows at its end
pub journal_grows : (scene : Scene) (w : World) (es : List Event) → BeginsWith (run_from scene w es).journal w.journal
journal_grows scene w [] = ([], append-nil w.journal)
journal_grows scene w (e ∷ es) =
    let v = happens scene w e in
    both w.journal v.journal (run_from scene v es).journal (happens_grows scene w e) (journal_grows scene v es)

goes_on : (scene : Scene) → IsScene scene → (early late : List Event) → GoesOnFrom (run scene early) (run scene (early ++ late))
goes_on scene ok early late =
    record {
      journal = rw (run-append scene (opening scene) early late) (journal_grows scene (run scene early) late);
      answers = answers_grow scene ok early late;
    }

cut_from : (scene : Scene) → IsScene scene → (early late events : List Event) → early ++ late ≡ events → GoesOnFrom (run scene early) (run scene events)
cut_from scene ok early late events q = rw (sym q) (goes_on scene ok early late)

pub cut_holds : CutHolds
cut_holds scene ok events i = cut_from scene ok (take i events) (drop i events) events (take-append-drop i events)
