-- The journal of a run counts all its answers.
use Rattle.std.proofs.Common.{List, None, Option, Some, [], ap, append-nil, arith, length, length-append, refl, subst, sym, true, false, ℕ, ◌++◌, ◌+◌, ◌-◌, ◌∙◌, ◌∷◌, ◌≡◌}
use Rattle.cluster_run.specs.Clusters.{IsRun, events_of}
use Rattle.std.proofs.lemmas.List.Sums.{sum_by-append}
use Rattle.std.specs.List.{sum_by}
use Rattle.str_base.specs.declared.names.NodeId.{NodeId}
use Rattle.str_model.specs.Runs.{World, client_event, deliver_event, give, happens, opening, run_from, step_at, stepped}
use Rattle.str_model.specs.Steps.{step}
use Rattle.str_model.specs.Views.{Doing, View}
use Rattle.str_model.specs.declared.messages.Answer.{Answer}
use Rattle.str_model.specs.declared.messages.Input.{Input}
use Rattle.str_model.specs.declared.messages.Input.TheVariants.{Client, Deliver}
use Rattle.str_model.specs.declared.messages.Message.{Message}
use Rattle.str_model.specs.declared.names.Done.{Done}
use Rattle.str_scene.specs.Scenes.{Scene, Session, nth}
use Rattle.str_scene.specs.declared.names.Event.{Event}
use Rattle.str_scene.specs.declared.names.Event.TheVariants.{Client as ClientEvent, Deliver as DeliverEvent}

-- the journal grows by an entry, and the answers by those that the entry counts
pub record Grows (w w' : World) : Type 0 where
  pub done : Done
  pub released : List Answer
  pub journal : w'.journal ≡ w.journal ++ done ∷ []
  pub answers : w'.answers ≡ w.answers ++ released
  pub count : done.answers ≡ length released

-- the journal counts all answers
abbrev pub Counted : World → Type 0
Counted w = sum_by (λ d. d.answers) w.journal ≡ length w.answers

stepped_grows : (e : Event) (i : ℕ) (w v : World) (o : Option Doing) → v.journal ≡ w.journal → v.answers ≡ w.answers → Grows w (stepped e i v o)
stepped_grows e i w v None j a =
    record { done = record { event = e; idle = true; answers = 0 }; released = []; journal = ap (λ (ds : List Done). ds ++ record { event = e; idle = true; answers = 0 } ∷ []) j; answers = a ∙ sym (append-nil w.answers); count = refl }
stepped_grows e i w v (Some d) j a =
    record {
      done = record { event = e; idle = false; answers = length d.released };
      released = d.released;
      journal = ap (λ (ds : List Done). ds ++ record { event = e; idle = false; answers = length d.released } ∷ []) j;
      answers = ap (λ (all : List Answer). all ++ d.released) a;
      count = refl;
    }

at_grows : (scene : Scene) (e : Event) (n : NodeId) (input : Input) (w v : World) (o : Option View) → v.journal ≡ w.journal → v.answers ≡ w.answers → Grows w (step_at scene e n input v o)
at_grows scene e n input w v None j a = stepped_grows e 0 w v None j a
at_grows scene e n input w v (Some view) j a = stepped_grows e (n.0 - 1) w v (step (record { scene = scene; node = n }) input view) j a

-- so an event lets them grow
pub happens_grows : (scene : Scene) (w : World) (e : Event) → Grows w (happens scene w e)
unfolding happens
happens_grows scene w (ClientEvent s t) = by_session (nth scene.sessions s.0)
  where
    by_session : (o : Option Session) → Grows w (client_event scene (ClientEvent s t) s t w o)
    by_session None = stepped_grows (ClientEvent s t) 0 w w None refl refl
    by_session (Some text) = at_grows scene (ClientEvent s t) text.node (Client s t) w w (nth w.nodes text.node.0) refl refl
happens_grows scene w (DeliverEvent i) = by_message (nth w.sent i)
  where
    by_message : (o : Option Message) → Grows w (deliver_event scene (DeliverEvent i) i w o)
    by_message None = stepped_grows (DeliverEvent i) 0 w w None refl refl
    by_message (Some m) = at_grows scene (DeliverEvent i) m.receiver (Deliver m) w (give i w) (nth (give i w).nodes m.receiver.0) refl refl

-- ---- the journal counts all answers

pub counted_after : (w w' : World) → Counted w → Grows w w' → Counted w'
counted_after w w' h g =
    let entries : sum_by (λ d. d.answers) w'.journal ≡ sum_by (λ d. d.answers) w.journal + sum_by (λ d. d.answers) (g.done ∷ []) =
    ap (sum_by (λ (d : Done). d.answers)) g.journal ∙ sum_by-append (λ (d : Done). d.answers) w.journal (g.done ∷ []) in
    let one : sum_by (λ d. d.answers) (g.done ∷ []) ≡ 0 + g.done.answers = refl in
    let all : length w'.answers ≡ length w.answers + length g.released = ap length g.answers ∙ length-append w.answers g.released in
    let n = g.count in
    omega (arith, entries, one, all, h, n)

pub counted_from : (scene : Scene) (w : World) (es : List Event) → Counted w → Counted (run_from scene w es)
counted_from scene w [] h = h
counted_from scene w (e ∷ es) h = counted_from scene (happens scene w e) es (counted_after w (happens scene w e) h (happens_grows scene w e))

-- so it does in each run
pub run_counted : (scene : Scene) (w : World) → IsRun scene w → Counted w
run_counted scene w r = subst Counted (sym r) (counted_from scene (opening scene) (events_of w.journal) refl)
