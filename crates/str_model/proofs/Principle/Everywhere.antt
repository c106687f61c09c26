-- The principle for laws over runs: what holds at the opening, and is kept by each single change of a step, holds after
-- every list of events.
use Rattle.std.proofs.Common.{List, None, Option, Some, [], add-one, append-nil, inl, inr, refl, slice_get, slice_set, sub-one, subst, subst₂, suc, sym, zero, ℕ, ◌++◌, ◌+◌, ◌-◌, ◌∙◌, ◌∷◌, ◌≡◌, ◌<◌, true, nat_lt, nat_le, arith}
use Rattle.str_scene.specs.declared.names.Event.{Event}
use Rattle.str_scene.specs.declared.names.Event.TheVariants.{Client as ClientEvent, Deliver as DeliverEvent}
use Rattle.str_base.specs.declared.names.NodeId.{NodeId}
use Rattle.str_model.specs.declared.messages.Answer.{Answer}
use Rattle.str_model.specs.declared.messages.Input.{Input}
use Rattle.str_model.specs.declared.messages.Input.TheVariants.{Client, Deliver}
use Rattle.str_model.specs.declared.messages.Message.{Message}
use Rattle.std.proofs.lemmas.Bool.{and_from, le-leb, lt-ltb}
use Rattle.str_model.specs.Strange.{has_node}
use Rattle.str_model.specs.Runs.{World, give, happens, opening, opening_view, run, run_from}
use Rattle.str_model.specs.Runs
use Rattle.str_scene.specs.SceneLimits.{IsScene}
use Rattle.str_scene.specs.Scenes.{Here, Scene, Session, nth}
use Rattle.str_model.specs.Steps.{step}
use Rattle.str_model.specs.Views.{Doing, View, starts}
use Rattle.str_model.proofs.Principle.SingleChanges.{Act, Where}
use Rattle.str_model.proofs.Principle.StepPaths.{StepPath, StepTo, step-keeps, step-path}
use Rattle.str_base.proofs.Lists.{get_set, get_set_other, got_replicate, got_set, set_got}

-- what the laws see of a cluster: neither the journal nor which messages were given
pub record Stage : Type 0 where
  pub nodes : List View
  pub sent : List Message
  pub answers : List Answer

abbrev pub stage_of : World → Stage
stage_of w = record { nodes = w.nodes; sent = w.sent; answers = w.answers }

-- a cluster in which the i-th node is in the midst of a step
abbrev pub during : Stage → ℕ → Doing → Stage
during s i d = record { nodes = slice_set s.nodes i d.view; sent = s.sent ++ d.sent; answers = s.answers ++ d.released }

-- the message was sent
abbrev pub Sent : Stage → Message → Type 0
Sent s m = (k : ℕ) × (slice_get s.sent k ≡ Some m)

abbrev pub IsSeen : Stage → Input → Type 0
IsSeen s (Client t r) = Unit {0}
IsSeen s (Deliver m) = Sent s m

abbrev pub at_place : Scene → ℕ → Here
at_place scene i = record { scene = scene; node = record { 0 = i + 1 } }

-- each place below the number of nodes is a node's
pub place_exists : (scene : Scene) (n : ℕ) → n < scene.nodes → has_node (at_place scene n) (record { 0 = n + 1 }) ≡ true
place_exists scene n less = and_from (nat_lt 0 (n + 1)) (nat_le (n + 1) scene.nodes) (lt-ltb 0 (n + 1) (omega arith)) (le-leb (n + 1) scene.nodes (omega (arith, less)))

pub during_start : (s : Stage) (i : ℕ) (v : View) → slice_get s.nodes i ≡ Some v → during s i (starts v) ≡ s
during_start s i v e = λ j. record { nodes = set_got s.nodes i v e j; sent = append-nil s.sent j; answers = append-nil s.answers j }

module _ (scene : Scene) (I : Stage → Type 0)
    (keeps : (s : Stage) (i : ℕ) (v : View) (input : Input) (e : Doing) → slice_get s.nodes i ≡ Some v → IsSeen s input → StepPath (at_place scene i) input (starts v) e → I s → I (during s i e)) where
  stepped-keeps : (e : Event) (i : ℕ) (w : World) (v : View) (input : Input) (o : Option Doing) → slice_get w.nodes i ≡ Some v → IsSeen (stage_of w) input
      → StepTo (at_place scene i) input (starts v) o → I (stage_of w) → I (stage_of (Runs.stepped e i w o))
  stepped-keeps e i w v input None is seen p h = h
  stepped-keeps e i w v input (Some d) is seen p h = keeps (stage_of w) i v input d is seen p h

  step_at-keeps : (e : Event) (n : NodeId) (input : Input) (w : World) (o : Option View) → nth w.nodes n.0 ≡ o → IsSeen (stage_of w) input
      → I (stage_of w) → I (stage_of (Runs.step_at scene e n input w o))
  step_at-keeps e n input w None is seen h = h
  step_at-keeps e n input w (Some v) is seen h = by_place n.0 is
    where
      by_place : (k : ℕ) → nth w.nodes k ≡ Some v → I (stage_of (Runs.stepped e (k - 1) w (step (record { scene = scene; node = record { 0 = k } }) input v)))
      by_place zero q = absurd cc
      by_place (suc i) q =
          rw (sub-one, ← add-one i) (stepped-keeps e i w v input (step (at_place scene i) input v) q seen (step-path (at_place scene i) input v) h)

  event-keeps : (w : World) (e : Event) → I (stage_of w) → I (stage_of (happens scene w e))
  unfolding happens
  event-keeps w (ClientEvent s t) h = client-keeps (nth scene.sessions s.0)
    where
      client-keeps : (o : Option Session) → I (stage_of (Runs.client_event scene (ClientEvent s t) s t w o))
      client-keeps None = h
      client-keeps (Some text) = step_at-keeps (ClientEvent s t) text.node (Client s t) w (nth w.nodes text.node.0) refl tt h
  event-keeps w (DeliverEvent i) h = deliver-keeps (nth w.sent i) refl
    where
      nth-sent : (k : ℕ) (m : Message) → nth w.sent k ≡ Some m → Sent (stage_of w) m
      nth-sent zero m e = absurd cc
      nth-sent (suc j) m e = (j, e)

      deliver-keeps : (o : Option Message) → nth w.sent i ≡ o → I (stage_of (Runs.deliver_event scene (DeliverEvent i) i w o))
      deliver-keeps None q = h
      deliver-keeps (Some m) q = step_at-keeps (DeliverEvent i) m.receiver (Deliver m) (give i w) (nth w.nodes m.receiver.0) refl (nth-sent i m q) h

  pub from-keeps : (w : World) (es : List Event) → I (stage_of w) → I (stage_of (run_from scene w es))
  from-keeps w [] h = h
  from-keeps w (e ∷ es) h = from-keeps (happens scene w e) es (event-keeps w e h)

  -- from any state on
  pub steps_after : (w : World) (es : List Event) → I (stage_of w) → I (stage_of (run_from scene w es))
  steps_after = from-keeps

  pub steps_everywhere : I (stage_of (opening scene)) → (es : List Event) → I (stage_of (run scene es))
  steps_everywhere opens es = from-keeps (opening scene) es opens

-- the same by single changes
module _ (scene : Scene) (I : Stage → Type 0)
    (keeps : (s : Stage) (i : ℕ) (v : View) (input : Input) (w : Where) (d e : Doing) → slice_get s.nodes i ≡ Some v → IsSeen s input → I s → Act (at_place scene i) input w d e → I (during s i d) → I (during s i e)) where
  pub by_acts : (s : Stage) (i : ℕ) (v : View) (input : Input) (e : Doing) → slice_get s.nodes i ≡ Some v → IsSeen s input → StepPath (at_place scene i) input (starts v) e → I s → I (during s i e)
  by_acts s i v input e is seen p h =
      step-keeps (at_place scene i) input (λ d. I (during s i d)) (λ u d e. keeps s i v input u d e is seen h) (starts v) e p (subst I (sym (during_start s i v is)) h)

  pub ever_after : (w : World) (es : List Event) → I (stage_of w) → I (stage_of (run_from scene w es))
  ever_after = steps_after scene I by_acts

  pub everywhere : I (stage_of (opening scene)) → (es : List Event) → I (stage_of (run scene es))
  everywhere = steps_everywhere scene I by_acts

-- the same for what is said of one node's view alone
module _ (scene : Scene) (is_scene : IsScene scene) (P : View → Type 0) (opens : P (opening_view scene))
    (keeps : (here : Here) → IsScene here.scene → (input : Input) (w : Where) (d e : Doing) → Act here input w d e → P d.view → P e.view) where
  AtEach : Stage → Type 0
  AtEach s = (n : ℕ) (v : View) → slice_get s.nodes n ≡ Some v → P v

  at_each-keeps : (s : Stage) (i : ℕ) (v : View) (input : Input) (w : Where) (d e : Doing) → slice_get s.nodes i ≡ Some v → IsSeen s input → AtEach s → Act (at_place scene i) input w d e
      → AtEach (during s i d) → AtEach (during s i e)
  unfolding AtEach
  at_each-keeps s i v input w d e is seen hs a h n u g =
      elim (got_set s.nodes i n e.view u g) [
        | inl p ↦ subst P (sym p.1) (keeps (at_place scene i) is_scene input w d e a (h i d.view (get_set s.nodes i v d.view is)))
        | inr q ↦ h n u (get_set_other s.nodes i n d.view q.0 ∙ q.1)
      ]

  pub at_each_node : (es : List Event) (n : ℕ) (v : View) → slice_get (run scene es).nodes n ≡ Some v → P v
  unfolding AtEach
  at_each_node es = everywhere scene AtEach at_each-keeps (λ n v g. subst P (sym (got_replicate scene.nodes n (opening_view scene) v g)) opens) es

-- what is said of one node's view at each event, by whole steps
module _ (scene : Scene) (is_scene : IsScene scene) (P : Here → View → Type 0) (opens : (here : Here) → P here (opening_view scene))
    (keeps : (here : Here) → IsScene here.scene → (input : Input) (v : View) (e : Doing) → StepPath here input (starts v) e → P here v → P here e.view) where
  AtEvents : Stage → Type 0
  AtEvents s = (n : ℕ) (v : View) → slice_get s.nodes n ≡ Some v → P (at_place scene n) v

  at_events-keeps : (s : Stage) (i : ℕ) (v : View) (input : Input) (e : Doing) → slice_get s.nodes i ≡ Some v → IsSeen s input → StepPath (at_place scene i) input (starts v) e
      → AtEvents s → AtEvents (during s i e)
  unfolding AtEvents
  at_events-keeps s i v input e is seen p h n u g =
      elim (got_set s.nodes i n e.view u g) [
        | inl q ↦ subst₂ (λ m z. P (at_place scene m) z) (sym q.0) (sym q.1) (keeps (at_place scene i) is_scene input v e p (h i v is))
        | inr q ↦ h n u q.1
      ]

  pub at_each_event : (es : List Event) (n : ℕ) (v : View) → slice_get (run scene es).nodes n ≡ Some v → P (at_place scene n) v
  unfolding AtEvents
  at_each_event es =
      steps_everywhere scene AtEvents at_events-keeps (λ n v g. subst (P (at_place scene n)) (sym (got_replicate scene.nodes n (opening_view scene) v g)) (opens (at_place scene n))) es

pub run-append : (scene : Scene) (w : World) (xs ys : List Event) → run_from scene w (xs ++ ys) ≡ run_from scene (run_from scene w xs) ys
run-append scene w [] ys = refl
run-append scene w (x ∷ xs) ys = run-append scene (happens scene w x) xs ys

-- what a node's view keeps from some state on
module _ (scene : Scene) (is_scene : IsScene scene) (P : View → Type 0)
    (keeps : (here : Here) → IsScene here.scene → (input : Input) (w : Where) (d e : Doing) → Act here input w d e → P d.view → P e.view) where
  pub record AtNode (n : ℕ) (s : Stage) : Type 0 where
    pub view : View
    pub there : slice_get s.nodes n ≡ Some view
    pub fact : P view

  at_node-keeps : (n : ℕ) (s : Stage) (i : ℕ) (v : View) (input : Input) (w : Where) (d e : Doing) → slice_get s.nodes i ≡ Some v → IsSeen s input → AtNode n s
      → Act (at_place scene i) input w d e → AtNode n (during s i d) → AtNode n (during s i e)
  at_node-keeps n s i v input w d e is seen hs a h =
      elim (got_set s.nodes i n d.view h.view h.there) [
        | inl p ↦ record {
          view = e.view;
          there = subst (λ k. slice_get (slice_set s.nodes i e.view) k ≡ Some e.view) (sym p.0) (get_set s.nodes i v e.view is);
          fact = keeps (at_place scene i) is_scene input w d e a (subst P p.1 h.fact);
        }
        | inr q ↦ record { view = h.view; there = get_set_other s.nodes i n e.view q.0 ∙ q.1; fact = h.fact }
      ]

  pub stays_at : (n : ℕ) (w : World) (v : View) (es : List Event) → slice_get w.nodes n ≡ Some v → P v → AtNode n (stage_of (run_from scene w es))
  stays_at n w v es is p = ever_after scene (AtNode n) (at_node-keeps n) w es (record { view = v; there = is; fact = p })
