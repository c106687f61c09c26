-- Each message of a run was sent by an event; a Refuse between two moments that follow one another.
use Rattle.std.proofs.Common.{List, None, Option, Some, [], add-one, ap, append-nil, append_assoc, arith, inl, inr, length, refl, slice_get, sub-one, subst, suc, sym, zero, ℕ, ◌++◌, ◌+◌, ◌-◌, ◌<◌, ◌∙◌, ◌∷◌, ◌≡◌, ◌⊎◌}
use Rattle.str_base.specs.declared.names.NodeId.{NodeId}
use Rattle.str_scene.specs.declared.names.Event.{Event}
use Rattle.str_scene.specs.declared.names.Event.TheVariants.{Client as ClientEvent, Deliver as DeliverEvent}
use Rattle.str_scene.specs.Scenes.{Here, Scene, Session, nth}
use Rattle.str_model.specs.declared.messages.Input.{Input}
use Rattle.str_model.specs.declared.messages.Input.TheVariants.{Client, Deliver}
use Rattle.str_model.specs.declared.messages.Message.{Message}
use Rattle.str_model.specs.Runs.{World, give, happens, run, run_from}
use Rattle.str_model.specs.Runs
use Rattle.str_model.specs.Steps.{step}
use Rattle.str_model.specs.Traces.{Happening, happening, trace_from}
use Rattle.str_model.specs.Traces
use Rattle.str_model.specs.Views.{Doing, View, starts}
use Rattle.str_model.proofs.Principle.SingleChanges.{Path, Where, along}
use Rattle.str_model.proofs.Principle.Everywhere.{at_place}
use Rattle.str_model.proofs.Principle.LastMoment.{EndsAt, last_moment}
use Rattle.str_model.proofs.Principle.LaterMoments.{Took, first_of, got_below}
use Rattle.str_model.proofs.Principle.NextMoments.{Link, linked}
use Rattle.str_model.proofs.Principle.MomentPaths.{link_path}
use Rattle.si_laws.proofs.Reasons.RefuseSent.{Judges, link_judged}
use Rattle.str_model.proofs.Changes.VersionChanges.{sent_step}
use Rattle.si_laws.proofs.Reasons.WithoutRefuse.{IsRefusal}
use Rattle.str_base.proofs.Members.{in_append}
use Rattle.str_base.specs.Members.{In}

-- what an event sends: what its last moment has sent, where a node takes it
pub record Sends (w : World) (h : Happening) (w' : World) : Type 0 where
  pub place : ℕ
  pub node : h.node ≡ Some (record { 0 = place + 1 })
  pub last : Doing
  pub ends : EndsAt h.moments last
  pub sent : w'.sent ≡ w.sent ++ last.sent

-- an event sends nothing, or this
pub data SendTurn (w : World) (h : Happening) (w' : World) : Type 0 where
  sends_none : w'.sent ≡ w.sent → SendTurn w h w'
  sends_some : Sends w h w' → SendTurn w h w'

module _ (scene : Scene) where
  step_sends : (e : Event) (i : ℕ) (w : World) (v : View) (input : Input) (o : Option Doing) → step (at_place scene i) input v ≡ o
      → SendTurn w (Traces.seen_at scene e (record { 0 = i + 1 }) input (Some v)) (Runs.stepped e i w o)
  step_sends e i w v input None q = sends_none refl
  step_sends e i w v input (Some d) q = sends_some (record { place = i; node = refl; last = d; ends = last_moment (at_place scene i) input v d q; sent = refl })

  at_sends : (e : Event) (n : NodeId) (input : Input) (w : World) (o : Option View) → nth w.nodes n.0 ≡ o → SendTurn w (Traces.seen_at scene e n input o) (Runs.step_at scene e n input w o)
  at_sends e n input w None is = sends_none refl
  at_sends e n input w (Some v) is = by_place n.0 is
    where
      by_place : (k : ℕ) → nth w.nodes k ≡ Some v
          → SendTurn w (Traces.seen_at scene e (record { 0 = k }) input (Some v)) (Runs.stepped e (k - 1) w (step (record { scene = scene; node = record { 0 = k } }) input v))
      by_place zero q = absurd cc
      by_place (suc i) q = rw (sub-one, ← add-one i) (step_sends e i w v input (step (at_place scene i) input v) refl)

  event_sends : (w : World) (e : Event) → SendTurn w (happening scene w e) (happens scene w e)
  unfolding happens
  event_sends w (ClientEvent s t) = by_session (nth scene.sessions s.0)
    where
      by_session : (o : Option Session) → SendTurn w (Traces.seen_client scene w (ClientEvent s t) s t o) (Runs.client_event scene (ClientEvent s t) s t w o)
      by_session None = sends_none refl
      by_session (Some text) = at_sends (ClientEvent s t) text.node (Client s t) w (nth w.nodes text.node.0) refl
  event_sends w (DeliverEvent i) = by_message (nth w.sent i)
    where
      given_same : (h : Happening) (w' : World) → SendTurn (give i w) h w' → SendTurn w h w'
      given_same h w' (sends_none a) = sends_none a
      given_same h w' (sends_some t) = sends_some (record { place = t.place; node = t.node; last = t.last; ends = t.ends; sent = t.sent })

      by_message : (o : Option Message) → SendTurn w (Traces.seen_message scene w (DeliverEvent i) o) (Runs.deliver_event scene (DeliverEvent i) i w o)
      by_message None = sends_none refl
      by_message (Some m) =
          given_same (Traces.seen_at scene (DeliverEvent i) m.receiver (Deliver m) (nth w.nodes m.receiver.0)) (Runs.at_node scene (DeliverEvent i) m.receiver (Deliver m) (give i w))
          (at_sends (DeliverEvent i) m.receiver (Deliver m) (give i w) (nth w.nodes m.receiver.0) refl)

-- the event of a run that sent the message
pub record SentBy (scene : Scene) (w : World) (es : List Event) (m : Message) : Type 0 where
  pub event : ℕ
  pub earlier : event < length es
  pub entry : Happening
  pub there : slice_get (trace_from scene w es) event ≡ Some entry
  pub place : ℕ
  pub node : entry.node ≡ Some (record { 0 = place + 1 })
  pub last : Doing
  pub ends : EndsAt entry.moments last
  pub member : In m last.sent

pub sent_by : (scene : Scene) (w : World) (es : List Event) (m : Message) → In m (run_from scene w es).sent → SentBy scene w es m ⊎ In m w.sent
sent_by scene w [] m h = inr h
sent_by scene w (e ∷ es) m h = later (sent_by scene (happens scene w e) es m h)
  where
    first : 0 < suc (length es)
    first = omega arith

    by_turn : SendTurn w (happening scene w e) (happens scene w e) → In m (happens scene w e).sent → SentBy scene w (e ∷ es) m ⊎ In m w.sent
    by_turn (sends_none q) g = inr (subst (In m) q g)
    by_turn (sends_some t) g =
        elim (in_append w.sent t.last.sent m (subst (In m) t.sent g)) [
          | inl j ↦ inr j
          | inr j ↦ inl (record { event = 0; earlier = first; entry = happening scene w e; there = refl; place = t.place; node = t.node; last = t.last; ends = t.ends; member = j })
        ]

    later : SentBy scene (happens scene w e) es m ⊎ In m (happens scene w e).sent → SentBy scene w (e ∷ es) m ⊎ In m w.sent
    later (inl r) =
        inl (record {
          event = suc r.event;
          earlier = omega (arith, r.earlier);
          entry = r.entry;
          there = r.there;
          place = r.place;
          node = r.node;
          last = r.last;
          ends = r.ends;
          member = r.member;
        })
    later (inr g) = by_turn (event_sends scene w e) g

-- what follows only adds messages
path_sends : (here : Here) (input : Input) (w : Where) (d e : Doing) → Path here input w d e → (new : List Message) × (e.sent ≡ d.sent ++ new)
path_sends here input w d e p =
    along here input w (λ z. (new : List Message) × (z.sent ≡ d.sent ++ new))
    (λ a b act h. let s = sent_step here input w a b act in (h.0 ++ s.new, s.are ∙ (ap (λ ms. ms ++ s.new) h.1 ∙ append_assoc d.sent h.0 s.new)))
    d e p ([], sym (append-nil d.sent))

-- the two moments of an event between which a Refuse was sent
pub record Sending (scene : Scene) (es : List Event) (j : ℕ) (h : Happening) (n : NodeId) (t : Took scene es j h n) (m : Message) : Type 0 where
  pub moment : ℕ
  pub there : Doing
  pub next : Doing
  pub first : slice_get h.moments moment ≡ Some there
  pub second : slice_get h.moments (suc moment) ≡ Some next
  pub new : List Message
  pub are : next.sent ≡ there.sent ++ new
  pub member : In m new
  pub judges : Judges (at_place scene t.takes.place) t.takes.input there m

pub sending : (scene : Scene) (es : List Event) (j : ℕ) (h : Happening) (n : NodeId) (t : Took scene es j h n) (m : Message) → IsRefusal m.body → (k : ℕ) (d : Doing) → slice_get h.moments k ≡ Some d → In m d.sent
    → Sending scene es j h n t m
sending scene es j h n t m r zero d q i = absurd (subst (λ (z : Doing). In m z.sent) (first_of scene es j h n d t q) i)
sending scene es j h n t m r (suc k) d q i =
    let here = at_place scene t.takes.place in
    let c = got_below h.moments k d q in
    let l : Link here t.takes.input (starts t.takes.view) c.0 d = linked here t.takes.input t.takes.view k c.0 d (ap (λ xs. slice_get xs k) (sym t.takes.moments) ∙ c.1) (ap (λ xs. slice_get xs (suc k)) (sym t.takes.moments) ∙ q) in
    let p = link_path here t.takes.input (starts t.takes.view) c.0 d l in
    let s = path_sends here t.takes.input p.0 c.0 d p.1 in
    elim (in_append c.0.sent s.0 m (subst (In m) s.1 i)) [
      | inl o ↦ sending scene es j h n t m r k c.0 c.1 o
      | inr o ↦ (elim (link_judged here t.takes.input (starts t.takes.view) c.0 d l m i r) [
        | inl b ↦ sending scene es j h n t m r k c.0 c.1 b
        | inr b ↦ record { moment = k; there = c.0; next = d; first = c.1; second = q; new = s.0; are = s.1; member = o; judges = b }
      ])
    ]
