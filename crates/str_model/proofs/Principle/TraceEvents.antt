-- The events of a trace: where each was done, from which view, and what it left.
use Rattle.std.proofs.Common.{List, None, Option, Some, [], add-one, ap, append_assoc, inl, inr, length, refl, slice_get, slice_set, sub-one, subst, suc, sym, zero, ℕ, ◌++◌, ◌+◌, ◌-◌, ◌<◌, ◌∙◌, ◌∷◌, ◌≡◌, ◌≢◌, ◌⊎◌, append-nil}
use Rattle.str_base.specs.declared.names.NodeId.{NodeId}
use Rattle.str_scene.specs.declared.names.Event.{Event}
use Rattle.str_scene.specs.declared.names.Event.TheVariants.{Client as ClientEvent, Deliver as DeliverEvent}
use Rattle.str_model.specs.declared.messages.Input.{Input}
use Rattle.str_model.specs.declared.messages.Input.TheVariants.{Client, Deliver}
use Rattle.str_model.specs.declared.messages.Message.{Message}
use Rattle.str_model.specs.Moments.{moments_of}
use Rattle.str_model.specs.Moments
use Rattle.str_model.specs.Owned.{Owns}
use Rattle.str_model.specs.Runs.{World, give, happens, opening, run, run_from}
use Rattle.str_model.specs.Runs
use Rattle.str_model.specs.Steps.{rule, step}
use Rattle.str_model.specs.Traces.{Happening, happening, nowhere, trace, trace_from}
use Rattle.str_model.specs.Traces
use Rattle.str_model.specs.Views.{Doing, Own, View, starts}
use Rattle.str_scene.specs.Scenes.{Here, Scene, Session, nth}
use Rattle.str_model.proofs.Principle.Everywhere.{IsSeen, Sent, at_place, stage_of}
use Rattle.str_model.proofs.Principle.LastMoment.{EndsAt, last_moment}
use Rattle.str_base.proofs.Lists.{get_pushed, get_set, get_set_other, set_got}
use Rattle.std.proofs.lemmas.Bool.{cases_eq}

-- an event that a node takes: its view before, its input, its moments and its last one
pub record Takes (scene : Scene) (w : World) (e : Event) (h : Happening) (w' : World) : Type 0 where
  pub place : ℕ
  pub node : h.node ≡ Some (record { 0 = place + 1 })
  pub view : View
  pub is : slice_get w.nodes place ≡ Some view
  pub input : Input
  pub given : h.input ≡ Some input
  pub seen : IsSeen (stage_of w) input
  pub moments : h.moments ≡ moments_of (at_place scene place) input view
  pub last : Doing
  pub ends : EndsAt h.moments last
  pub after : w'.nodes ≡ slice_set w.nodes place last.view
  pub sent : w'.sent ≡ w.sent ++ last.sent
  pub answers : w'.answers ≡ w.answers ++ last.released

-- an event: a node takes it, or none does
pub data Turns (scene : Scene) (w : World) (e : Event) (h : Happening) (w' : World) : Type 0 where
  nobody : h.node ≡ None → w'.nodes ≡ w.nodes → w'.answers ≡ w.answers → Turns scene w e h w'
  somebody : Takes scene w e h w' → Turns scene w e h w'

module _ (scene : Scene) where
  idle_ends : (here : Here) (input : Input) (v : View) → step here input v ≡ None → EndsAt (moments_of here input v) (starts v)
  unfolding step moments_of
  idle_ends here input v q = by_rule (rule here input (starts v)) q
    where
      by_rule : (o : Option Doing) → Rattle.std.specs.Prelude.option_map (Rattle.str_model.specs.Steps.after_rule here) o ≡ None → EndsAt (Moments.from_rule here input (starts v) o) (starts v)
      by_rule None q = ([], refl)
      by_rule (Some r) q = absurd (cc q)

  step_turns : (e : Event) (i : ℕ) (w : World) (v : View) (input : Input) (o : Option Doing) → slice_get w.nodes i ≡ Some v → IsSeen (stage_of w) input
      → step (at_place scene i) input v ≡ o
      → Turns scene w e (Traces.seen_at scene e (record { 0 = i + 1 }) input (Some v)) (Runs.stepped e i w o)
  step_turns e i w v input None is seen q =
      somebody (record {
        place = i;
        node = refl;
        view = v;
        is = is;
        input = input;
        given = refl;
        seen = seen;
        moments = refl;
        last = starts v;
        ends = idle_ends (at_place scene i) input v q;
        after = sym (set_got w.nodes i v is);
        sent = sym (append-nil w.sent);
        answers = sym (append-nil w.answers);
      })
  step_turns e i w v input (Some d) is seen q =
      somebody (record {
        place = i;
        node = refl;
        view = v;
        is = is;
        input = input;
        given = refl;
        seen = seen;
        moments = refl;
        last = d;
        ends = last_moment (at_place scene i) input v d q;
        after = refl;
        sent = refl;
        answers = refl;
      })

  at_turns : (e : Event) (n : NodeId) (input : Input) (w : World) (o : Option View) → nth w.nodes n.0 ≡ o → IsSeen (stage_of w) input
      → Turns scene w e (Traces.seen_at scene e n input o) (Runs.step_at scene e n input w o)
  at_turns e n input w None is seen = nobody refl refl refl
  at_turns e n input w (Some v) is seen = by_place n.0 is
    where
      by_place : (k : ℕ) → nth w.nodes k ≡ Some v
          → Turns scene w e (Traces.seen_at scene e (record { 0 = k }) input (Some v)) (Runs.stepped e (k - 1) w (step (record { scene = scene; node = record { 0 = k } }) input v))
      by_place zero q = absurd cc
      by_place (suc i) q = rw (sub-one, ← add-one i) (step_turns e i w v input (step (at_place scene i) input v) q seen refl)

  pub event_turns : (w : World) (e : Event) → Turns scene w e (happening scene w e) (happens scene w e)
  unfolding happens
  event_turns w (ClientEvent s t) = by_session (nth scene.sessions s.0)
    where
      by_session : (o : Option Session) → Turns scene w (ClientEvent s t) (Traces.seen_client scene w (ClientEvent s t) s t o) (Runs.client_event scene (ClientEvent s t) s t w o)
      by_session None = nobody refl refl refl
      by_session (Some text) = at_turns (ClientEvent s t) text.node (Client s t) w (nth w.nodes text.node.0) refl tt
  event_turns w (DeliverEvent i) = by_message (nth w.sent i) refl
    where
      nth-sent : (k : ℕ) (m : Message) → nth w.sent k ≡ Some m → Sent (stage_of w) m
      nth-sent zero m e = absurd cc
      nth-sent (suc j) m e = (j, e)

      given_same : (m : Message) (t : Turns scene (give i w) (DeliverEvent i) (Traces.seen_at scene (DeliverEvent i) m.receiver (Deliver m) (nth w.nodes m.receiver.0)) (Runs.at_node scene (DeliverEvent i) m.receiver (Deliver m) (give i w)))
          → Turns scene w (DeliverEvent i) (Traces.seen_at scene (DeliverEvent i) m.receiver (Deliver m) (nth w.nodes m.receiver.0)) (Runs.at_node scene (DeliverEvent i) m.receiver (Deliver m) (give i w))
      given_same m (nobody a b c) = nobody a b c
      given_same m (somebody t) =
          somebody (record {
            place = t.place;
            node = t.node;
            view = t.view;
            is = t.is;
            input = t.input;
            given = t.given;
            seen = t.seen;
            moments = t.moments;
            last = t.last;
            ends = t.ends;
            after = t.after;
            sent = t.sent;
            answers = t.answers;
          })

      by_message : (o : Option Message) → nth w.sent i ≡ o → Turns scene w (DeliverEvent i) (Traces.seen_message scene w (DeliverEvent i) o) (Runs.deliver_event scene (DeliverEvent i) i w o)
      by_message None q = nobody refl refl refl
      by_message (Some m) q = given_same m (at_turns (DeliverEvent i) m.receiver (Deliver m) (give i w) (nth w.nodes m.receiver.0) refl (nth-sent i m q))

-- the j-th event of a trace
pub record Nth (scene : Scene) (w : World) (es : List Event) (j : ℕ) (h : Happening) : Type 0 where
  pub early : List Event
  pub event : Event
  pub late : List Event
  pub all : es ≡ early ++ event ∷ late
  pub number : length early ≡ j
  pub is : h ≡ happening scene (run_from scene w early) event

pub nth_of : (scene : Scene) (w : World) (es : List Event) (j : ℕ) (h : Happening) → slice_get (trace_from scene w es) j ≡ Some h → Nth scene w es j h
nth_of scene w [] j h q = absurd (cc q)
nth_of scene w (e ∷ es) zero h q = record { early = []; event = e; late = es; all = refl; number = refl; is = (let same : happening scene w e ≡ h = cc q in sym same) }
nth_of scene w (e ∷ es) (suc j) h q =
    let r = nth_of scene (happens scene w e) es j h q in
    record { early = e ∷ r.early; event = r.event; late = r.late; all = ap (λ xs. e ∷ xs) r.all; number = ap suc r.number; is = r.is }

-- what a node's view holds was at a moment of an earlier event, or stood at the beginning
pub record Was (scene : Scene) (w : World) (es : List Event) (n i : ℕ) (x : Own) : Type 0 where
  pub event : ℕ
  pub moment : ℕ
  pub earlier : event < length es
  pub entry : Happening
  pub there : slice_get (trace_from scene w es) event ≡ Some entry
  pub node : entry.node ≡ Some (record { 0 = n + 1 })
  pub doing : Doing
  pub at_moment : slice_get entry.moments moment ≡ Some doing
  pub owns : Owns doing.view i x

pub ends_slice : (ms : List Doing) (d : Doing) (e : EndsAt ms d) → slice_get ms (length e.0) ≡ Some d
ends_slice ms d e = ap (λ xs. slice_get xs (length e.0)) e.1 ∙ get_pushed e.0 d

pub was_from : (scene : Scene) (w : World) (es : List Event) (n i : ℕ) (v : View) (x : Own) → slice_get (run_from scene w es).nodes n ≡ Some v → Owns v i x
    → Was scene w es n i x ⊎ ((u : View) × (slice_get w.nodes n ≡ Some u) × Owns u i x)
was_from scene w [] n i v x is own = inr (v, is, own)
was_from scene w (e ∷ es) n i v x is own = later (was_from scene (happens scene w e) es n i v x is own)
  where
    by_turn : (u : View) → slice_get (happens scene w e).nodes n ≡ Some u → Owns u i x → Turns scene w e (happening scene w e) (happens scene w e)
        → Was scene w (e ∷ es) n i x ⊎ ((u : View) × (slice_get w.nodes n ≡ Some u) × Owns u i x)
    by_turn u g o (nobody a b c) = inr (u, ap (λ ns. slice_get ns n) (sym b) ∙ g, o)
    by_turn u g o (somebody t) =
        elim (cases_eq n t.place) [
          | inl s ↦ (let at : Some t.last.view ≡ Some u = sym (ap (λ ns. slice_get ns n) t.after ∙ (ap (λ m. slice_get (slice_set w.nodes t.place t.last.view) m) s ∙ get_set w.nodes t.place t.view t.last.view t.is)) ∙ g in
              let same : t.last.view ≡ u = cc at in
              inl (record {
                event = 0;
                moment = length t.ends.0;
                earlier = omega_zero;
                entry = happening scene w e;
                there = refl;
                node = t.node ∙ ap (λ m. Some (record { 0 = m + 1 })) (sym s);
                doing = t.last;
                at_moment = ends_slice (happening scene w e).moments t.last t.ends;
                owns = subst (λ z. Owns z i x) (sym same) o;
              }))
          | inr s ↦ inr (u, sym (ap (λ ns. slice_get ns n) t.after ∙ get_set_other w.nodes t.place n t.last.view s) ∙ g, o)
        ]
      where
        omega_zero : 0 < suc (length es)
        omega_zero = omega Rattle.std.proofs.Common.arith

    later : Was scene (happens scene w e) es n i x ⊎ ((u : View) × (slice_get (happens scene w e).nodes n ≡ Some u) × Owns u i x)
        → Was scene w (e ∷ es) n i x ⊎ ((u : View) × (slice_get w.nodes n ≡ Some u) × Owns u i x)
    later (inl r) =
        inl (record {
          event = suc r.event;
          moment = r.moment;
          earlier = omega (Rattle.std.proofs.Common.arith, r.earlier);
          entry = r.entry;
          there = r.there;
          node = r.node;
          doing = r.doing;
          at_moment = r.at_moment;
          owns = r.owns;
        })
    later (inr r) = by_turn r.0 r.1 r.2 (event_turns scene w e)
