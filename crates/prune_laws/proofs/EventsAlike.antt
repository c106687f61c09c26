-- Each event leads a run and the run that prunes from side by side to side by side.
use Rattle.prune_laws.proofs.Alongside.{Alongside, Carries, Follows, acted, regiven, rested, thinned}
use Rattle.prune_laws.proofs.GoodViews.{Hears, good_at, high_input}
use Rattle.prune_laws.proofs.LateMessages.{IsLate, late_refuse, late_reply, late_step}
use Rattle.prune_laws.proofs.LowRises.{raises_self, same_self}
use Rattle.prune_laws.proofs.PairedLists.{BothAlike, alike_at, last_push, paired_at}
use Rattle.prune_laws.specs.PruneLaw.{IsDecidedIn}
use Rattle.si_laws.proofs.Stages.LinkedStates.{one_of}
use Rattle.std.proofs.Common.{Bool, List, None, Option, Some, add-one, ap, arith, false, inl, inr, length, max, option_map, refl, slice_get, slice_index, slice_set, sub-one, subst, subst₂, suc, sym, true, zero, ℕ, ◌-◌, ◌∙◌, ◌≡◌, ◌≤◌}
use Rattle.std.proofs.lemmas.Bool.{cases_eq}
use Rattle.std.proofs.lemmas.Option.{get_or_from_slice_get}
use Rattle.std.specs.List.{last_or}
use Rattle.str_base.proofs.Lists.{get_set, get_set_other}
use Rattle.str_base.specs.declared.names.NodeId.{NodeId}
use Rattle.str_model.specs.declared.messages.Input.{Input}
use Rattle.str_model.specs.declared.messages.Input.TheVariants.{Client, Deliver}
use Rattle.str_model.specs.declared.messages.Message.{Message}
use Rattle.str_model.specs.declared.names.Done.{Done}
use Rattle.str_model.specs.PrunedRuns.{PrunedWorld, bound, hears, hears_of, pruned_after, pruned_at, pruned_happens, row_or}
use Rattle.str_model.specs.Pruning.{low, pruned}
use Rattle.str_model.specs.Runs
use Rattle.str_model.specs.Runs.{World, happens, run, step_at, stepped}
use Rattle.str_model.specs.Steps.{step}
use Rattle.str_model.specs.Views.{Doing, View}
use Rattle.str_scene.specs.declared.names.Event.{Event}
use Rattle.str_scene.specs.declared.names.Event.TheVariants.{Client as ClientEvent, Deliver as DeliverEvent}
use Rattle.str_scene.specs.Scenes.{Scene, Session, nth}
use Rattle.str_model.proofs.Principle.Everywhere.{IsSeen, Sent, at_place, stage_of}
use Rattle.str_model.proofs.Pruning.PruneBounds.{Raises, SameLength, raised_row}
use Rattle.str_model.proofs.Pruning.TwinGood.{step_pruned}
use Rattle.str_model.proofs.Pruning.TwinRules.{BothTo}
use Rattle.str_model.proofs.Pruning.Twins.{Alike, a_refuse, a_reply, a_same}

-- what a row hears of one more number
hears_more : (vs : List View) (n : ℕ) (row : List ℕ) (m : Message) (l : ℕ) → Hears vs n row → Carries vs m l → Hears vs n (slice_set row (m.sender.0 - 1) (max (slice_index row (m.sender.0 - 1)) l))
hears_more vs n row m l h c k u g =
    let o = h k u g in
    elim (cases_eq k (m.sender.0 - 1)) [
      | inl q ↦ (let there : slice_get row (m.sender.0 - 1) ≡ Some o.0 = ap (λ (i : ℕ). slice_get row i) (sym q) ∙ o.1 in
          let old : slice_index row (m.sender.0 - 1) ≡ o.0 = get_or_from_slice_get row (m.sender.0 - 1) o.0 0 there in
          let le : l ≤ low u = c u (ap (λ (i : ℕ). slice_get vs i) (sym q) ∙ g) in (
            max (slice_index row (m.sender.0 - 1)) l,
            ap (λ (i : ℕ). slice_get (slice_set row (m.sender.0 - 1) (max (slice_index row (m.sender.0 - 1)) l)) i) q ∙ get_set row (m.sender.0 - 1) o.0 (max (slice_index row (m.sender.0 - 1)) l) there,
            λ other. let b = o.2 other in omega (arith, old, le, b),
          ))
      | inr q ↦ (o.0, get_set_other row (m.sender.0 - 1) k (max (slice_index row (m.sender.0 - 1)) l) q ∙ o.1, o.2)
    ]

-- a row after an event
abbrev Heard : List View → ℕ → List ℕ → List ℕ → Type 0
Heard vs n row new = Hears vs n new × SameLength row new × Raises row new

heard_same : (vs : List View) (n : ℕ) (row : List ℕ) → Hears vs n row → Heard vs n row row
heard_same vs n row h = (h, same_self row, raises_self row)

module _ (scene : Scene) (w : World) (p : PrunedWorld) (a : Alongside w p) where
  hears_event : (e : Event) (n : ℕ) (row : List ℕ) → Hears w.nodes n row → Heard w.nodes n row (hears p e row)
  hears_event (ClientEvent s t) n row h = heard_same w.nodes n row h
  hears_event (DeliverEvent i) n row h = by_message (nth p.world.sent i) (nth p.carried i) refl refl
    where
      carried_nth : (k : ℕ) (m : Message) (l : ℕ) → nth p.world.sent k ≡ Some m → nth p.carried k ≡ Some l → Carries w.nodes m l
      carried_nth zero m l q r = absurd (cc q)
      carried_nth (suc k) m l q r = paired_at (Carries w.nodes) p.world.sent p.carried k m l a.carried q r

      by_message : (o : Option Message) (c : Option ℕ) → nth p.world.sent i ≡ o → nth p.carried i ≡ c → Heard w.nodes n row (hears_of o c row)
      by_message None c q r = heard_same w.nodes n row h
      by_message (Some m) None q r = heard_same w.nodes n row h
      by_message (Some m) (Some l) q r =
          let up = raised_row row (m.sender.0 - 1) l in (hears_more w.nodes n row m l h (carried_nth i m l q r), up.0, up.1)

  -- an event that no node takes
  nobody : (e : Event) (i : ℕ) (gs hs : List Bool) → hs ≡ gs → (o : Option ℕ)
      → Follows w p (stepped e 0 (regiven gs w) None) (pruned_after p (stepped e i (regiven hs p.world) None) e o (last_or None (stepped e i (regiven hs p.world) None).journal))
  nobody e i gs hs q o =
      let d : Done = record { event = e; idle = true; answers = 0 } in
      subst (λ (c : Option Done). Follows w p (stepped e 0 (regiven gs w) None) (pruned_after p (stepped e i (regiven hs p.world) None) e o c)) (sym (last_push None p.world.journal d)) (by_place o)
    where
      by_place : (o : Option ℕ) → Follows w p (stepped e 0 (regiven gs w) None) (pruned_after p (stepped e i (regiven hs p.world) None) e o (Some (record { event = e; idle = true; answers = 0 })))
      by_place None = rested w p e 0 i gs hs q a
      by_place (Some n) = rested w p e 0 i gs hs q a

  -- an event that the i-th node takes
  module _ (e : Event) (i : ℕ) (v : View) (at : slice_get w.nodes i ≡ Some v) (input again : Input) (gs hs : List Bool) (q : hs ≡ gs) where
    abbrev mark : ℕ
    mark = bound (low v) i (a.nodes i v at).row

    taken : (o r : Option Doing) → step (at_place scene i) input v ≡ o → step (at_place scene i) again (pruned mark v) ≡ r → BothTo mark (IsDecidedIn w) (at_place scene i) o r
        → Follows w p (stepped e i (regiven gs w) o) (pruned_after p (stepped e i (regiven hs p.world) r) e (Some i) (last_or None (stepped e i (regiven hs p.world) r).journal))
    taken None None is pruned_is t =
        subst (λ (c : Option Done). Follows w p (stepped e i (regiven gs w) None) (pruned_after p (stepped e i (regiven hs p.world) None) e (Some i) c))
        (sym (last_push None p.world.journal (record { event = e; idle = true; answers = 0 }))) (rested w p e i i gs hs q a)
    taken None (Some f) is pruned_is t = absurd t
    taken (Some d) None is pruned_is t = absurd t
    taken (Some d) (Some f) is pruned_is t =
        subst (λ (c : Option Done). Follows w p (stepped e i (regiven gs w) (Some d)) (pruned_after p next e (Some i) c)) (sym (last_push None p.world.journal (record { event = e; idle = false; answers = length f.released })))
        (subst (λ (o : Option View). Follows w p (stepped e i (regiven gs w) (Some d)) (pruned_at p next e i o)) (sym (get_set p.world.nodes i (pruned mark v) f.view (a.nodes i v at).view))
        (subst (λ (o : Option (List ℕ)). Follows w p (stepped e i (regiven gs w) (Some d)) (thinned p next i (hears p e (row_or o)) f.view)) (sym (a.nodes i v at).heard)
        (acted scene w p a e i v at (a.nodes i v at) input again (hears p e (a.nodes i v at).row) h.0 h.1 h.2 d f is pruned_is t gs hs q)))
      where
        next : World
        next = stepped e i (regiven hs p.world) (Some f)

        h : Heard w.nodes i (a.nodes i v at).row (hears p e (a.nodes i v at).row)
        h = hears_event e i (a.nodes i v at).row (a.nodes i v at).hears

  -- what both do with an input at one node
  abbrev pub StepAlike : Input → Input → Type 0
  StepAlike input again =
      (i : ℕ) (v : View) (at : slice_get w.nodes i ≡ Some v)
      → BothTo (bound (low v) i (a.nodes i v at).row) (IsDecidedIn w) (at_place scene i) (step (at_place scene i) input v) (step (at_place scene i) again (pruned (bound (low v) i (a.nodes i v at).row) v))

  at_node : (e : Event) (n : NodeId) (input again : Input) (gs hs : List Bool) → hs ≡ gs → StepAlike input again
      → Follows w p (Runs.at_node scene e n input (regiven gs w))
      (pruned_after p (Runs.at_node scene e n again (regiven hs p.world)) e (Some (n.0 - 1)) (last_or None (Runs.at_node scene e n again (regiven hs p.world)).journal))
  at_node e n input again gs hs q both = by_views (nth w.nodes n.0) (nth p.world.nodes n.0) refl refl
    where
      Goal : Option View → Option View → Type 0
      Goal o r =
          Follows w p (step_at scene e n input (regiven gs w) o)
          (pruned_after p (step_at scene e n again (regiven hs p.world) r) e (Some (n.0 - 1)) (last_or None (step_at scene e n again (regiven hs p.world) r).journal))

      gone : (k : ℕ) (u : View) → nth w.nodes k ≡ None → nth p.world.nodes k ≡ Some u → ⊥
      gone zero u g r = cc r
      gone (suc k) u g r = cc (a.none k g, r)

      lost : (k : ℕ) (v : View) → nth w.nodes k ≡ Some v → nth p.world.nodes k ≡ None → ⊥
      lost zero v g r = cc g
      lost (suc k) v g r = cc ((a.nodes k v g).view, r)

      by_place : (k : ℕ) (v u : View) → nth w.nodes k ≡ Some v → nth p.world.nodes k ≡ Some u
          → Follows w p (stepped e (k - 1) (regiven gs w) (step (record { scene = scene; node = record { 0 = k } }) input v))
          (pruned_after p (stepped e (k - 1) (regiven hs p.world) (step (record { scene = scene; node = record { 0 = k } }) again u)) e (Some (k - 1))
          (last_or None (stepped e (k - 1) (regiven hs p.world) (step (record { scene = scene; node = record { 0 = k } }) again u)).journal))
      by_place zero v u g r = absurd (cc g)
      by_place (suc k) v u g r =
          let b = a.nodes k v g in
          let same : pruned (bound (low v) k b.row) v ≡ u = one_of (pruned (bound (low v) k b.row) v) u (slice_get p.world.nodes k) b.view r in
          rw (sub-one, ← add-one k)
          (subst (λ (z : View). Follows w p (stepped e k (regiven gs w) (step (at_place scene k) input v))
          (pruned_after p (stepped e k (regiven hs p.world) (step (at_place scene k) again z)) e (Some k) (last_or None (stepped e k (regiven hs p.world) (step (at_place scene k) again z)).journal))) same
          (taken e k v g input again gs hs q (step (at_place scene k) input v) (step (at_place scene k) again (pruned (bound (low v) k b.row) v)) refl refl (both k v g)))

      by_views : (o r : Option View) → nth w.nodes n.0 ≡ o → nth p.world.nodes n.0 ≡ r → Goal o r
      by_views None None g r = nobody e 0 gs hs q (Some (n.0 - 1))
      by_views None (Some u) g r = absurd (gone n.0 u g r)
      by_views (Some v) None g r = absurd (lost n.0 v g r)
      by_views (Some v) (Some u) g r = by_place n.0 v u g r

-- over the states of a run
module _ (scene : Scene) (es : List Event) (p : PrunedWorld) (a : Alongside (run scene es) p) where
  pub same_input : (input : Input) → IsSeen (stage_of (run scene es)) input → StepAlike scene (run scene es) p a input input
  same_input input seen i v at =
      let b = a.nodes i v at in
      step_pruned (bound (low v) i b.row) (IsDecidedIn (run scene es)) (at_place scene i) input (high_input scene es i v b.row at b.hears input seen) v (good_at scene es i v b.row at b.hears)

  late_input : (m n : Message) → IsLate (run scene es) m.body → IsLate (run scene es) n.body → StepAlike scene (run scene es) p a (Deliver m) (Deliver n)
  late_input m n c d i v at =
      let b = a.nodes i v at in
      subst₂ (λ (o r : Option Doing). BothTo (bound (low v) i b.row) (IsDecidedIn (run scene es)) (at_place scene i) o r)
      (sym (late_step scene (run scene es) i v v at refl m c)) (sym (late_step scene (run scene es) i v (pruned (bound (low v) i b.row) v) at refl n d)) tt

  pub event_follows : (e : Event) → Follows (run scene es) p (happens scene (run scene es) e) (pruned_happens scene p e)
  unfolding happens pruned_happens
  event_follows (ClientEvent s t) = by_session (nth scene.sessions s.0)
    where
      w : World
      w = run scene es

      by_session : (o : Option Session)
          → Follows w p (Runs.client_event scene (ClientEvent s t) s t w o)
          (pruned_after p (Runs.client_event scene (ClientEvent s t) s t p.world o) (ClientEvent s t) (option_map (λ (text : Session). text.node.0 - 1) o)
          (last_or None (Runs.client_event scene (ClientEvent s t) s t p.world o).journal))
      by_session None = nobody scene w p a (ClientEvent s t) 0 w.given p.world.given a.given None
      by_session (Some text) = at_node scene w p a (ClientEvent s t) text.node (Client s t) (Client s t) w.given p.world.given a.given (same_input (Client s t) tt)
  event_follows (DeliverEvent i) = by_messages (nth (run scene es).sent i) (nth p.world.sent i) refl (both_nth i)
    where
      w : World
      w = run scene es

      both_nth : (k : ℕ) → BothAlike (IsDecidedIn w) (nth w.sent k) (nth p.world.sent k)
      both_nth zero = tt
      both_nth (suc k) = alike_at (IsDecidedIn w) w.sent p.world.sent k a.sent

      sent_nth : (k : ℕ) (m : Message) → nth w.sent k ≡ Some m → Sent (stage_of w) m
      sent_nth zero m q = absurd (cc q)
      sent_nth (suc k) m q = (k, q)

      given : slice_set p.world.given (i - 1) true ≡ slice_set w.given (i - 1) true
      given = ap (λ (xs : List Bool). slice_set xs (i - 1) true) a.given

      Goal : Option Message → Option Message → Type 0
      Goal o r =
          Follows w p (Runs.deliver_event scene (DeliverEvent i) i w o)
          (pruned_after p (Runs.deliver_event scene (DeliverEvent i) i p.world r) (DeliverEvent i) (option_map (λ (m : Message). m.receiver.0 - 1) r)
          (last_or None (Runs.deliver_event scene (DeliverEvent i) i p.world r).journal))

      by_alike : (m n : Message) → nth w.sent i ≡ Some m → Alike (IsDecidedIn w) m n → Goal (Some m) (Some n)
      by_alike m n g (a_same u x q) =
          subst (λ (z : Message). Goal (Some m) (Some z)) q
          (at_node scene w p a (DeliverEvent i) m.receiver (Deliver m) (Deliver m) (slice_set w.given (i - 1) true) (slice_set p.world.given (i - 1) true) given (same_input (Deliver m) (sent_nth i m g)))
      by_alike m n g (a_reply from to tx k v v' by by' fc fc' c) =
          at_node scene w p a (DeliverEvent i) to (Deliver m) (Deliver n) (slice_set w.given (i - 1) true) (slice_set p.world.given (i - 1) true) given
          (late_input m n (late_reply tx k v by fc c) (late_reply tx k v' by' fc' c))
      by_alike m n g (a_refuse from to tx r by by' k c) =
          at_node scene w p a (DeliverEvent i) to (Deliver m) (Deliver n) (slice_set w.given (i - 1) true) (slice_set p.world.given (i - 1) true) given
          (late_input m n (late_refuse tx r by k c) (late_refuse tx r by' k c))

      by_messages : (o r : Option Message) → nth w.sent i ≡ o → BothAlike (IsDecidedIn w) o r → Goal o r
      by_messages None None g b = nobody scene w p a (DeliverEvent i) 0 w.given p.world.given a.given None
      by_messages None (Some n) g b = absurd b
      by_messages (Some m) None g b = absurd b
      by_messages (Some m) (Some n) g b = by_alike m n g b
