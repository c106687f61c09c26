-- What holds once a message was given: the event that gave it judged it, and what it left stays.
use Rattle.std.proofs.Common.{List, None, Option, Some, [], ap, arith, inl, inr, length, option_map, refl, slice_get, slice_set, subst, suc, sym, true, zero, ℕ, ◌++◌, ◌+◌, ◌-◌, ◌<◌, ◌∙◌, ◌∷◌, ◌≡◌}
use Rattle.si_laws.proofs.Stages.LinkedStates.{one_of}
use Rattle.si_laws.proofs.Stages.ParticipantSeats.{to_nth}
use Rattle.spsi_laws.proofs.Rest.GivenBy.{given_by}
use Rattle.spsi_laws.proofs.UnderWay.ReadsWaiting.{by_steps}
use Rattle.spsi_laws.proofs.UnderWay.ValidMessages.{posted}
use Rattle.str_base.specs.declared.names.NodeId.{NodeId}
use Rattle.str_model.proofs.Principle.Everywhere.{IsSeen, Stage, at_place, during, ever_after, run-append, stage_of}
use Rattle.str_model.proofs.Principle.SingleChanges.{Act, InTurn, InWait, Where, along}
use Rattle.str_model.proofs.Principle.StepPaths.{turn-path, wait_turns-path}
use Rattle.str_model.specs.Owned.{IsView}
use Rattle.str_model.specs.Pass
use Rattle.str_model.specs.Runs
use Rattle.str_model.specs.Runs.{World, give, happens, opening, run, run_from}
use Rattle.str_model.specs.Steps
use Rattle.str_model.specs.Steps.{rule, step}
use Rattle.str_model.specs.Views.{Doing, View, starts}
use Rattle.str_model.specs.Waiters
use Rattle.str_model.specs.declared.messages.Input.{Input}
use Rattle.str_model.specs.declared.messages.Input.TheVariants.{Deliver}
use Rattle.str_model.specs.declared.messages.Message.{Message}
use Rattle.str_scene.specs.SceneLimits.{IsScene}
use Rattle.str_scene.specs.Scenes.{Here, Scene, nth}
use Rattle.str_scene.specs.declared.names.Event.{Event}
use Rattle.str_scene.specs.declared.names.Event.TheVariants.{Deliver as DeliverEvent}
use Rattle.str_base.proofs.Lists.{get_append_left, get_set, get_set_other, got_set, slice_get_there}
use Rattle.std.proofs.lemmas.Option.{slice_get_within}

-- the event by which the j-th message was given to the n-th node, both counted from 0
pub record Given (scene : Scene) (es : List Event) (j : ℕ) (m : Message) (n : ℕ) : Type 0 where
  pub early : List Event
  pub view : View
  pub there : IsView scene early n view
  pub sent : slice_get (run scene early).sent j ≡ Some m
  pub late : List Event
  pub final_ : run scene es ≡ run_from scene (Runs.stepped (DeliverEvent (j + 1)) n (give (j + 1) (run scene early)) (step (at_place scene n) (Deliver m) view)) late

-- what was sent stays
sent_stays : (scene : Scene) (w : World) (es : List Event) (j : ℕ) (m : Message) → slice_get w.sent j ≡ Some m → slice_get (run_from scene w es).sent j ≡ Some m
sent_stays scene w es j m h = by_steps scene (λ s. slice_get s.sent j ≡ Some m) (λ s i v input e is seen q k. get_append_left s.sent e.sent j (slice_get_within s.sent j m k) ∙ k) w es h

-- the event is a step at the receiver
event_is : (scene : Scene) (w : World) (j n : ℕ) (m : Message) (v : View) → slice_get w.sent j ≡ Some m → m.receiver ≡ record { 0 = n + 1 } → slice_get w.nodes n ≡ Some v
    → happens scene w (DeliverEvent (j + 1)) ≡ Runs.stepped (DeliverEvent (j + 1)) n (give (j + 1) w) (step (at_place scene n) (Deliver m) v)
unfolding happens
event_is scene w j n m v sent to there =
    let e : Event = DeliverEvent (j + 1) in
    let w' : World = give (j + 1) w in
    let a : Runs.deliver_event scene e (j + 1) w (nth w.sent (j + 1)) ≡ Runs.at_node scene e m.receiver (Deliver m) w' = ap (λ o. Runs.deliver_event scene e (j + 1) w o) (to_nth w.sent j m sent) in
    let b : Runs.at_node scene e m.receiver (Deliver m) w' ≡ Runs.at_node scene e (record { 0 = n + 1 }) (Deliver m) w' = ap (λ (r : NodeId). Runs.at_node scene e r (Deliver m) w') to in
    let c : Runs.at_node scene e (record { 0 = n + 1 }) (Deliver m) w' ≡ Runs.stepped e (n + 1 - 1) w' (step (at_place scene n) (Deliver m) v) =
    ap (λ o. Runs.step_at scene e (record { 0 = n + 1 }) (Deliver m) w' o) (to_nth w.nodes n v there) in
    let k : n + 1 - 1 ≡ n = omega arith in
    a ∙ (b ∙ (c ∙ ap (λ i. Runs.stepped e i w' (step (at_place scene n) (Deliver m) v)) k))

pub given_at : (scene : Scene) → IsScene scene → (es : List Event) (j n : ℕ) (m : Message) → slice_get (run scene es).given j ≡ Some true → slice_get (run scene es).sent j ≡ Some m
    → m.receiver ≡ record { 0 = n + 1 } → n < scene.nodes → Given scene es j m n
given_at scene ok es j n m given sent to less =
    let g = given_by scene es j given in
    let len = (posted scene ok g.early).count in
    let v = slice_get_there (run scene g.early).nodes n (omega (arith, less, len)) in
    let all : run scene es ≡ run_from scene (happens scene (run scene g.early) (DeliverEvent (j + 1))) g.late = ap (λ xs. run scene xs) g.all ∙ run-append scene (opening scene) g.early (DeliverEvent (j + 1) ∷ g.late) in
    let later : slice_get (run scene (g.early ++ DeliverEvent (j + 1) ∷ g.late)).sent j ≡ Some g.message =
    ap (λ (w : World). slice_get w.sent j) (run-append scene (opening scene) g.early (DeliverEvent (j + 1) ∷ g.late)) ∙ sent_stays scene (run scene g.early) (DeliverEvent (j + 1) ∷ g.late) j g.message g.was_sent in
    let same : g.message ≡ m = one_of g.message m (slice_get (run scene es).sent j) (ap (λ xs. slice_get (run scene xs).sent j) g.all ∙ later) sent in
    let was : slice_get (run scene g.early).sent j ≡ Some m = g.was_sent ∙ ap (λ x. Some x) same in
    record {
      early = g.early;
      view = v.0;
      there = v.1;
      sent = was;
      late = g.late;
      final_ = all ∙ ap (λ (w : World). run_from scene w g.late) (event_is scene (run scene g.early) j n m v.0 was to v.1);
    }

-- ---- what follows a rule

module _ (here : Here) (input : Input) (P : View → Type 0) (keeps : (w : Where) (d e : Doing) → Act here input w d e → P d.view → P e.view) where
  pass_keeps : (k : ℕ) (d : Doing) → P d.view → P (Pass.pass_to here k d).view
  pass_keeps zero d h = h
  pass_keeps (suc i) d h =
      along here input (InTurn i) (λ z. P z.view) (keeps (InTurn i)) (Pass.pass_to here i d) (Pass.turn here i (Pass.pass_to here i d)) (turn-path here input (InTurn i) i (Pass.pass_to here i d) refl) (pass_keeps i d h)

  after_keeps : (r : Doing) → P r.view → P (Steps.after_rule here r).view
  unfolding Steps.after_rule
  after_keeps r h =
      let e : Doing = Pass.pass_to here (length r.view.own) r in
      along here input InWait (λ z. P z.view) (keeps InWait) e (Waiters.wait_turns here [] e.view.waiters e) (wait_turns-path here input InWait [] e.view.waiters e refl) (pass_keeps (length r.view.own) r h)

-- what a rule leaves
abbrev pub RuleLeaves : (View → Type 0) → View → Option Doing → Type 0
RuleLeaves P v None = P v
RuleLeaves P v (Some r) = P r.view

module _ (scene : Scene) (n : ℕ) (P : View → Type 0) (keeps : (input : Input) (w : Where) (d e : Doing) → Act (at_place scene n) input w d e → P d.view → P e.view) where
  -- the node's view has it
  record AtHas (s : Stage) : Type 0 where
    view : View
    there : slice_get s.nodes n ≡ Some view
    fact : P view

  at_keeps : (s : Stage) (i : ℕ) (v : View) (input : Input) (w : Where) (d e : Doing) → slice_get s.nodes i ≡ Some v → IsSeen s input → AtHas s → Act (at_place scene i) input w d e → AtHas (during s i d) → AtHas (during s i e)
  at_keeps s i v input w d e is seen hs a h =
      elim (got_set s.nodes i n d.view h.view h.there) [
        | inl p ↦ record {
          view = e.view;
          there = subst (λ k. slice_get (slice_set s.nodes i e.view) k ≡ Some e.view) (sym p.0) (get_set s.nodes i v e.view is);
          fact = keeps input w d e (subst (λ (k : ℕ). Act (at_place scene k) input w d e) (sym p.0) a) (subst P p.1 h.fact);
        }
        | inr q ↦ record { view = h.view; there = get_set_other s.nodes i n e.view q.0 ∙ q.1; fact = h.fact }
      ]

  after_step : (e : Event) (k : ℕ) (w : World) (input : Input) (v : View) (o : Option Doing) → slice_get w.nodes n ≡ Some v → RuleLeaves P v o → AtHas (stage_of (Runs.stepped e n (give k w) (option_map (Steps.after_rule (at_place scene n)) o)))
  after_step e k w input v None there h = record { view = v; there = there; fact = h }
  after_step e k w input v (Some r) there h = record {
    view = (Steps.after_rule (at_place scene n) r).view;
    there = get_set w.nodes n v (Steps.after_rule (at_place scene n) r).view there;
    fact = after_keeps (at_place scene n) input P (keeps input) r h;
  }

  -- what the rule of the given message leaves stays to the end
  pub given_holds : (es : List Event) (j : ℕ) (m : Message) (g : Given scene es j m n) → RuleLeaves P g.view (rule (at_place scene n) (Deliver m) (starts g.view)) → (u : View) → IsView scene es n u → P u
  unfolding step
  given_holds es j m g h u is =
      let w : World = run scene g.early in
      let o : Option Doing = rule (at_place scene n) (Deliver m) (starts g.view) in
      let first : AtHas (stage_of (Runs.stepped (DeliverEvent (j + 1)) n (give (j + 1) w) (option_map (Steps.after_rule (at_place scene n)) o))) = after_step (DeliverEvent (j + 1)) (j + 1) w (Deliver m) g.view o g.there h in
      let last : AtHas (stage_of (run_from scene (Runs.stepped (DeliverEvent (j + 1)) n (give (j + 1) w) (option_map (Steps.after_rule (at_place scene n)) o)) g.late)) =
      ever_after scene AtHas at_keeps (Runs.stepped (DeliverEvent (j + 1)) n (give (j + 1) w) (option_map (Steps.after_rule (at_place scene n)) o)) g.late first in
      let same : last.view ≡ u = one_of last.view u (slice_get (run scene es).nodes n) (ap (λ (z : World). slice_get z.nodes n) g.final_ ∙ last.there) is in
      subst P same last.fact
