-- A cluster's world is the run of its journal, whose answers are few.
use Rattle.std.proofs.Common.{List, None, Option, Some, [], ap, arith, eq-eqb, false, filter, length, map, refl, slice_get, subst, suc, sym, true, zero, ℕ, ◌++◌, ◌+◌, ◌-◌, ◌∙◌, ◌∷◌, ◌≡◌, ◌≤◌}
use Rattle.std.proofs.lemmas.List.{map-append}
use Rattle.cluster_run.specs.Clusters.{IsRun, events_of}
use Rattle.si_laws.proofs.Sessions.SessionAnswers.{session_holds}
use Rattle.si_laws.proofs.Sessions.SessionHolds.{good_everywhere}
use Rattle.si_laws.proofs.Sessions.SessionOrder.{told_in}
use Rattle.si_laws.proofs.Times.BegunFew.{few_begin, place_key, places_length, places_of, place_in}
use Rattle.si_laws.proofs.Times.NoRepeats.{Once, fits, map_length}
use Rattle.si_laws.proofs.Stages.ParticipantSeats.{of_nth}
use Rattle.si_laws.specs.SnapshotIsolation.{AnswersPlaced, IsAnswer, IsPlaced}
use Rattle.spsi_laws.proofs.Work.LeftWorld.{even_run}
use Rattle.spsi_laws.proofs.Work.WorkHolds.{run_more}
use Rattle.str_base.proofs.Lists.{slice_get_there}
use Rattle.str_base.proofs.Members.{at_in, filter_in, in_at, in_map}
use Rattle.str_base.specs.Members.{In}
use Rattle.str_base.specs.declared.names.NodeId.{NodeId}
use Rattle.str_model.specs.declared.messages.Answer.{Answer}
use Rattle.str_model.specs.declared.messages.Input.{Input}
use Rattle.str_model.specs.declared.messages.Input.TheVariants.{Client, Deliver}
use Rattle.str_model.specs.declared.messages.Message.{Message}
use Rattle.str_model.specs.declared.names.Done.{Done}
use Rattle.str_model.specs.Runs.{World, client_event, deliver_event, give, happens, run, step_at, stepped}
use Rattle.str_model.specs.Steps.{step}
use Rattle.str_model.specs.Views.{Doing, Own, View}
use Rattle.str_scene.specs.declared.names.Event.{Event}
use Rattle.str_scene.specs.declared.names.Event.TheVariants.{Client as ClientEvent, Deliver as DeliverEvent}
use Rattle.str_scene.specs.declared.names.TxPlace.{TxPlace}
use Rattle.str_scene.specs.SceneLimits.{IsScene}
use Rattle.str_scene.specs.Scenes.{Scene, Session, nth}
use Rattle.partition_map.specs.Maps.{Exists}

-- ---- the journal

-- the event is the journal's next entry
Logged : Event → World → World → Type 0
Logged e w v = (d : Done) × (v.journal ≡ w.journal ++ d ∷ []) × (d.event ≡ e)

stepped_logged : (e : Event) (i : ℕ) (w : World) (o : Option Doing) → Logged e w (stepped e i w o)
unfolding Logged
stepped_logged e i w None = (record { event = e; idle = true; answers = 0 }, refl, refl)
stepped_logged e i w (Some d) = (record { event = e; idle = false; answers = length d.released }, refl, refl)

step_at_logged : (scene : Scene) (e : Event) (n : NodeId) (input : Input) (w : World) (o : Option View) → Logged e w (step_at scene e n input w o)
step_at_logged scene e n input w None = stepped_logged e 0 w None
step_at_logged scene e n input w (Some v) = stepped_logged e (n.0 - 1) w (step (record { scene = scene; node = n }) input v)

happens_logged : (scene : Scene) (w : World) (e : Event) → Logged e w (happens scene w e)
unfolding happens Logged
happens_logged scene w (ClientEvent s t) = by_session (nth scene.sessions s.0)
  where
    by_session : (o : Option Session) → Logged (ClientEvent s t) w (client_event scene (ClientEvent s t) s t w o)
    by_session None = stepped_logged (ClientEvent s t) 0 w None
    by_session (Some text) = step_at_logged scene (ClientEvent s t) text.node (Client s t) w (nth w.nodes text.node.0)
happens_logged scene w (DeliverEvent i) = by_message (nth w.sent i)
  where
    by_message : (o : Option Message) → Logged (DeliverEvent i) w (deliver_event scene (DeliverEvent i) i w o)
    by_message None = stepped_logged (DeliverEvent i) 0 w None
    by_message (Some m) = step_at_logged scene (DeliverEvent i) m.receiver (Deliver m) (give i w) (nth w.nodes m.receiver.0)

-- the events of the journal after an event
pub logged_events : (scene : Scene) (w : World) (e : Event) → events_of (happens scene w e).journal ≡ events_of w.journal ++ e ∷ []
unfolding Logged
logged_events scene w e =
    let l = happens_logged scene w e in
    ap events_of l.1 ∙ (map-append (λ (d : Done). d.event) w.journal (l.0 ∷ []) ∙ ap (λ x. events_of w.journal ++ x ∷ []) l.2)

-- after an event it is that run again
pub run_kept : (scene : Scene) (w : World) (e : Event) → IsRun scene w → IsRun scene (happens scene w e)
run_kept scene w e r = ap (λ v. happens scene v e) r ∙ (sym (run_more scene (events_of w.journal) e) ∙ ap (run scene) (sym (logged_events scene w e)))

-- there are as many flags as messages
pub run_even : (scene : Scene) (w : World) → IsRun scene w → length w.given ≡ length w.sent
run_even scene w r = let e = even_run scene (events_of w.journal) in ap (λ (v : World). length v.given) r ∙ (e ∙ sym (ap (λ (v : World). length v.sent) r))

-- ---- few answers

-- the place of an answer as two numbers
abbrev answer_key : Answer → ℕ × ℕ
answer_key a = (a.place.session.0, a.place.index)

key_same : (a : Answer) (x : Own) → a.place ≡ x.place → place_key x ≡ answer_key a
key_same a x e = ap (λ (p : TxPlace). (p.session.0, p.index)) (sym e)

answers_once : (all : List Answer) → ((i j : ℕ) (a b : Answer) → IsAnswer all i a → IsAnswer all j b → a.place ≡ b.place → i ≡ j) → Once (map answer_key all)
answers_once [] h = tt
answers_once (x ∷ xs) h = (not_later, answers_once xs (λ i j a b p q e. let r = h (suc i) (suc j) a b p q e in omega (arith, r)))
  where
    not_later : In (answer_key x) (map answer_key xs) → ⊥
    not_later k =
        let r = in_map answer_key xs (answer_key x) k in
        let at = at_in xs r.0 r.1 in
        let s : x.place.session.0 ≡ r.0.place.session.0 = ap (λ (z : ℕ × ℕ). z.0) (sym r.2) in
        let i : x.place.index ≡ r.0.place.index = ap (λ (z : ℕ × ℕ). z.1) (sym r.2) in
        let same : x.place ≡ r.0.place = λ j. record { session = record { 0 = s j }; index = i j } in
        let z = h 0 (suc at.0) x r.0 refl at.1 same in
        absurd (omega (arith, z))

-- a run has released 1024 answers at most
pub few_answers : (scene : Scene) → IsScene scene → (es : List Event) → length (run scene es).answers ≤ 1024
few_answers scene ok es =
    let once = answers_once all placed.places in
    let fit = fits (map answer_key all) (places_of (run scene es).nodes) once (λ z h. (let r = in_map answer_key all z h in subst (λ (y : ℕ × ℕ). In y (places_of (run scene es).nodes)) r.2 (there r.0 r.1))) in
    let a : length (map answer_key all) ≡ length all = map_length answer_key all in
    let b = places_length (run scene es).nodes in
    let c = few_begin scene ok es in
    omega (arith, fit, a, b, c)
  where
    all : List Answer
    all = (run scene es).answers

    placed : AnswersPlaced scene (run scene es).answers
    placed = (session_holds scene ok es).placed

    there : (a : Answer) → In a (run scene es).answers → In (answer_key a) (places_of (run scene es).nodes)
    there a m = by_node is.text.node.0 refl
      where
        at : (i : ℕ) × (slice_get (run scene es).answers i ≡ Some a)
        at = at_in (run scene es).answers a m

        is : IsPlaced scene a
        is = placed.each at.0 a at.1

        exists : Exists is.text.node.0 scene.nodes
        exists = let s = of_nth scene.sessions a.place.session.0 is.text is.session in (ok.sessions s.0 is.text s.2).node

        by_node : (k : ℕ) → is.text.node.0 ≡ k → In (answer_key a) (places_of (run scene es).nodes)
        by_node zero q = absurd (let z = exists in omega (arith, z.0, q))
        by_node (suc n) q =
            let good = good_everywhere scene es in
            let z = exists in
            let v = slice_get_there (run scene es).nodes n (omega (arith, z.1, q, good.count)) in
            let node : is.text.node.0 ≡ n + 1 = omega (arith, q) in
            let told = (good.nodes n v.0 v.1).told_ a.place.session.0 is.text is.session node in
            let mem = filter_in (told_in a.place.session.0) (run scene es).answers a m (eq-eqb a.place.session.0 a.place.session.0 refl) in
            let pos = at_in (filter (told_in a.place.session.0) (run scene es).answers) a mem in
            let made = (told.made pos.0 a pos.1).0 in
            let x : Own = made.x in
            let place : a.place ≡ x.place = λ j. (made.same j).place in
            let key : place_key x ≡ answer_key a = key_same a x place in
            subst (λ (y : ℕ × ℕ). In y (places_of (run scene es).nodes)) key (place_in (run scene es).nodes n v.0 x v.1 (in_at v.0.own made.i x made.owns))

-- so has the world of a cluster, now and after an event
pub answers_few : (scene : Scene) (w : World) → IsScene scene → IsRun scene w → length w.answers ≤ 1024
answers_few scene w ok r = let f = few_answers scene ok (events_of w.journal) in let e = ap (λ (v : World). length v.answers) r in omega (arith, f, e)
