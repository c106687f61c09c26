-- The law Work, over every run: at the opening all work is left, each first delivery and each client step that is not idle leaves less,
-- and a run without repeats has no more events that are not idle than there is work.
use Rattle.std.proofs.Common.{Bool, List, None, Option, Some, [], ap, append_assoc, append-nil, arith, drop, false, if◌then◌else◌, is_some, length, not, option_map, refl, replicate, slice_get, subst, suc, sym, take, true, zero, ℕ, ◌++◌, ◌+◌, ◌-◌, ◌<◌, ◌∙◌, ◌∷◌, ◌≡◌, ◌≤◌}
use Rattle.std.proofs.lemmas.List.Sums.{sum_by-cons}
use Rattle.std.specs.List.{count_by, sum_by}
use Rattle.si_laws.proofs.Sessions.SessionHolds.{good_everywhere}
use Rattle.spsi_laws.proofs.Work.LeftEvents.{Ready, client_outcome, deliver_nothing, deliver_outcome, given_again, given_first, message_heavy, o_acts, o_idle, stepped_acts, was_sent}
use Rattle.spsi_laws.proofs.Work.LeftHome.{mine}
use Rattle.spsi_laws.proofs.Work.LeftSums.{count_push}
use Rattle.spsi_laws.proofs.Work.LeftWorld.{even_run, sound_run}
use Rattle.spsi_laws.specs.Laws.Work.{DeliveryLowers, LeftAtOpening, NoRepeats, RepeatsRaise, StepLowers, WorkBounded}
use Rattle.str_base.specs.declared.names.SessionId.{SessionId}
use Rattle.str_base.specs.Versions.{same_node}
use Rattle.str_model.proofs.Principle.Everywhere.{at_place, run-append}
use Rattle.str_model.specs.Clients
use Rattle.str_model.specs.Clients.{client_rule}
use Rattle.str_model.specs.Drains.{moves, session_moves, view_moves}
use Rattle.str_model.specs.Runs.{World, happens, opening, opening_view, run, run_from}
use Rattle.str_model.specs.Runs
use Rattle.str_model.specs.Steps.{after_rule, rule, step}
use Rattle.str_model.specs.Views.{Aborted, Active, Committed, Doing, Own, Phase, View, starts}
use Rattle.str_model.specs.Work.{begun_in, body_weight, left, share, unbegun_left, views_left, work}
use Rattle.str_model.specs.declared.messages.Input.TheVariants.{Client}
use Rattle.str_model.specs.declared.messages.Message.{Message}
use Rattle.str_model.specs.declared.names.Done.{Done}
use Rattle.str_scene.specs.declared.names.Event.{Event}
use Rattle.str_scene.specs.declared.names.Event.TheVariants.{Client as ClientEvent, Deliver as DeliverEvent}
use Rattle.str_scene.specs.declared.names.Op.{Op}
use Rattle.str_scene.specs.declared.names.TxPlace.{TxPlace}
use Rattle.str_scene.specs.Scenes.{Here, Scene, Session, nth}
use Rattle.str_base.proofs.Lists.{slice_get_there}
use Rattle.str_base.proofs.Tests.{value_there}

-- ---- at the opening

none_begun : (scene : Scene) (k s : ℕ) → begun_in (replicate k (opening_view scene)) s ≡ 0
none_begun scene zero s = refl
none_begun scene (suc k) s =
    let r = none_begun scene k s in
    let a = sum_by-cons (λ (v : View). count_by (mine s) v.own) (opening_view scene) (replicate k (opening_view scene)) in
    omega (arith, r, a)

none_viewed : (scene : Scene) (n k : ℕ) → views_left scene n (replicate k (opening_view scene)) ≡ 0
none_viewed scene n zero = refl
none_viewed scene n (suc k) = let r = none_viewed scene (n + 1) k in omega (arith, r)

all_unbegun : (scene : Scene) (vs : List View) (n : ℕ) (rest : List Session) → ((s : ℕ) → begun_in vs s ≡ 0) → unbegun_left scene vs n rest ≡ sum_by (λ s. sum_by (share scene s.node) s.txs) rest
all_unbegun scene vs n [] h = refl
all_unbegun scene vs n (text ∷ rest) h =
    let r = all_unbegun scene vs (n + 1) rest h in
    let a = sum_by-cons (λ (s : Session). sum_by (share scene s.node) s.txs) text rest in
    let b : sum_by (share scene text.node) (drop (begun_in vs n) text.txs) ≡ sum_by (share scene text.node) text.txs = ap (λ c. sum_by (share scene text.node) (drop c text.txs)) (h n) in
    three _ _ _ _ _ r a b
  where
    three : (u w s d x : ℕ) → u ≡ w → s ≡ x + w → d ≡ x → d + u ≡ s
    three u w s d x p q r = omega (arith, p, q, r)

pub left_at_opening : LeftAtOpening
unfolding left
left_at_opening scene ok =
    let a = all_unbegun scene (replicate scene.nodes (opening_view scene)) 1 scene.sessions (λ s. none_begun scene scene.nodes s) in
    let b = none_viewed scene 1 scene.nodes in
    sums _ _ _ a b
  where
    sums : (u w v : ℕ) → u ≡ w → v ≡ 0 → u + (v + 0) ≡ w
    sums u w v p q = omega (arith, p, q)

-- ---- in each state

pub ready_run : (scene : Scene) (es : List Event) → Ready scene (run scene es)
ready_run scene es =
    record { sound = sound_run scene es; order = λ n v g. ((good_everywhere scene es).nodes n v g).ordered; even = even_run scene es }

pub run_more : (scene : Scene) (es : List Event) (e : Event) → run scene (es ++ e ∷ []) ≡ happens scene (run scene es) e
run_more scene es e = run-append scene (opening scene) es (e ∷ [])

-- a first delivery leaves less
pub first_lowers : (scene : Scene) (w : World) (i : ℕ) → Ready scene w → nth w.given i ≡ Some false → left scene (happens scene w (DeliverEvent i)) < left scene w
first_lowers scene w i r g =
    let s = was_sent scene w i false r.even g in
    let f = given_first scene w i s.0 g s.1 in
    let h = message_heavy scene w i s.0 r s.1 in
    elim (deliver_outcome scene w i s.0 r s.1) [
      | o_idle l j ↦ omega (arith, l, f, h)
      | o_acts n l j ↦ omega (arith, l, f, h)
    ]

pub delivery_lowers : DeliveryLowers
delivery_lowers scene ok es i g = rw (run_more scene es (DeliverEvent i)) (first_lowers scene (run scene es) i (ready_run scene es) g)

-- a message that is given again
again_raises : (scene : Scene) (w : World) (i : ℕ) (m : Message) → Ready scene w → nth w.given i ≡ Some true → nth w.sent i ≡ Some m → left scene (happens scene w (DeliverEvent i)) < left scene w + body_weight scene m.body
again_raises scene w i m r g q =
    let f = given_again scene w i g in
    let h = message_heavy scene w i m r q in
    elim (deliver_outcome scene w i m r q) [
      | o_idle l j ↦ omega (arith, l, f, h)
      | o_acts n l j ↦ omega (arith, l, f, h)
    ]

pub repeats_raise : RepeatsRaise
repeats_raise scene ok es i m g q = rw (run_more scene es (DeliverEvent i)) (again_raises scene (run scene es) i m (ready_run scene es) g q)

-- ---- whether a client step is idle does not turn on the reading

module _ (here : Here) (s : SessionId) (t u : ℕ) where
  Alike : Option Doing → Option Doing → Type 0
  Alike a b = is_some a ≡ is_some b

  begin_alike : (place : TxPlace) (o : Option (List Op)) (d : Doing) → Alike (Clients.begin here place t o d) (Clients.begin here place u o d)
  unfolding Alike
  begin_alike place None d = refl
  begin_alike place (Some ops) d = refl

  go_on_alike : (text : Session) (i : ℕ) (x : Own) (p : Phase) (d : Doing) → Alike (Clients.go_on here s t text i x p d) (Clients.go_on here s u text i x p d)
  unfolding Alike
  go_on_alike text i x Active d = refl
  go_on_alike text i x (Committed lc fc) d = begin_alike (Clients.place_in s (x.place.index + 1)) (nth text.txs (x.place.index + 1)) d
  go_on_alike text i x (Aborted lc c) d = begin_alike (Clients.place_in s (x.place.index + 1)) (nth text.txs (x.place.index + 1)) d
  go_on_alike text i x _ d = refl

  go_on_at_alike : (text : Session) (i : ℕ) (o : Option Own) (d : Doing) → Alike (Clients.go_on_at here s t text i o d) (Clients.go_on_at here s u text i o d)
  unfolding Alike
  go_on_at_alike text i None d = refl
  go_on_at_alike text i (Some x) d = go_on_alike text i x x.phase d

  go_on_last_alike : (text : Session) (o : Option ℕ) (d : Doing) → Alike (Clients.go_on_last here s t text o d) (Clients.go_on_last here s u text o d)
  go_on_last_alike text None d = begin_alike (Clients.place_in s 1) (nth text.txs 1) d
  go_on_last_alike text (Some i) d = go_on_at_alike text i (slice_get d.view.own i) d

  in_session_alike : (o : Option Session) (d : Doing) → Alike (Clients.in_session here s t o d) (Clients.in_session here s u o d)
  unfolding Alike
  in_session_alike None d = refl
  in_session_alike (Some text) d = by_test (same_node text.node here.node)
    where
      by_test : (b : Bool) → is_some (if b then Clients.go_on_last here s t text (Clients.last_index (Clients.of_session s) d.view.own) d else None) ≡ is_some (if b then Clients.go_on_last here s u text (Clients.last_index (Clients.of_session s) d.view.own) d else None)
      by_test true = go_on_last_alike text (Clients.last_index (Clients.of_session s) d.view.own) d
      by_test false = refl

  pub rule_alike : (d : Doing) → is_some (client_rule here s t d) ≡ is_some (client_rule here s u d)
  unfolding client_rule Alike
  rule_alike d = in_session_alike (nth here.scene.sessions s.0) d

-- a client step that is not idle leaves less
step_of : (here : Here) (s : SessionId) (t : ℕ) (v : View) → is_some (client_rule here s 0 (starts v)) ≡ true → (d : Doing) × (step here (Client s t) v ≡ Some d)
unfolding step rule
step_of here s t v e =
    let r = value_there (client_rule here s t (starts v)) (rule_alike here s t 0 (starts v) ∙ e) in
    (after_rule here r.0, ap (option_map (after_rule here)) r.1)

pub step_lowers_at : (scene : Scene) (w : World) (s : SessionId) (t : ℕ) → Ready scene w → moves scene w s.0 ≡ true → left scene (happens scene w (ClientEvent s t)) < left scene w
unfolding moves happens
step_lowers_at scene w s t r e = by_session (nth scene.sessions s.0) e
  where
    by_place : (n k : ℕ) (v : View) → k ≡ n → nth w.nodes k ≡ Some v → is_some (client_rule (record { scene = scene; node = record { 0 = k } }) s 0 (starts v)) ≡ true
        → left scene (Runs.stepped (ClientEvent s t) (k - 1) w (step (record { scene = scene; node = record { 0 = k } }) (Client s t) v)) < left scene w
    by_place n zero v c q m = absurd (cc q)
    by_place n (suc i) v c q m =
        let p : k_is i = omega arith in
        let d = step_of (record { scene = scene; node = record { 0 = suc i } }) s t v m in
        rw (d.1, less_one i) (let at : step (at_place scene i) (Client s t) v ≡ Some d.0 = ap (λ z. step (record { scene = scene; node = record { 0 = z } }) (Client s t) v) p ∙ d.1 in
        let l = stepped_acts scene (ClientEvent s t) i w v (Client s t) d.0 r q at in omega (arith, l))
      where
        k_is : ℕ → Type 0
        k_is i = i + 1 ≡ suc i

        less_one : (j : ℕ) → suc j - 1 ≡ j
        less_one j = omega arith

    by_view : (text : Session) (o : Option View) → nth w.nodes text.node.0 ≡ o → view_moves (record { scene = scene; node = text.node }) s o ≡ true
        → left scene (Runs.step_at scene (ClientEvent s t) text.node (Client s t) w o) < left scene w
    by_view text None q m = absurd (cc m)
    by_view text (Some v) q m = by_place text.node.0 text.node.0 v refl q m

    by_session : (o : Option Session) → session_moves scene w.nodes s o ≡ true → left scene (Runs.client_event scene (ClientEvent s t) s t w o) < left scene w
    by_session None m = absurd (cc m)
    by_session (Some text) m = by_view text (nth w.nodes text.node.0) refl m

pub step_lowers : StepLowers
step_lowers scene ok es s t e = rw (run_more scene es (ClientEvent s t)) (step_lowers_at scene (run scene es) s t (ready_run scene es) e)

-- ---- the bound

busy : World → ℕ
busy w = count_by (λ (d : Done). not d.idle) w.journal

busy_idle : (w w' : World) (e : Event) → w'.journal ≡ w.journal ++ record { event = e; idle = true; answers = 0 } ∷ [] → busy w' ≡ busy w
unfolding busy
busy_idle w w' e q =
    let a = count_push (λ (d : Done). not d.idle) w.journal (record { event = e; idle = true; answers = 0 }) in
    let b : busy w' ≡ count_by (λ (d : Done). not d.idle) (w.journal ++ record { event = e; idle = true; answers = 0 } ∷ []) = ap (count_by (λ (d : Done). not d.idle)) q in
    omega (arith, a, b)

busy_acts : (w w' : World) (e : Event) (n : ℕ) → w'.journal ≡ w.journal ++ record { event = e; idle = false; answers = n } ∷ [] → busy w' ≡ busy w + 1
unfolding busy
busy_acts w w' e n q =
    let a = count_push (λ (d : Done). not d.idle) w.journal (record { event = e; idle = false; answers = n }) in
    let b : busy w' ≡ count_by (λ (d : Done). not d.idle) (w.journal ++ record { event = e; idle = false; answers = n } ∷ []) = ap (count_by (λ (d : Done). not d.idle)) q in
    omega (arith, a, b)

-- the event gives no message that was given
abbrev IsNew : World → Event → Type 0
IsNew w e = (i : ℕ) → e ≡ DeliverEvent i → nth w.given i ≡ Some true → ⊥

one_event : (scene : Scene) (w : World) (e : Event) → Ready scene w → IsNew w e → busy (happens scene w e) + left scene (happens scene w e) ≤ busy w + left scene w
one_event scene w (ClientEvent s t) r n =
    elim (client_outcome scene w s t r) [
      | o_idle l j ↦ (let b = busy_idle w (happens scene w (ClientEvent s t)) (ClientEvent s t) j in omega (arith, l, b))
      | o_acts k l j ↦ (let b = busy_acts w (happens scene w (ClientEvent s t)) (ClientEvent s t) k j in omega (arith, l, b))
    ]
one_event scene w (DeliverEvent i) r n = by_message (nth w.sent i) refl
  where
    given_at : (k : ℕ) (m : Message) → nth w.sent k ≡ Some m → (b : Bool) × (nth w.given k ≡ Some b)
    given_at zero m q = absurd (cc q)
    given_at (suc j) m q =
        let l = Rattle.std.proofs.lemmas.Option.slice_get_within w.sent j m q in
        let e : length w.given ≡ length w.sent = r.even in
        slice_get_there w.given j (omega (arith, l, e))

    by_flag : (m : Message) → nth w.sent i ≡ Some m → (b : Bool) → nth w.given i ≡ Some b → busy (happens scene w (DeliverEvent i)) + left scene (happens scene w (DeliverEvent i)) ≤ busy w + left scene w
    by_flag m q true g = absurd (n i refl g)
    by_flag m q false g =
        let f = given_first scene w i m g q in
        elim (deliver_outcome scene w i m r q) [
          | o_idle l j ↦ (let b = busy_idle w (happens scene w (DeliverEvent i)) (DeliverEvent i) j in omega (arith, l, b, f))
          | o_acts k l j ↦ (let b = busy_acts w (happens scene w (DeliverEvent i)) (DeliverEvent i) k j in omega (arith, l, b, f))
        ]

    by_message : (o : Option Message) → nth w.sent i ≡ o → busy (happens scene w (DeliverEvent i)) + left scene (happens scene w (DeliverEvent i)) ≤ busy w + left scene w
    by_message None q =
        elim (deliver_nothing scene w i q) [
          | o_idle l j ↦ (let b = busy_idle w (happens scene w (DeliverEvent i)) (DeliverEvent i) j in omega (arith, l, b))
          | o_acts k l j ↦ (let b = busy_acts w (happens scene w (DeliverEvent i)) (DeliverEvent i) k j in omega (arith, l, b))
        ]
    by_message (Some m) q = let g = given_at i m q in by_flag m q g.0 g.1

take_front : (early late : List Event) → take (length early) (early ++ late) ≡ early
take_front [] late = refl
take_front (e ∷ early) late = ap (λ es. e ∷ es) (take_front early late)

at_front : (early late : List Event) (e : Event) → slice_get (early ++ e ∷ late) (length early) ≡ Some e
at_front [] late e = refl
at_front (f ∷ early) late e = at_front early late e

bounded_from : (scene : Scene) (early late : List Event) → NoRepeats scene (early ++ late) → busy (run scene early) + left scene (run scene early) ≤ work scene
    → busy (run scene (early ++ late)) + left scene (run scene (early ++ late)) ≤ work scene
bounded_from scene early [] n h = rw append-nil h
bounded_from scene early (e ∷ late) n h =
    let w : World = run scene early in
    let new : IsNew w e = λ i q g. n (length early) i (at_front early late e ∙ ap (λ z. Some z) q) (ap (λ es. nth (run scene es).given i) (take_front early (e ∷ late)) ∙ g) in
    let o = one_event scene w e (ready_run scene early) new in
    let all : (early ++ e ∷ []) ++ late ≡ early ++ e ∷ late = append_assoc early (e ∷ []) late in
    let next : busy (run scene (early ++ e ∷ [])) + left scene (run scene (early ++ e ∷ [])) ≤ work scene = rw (run_more scene early e) (omega (arith, o, h)) in
    subst (λ es. busy (run scene es) + left scene (run scene es) ≤ work scene) all (bounded_from scene (early ++ e ∷ []) late (subst (NoRepeats scene) (sym all) n) next)

pub work_bounded : WorkBounded
unfolding busy
work_bounded scene ok es n =
    let o = left_at_opening scene ok in
    let b = bounded_from scene [] es n (omega (arith, o)) in
    omega (arith, b)
