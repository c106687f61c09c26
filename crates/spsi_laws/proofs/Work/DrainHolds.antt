-- The law Drain, over every run: the measure is fuel enough.
use Rattle.std.proofs.Common.{Bool, List, None, Option, Some, [], ap, arith, false, find, length, refl, slice_get, subst, suc, sym, true, zero, ℕ, ◌++◌, ◌+◌, ◌<◌, ◌∙◌, ◌∷◌, ◌≡◌, ◌≤◌}
use Rattle.std.proofs.lemmas.Option.{slice_get_within}
use Rattle.std.specs.List.{range_with_len}
use Rattle.str_model.proofs.ListFacts.{range_in}
use Rattle.spsi_laws.proofs.Work.LeftEvents.{Ready}
use Rattle.spsi_laws.proofs.Work.WorkHolds.{first_lowers, ready_run, run_more, step_lowers_at}
use Rattle.spsi_laws.specs.Laws.Drain.{DrainFollows, DrainLowers, DrainRests, DrainStops, drain_from}
use Rattle.str_model.specs.Drains.{AtRest, client_or_stop, drain_events, first_missing, message_or_client, moves, next_event, next_message, next_session, session_moves}
use Rattle.str_model.specs.Runs.{World, happens, run, run_from}
use Rattle.str_model.specs.Work.{left}
use Rattle.str_scene.specs.declared.names.Event.{Event}
use Rattle.str_scene.specs.declared.names.Event.TheVariants.{Client as ClientEvent, Deliver as DeliverEvent}
use Rattle.str_scene.specs.Scenes.{Scene, Session, nth}
use Rattle.str_base.proofs.Members.{find_none}
use Rattle.str_base.proofs.Lists.{found_passes}
use Rattle.str_base.specs.Members.{In}

-- ---- the oldest that was not given

missing_is : (k : ℕ) (bs : List Bool) (i : ℕ) → first_missing k bs ≡ Some i → (j : ℕ) × (i ≡ k + j) × (slice_get bs j ≡ Some false)
missing_is k [] i e = absurd (cc e)
missing_is k (true ∷ bs) i e = let r = missing_is (k + 1) bs i e in (suc r.0, omega (arith, r.1), r.2)
missing_is k (false ∷ bs) i e = (0, (let q : k ≡ i = cc e in omega (arith, q)), refl)

missing_none : (k : ℕ) (bs : List Bool) → first_missing k bs ≡ None → (j : ℕ) (b : Bool) → slice_get bs j ≡ Some b → b ≡ true
missing_none k [] e j b g = absurd (cc g)
missing_none k (true ∷ bs) e zero b g = (let q : true ≡ b = cc g in sym q)
missing_none k (true ∷ bs) e (suc j) b g = missing_none (k + 1) bs e j b g
missing_none k (false ∷ bs) e j b g = absurd (cc e)

all_given : (k : ℕ) (bs : List Bool) → ((j : ℕ) (b : Bool) → slice_get bs j ≡ Some b → b ≡ true) → first_missing k bs ≡ None
all_given k [] h = refl
all_given k (true ∷ bs) h = all_given (k + 1) bs (λ j b g. h (suc j) b g)
all_given k (false ∷ bs) h = absurd (cc (h 0 false refl))

find_nobody : {A : Type 0} (p : A → Bool) (xs : List A) → ((a : A) → p a ≡ false) → find p xs ≡ None
find_nobody p [] h = refl
find_nobody p (x ∷ xs) h = rw (h x) (find_nobody p xs h)

-- ---- the next event

-- it leaves less
next_lowers : (scene : Scene) (w : World) (e : Event) → Ready scene w → next_event scene w ≡ Some e → left scene (happens scene w e) < left scene w
unfolding next_event next_message next_session
next_lowers scene w e r q = by_message (first_missing 1 w.given) refl q
  where
    at_flag : (i j : ℕ) → i ≡ 1 + j → slice_get w.given j ≡ Some false → nth w.given i ≡ Some false
    at_flag zero j k g = absurd (omega (arith, k))
    at_flag (suc m) j k g = let s : m ≡ j = omega (arith, k) in ap (λ n. slice_get w.given n) s ∙ g

    by_session : (o : Option ℕ) → find (moves scene w) (range_with_len 1 (length scene.sessions)) ≡ o → client_or_stop o ≡ Some e → left scene (happens scene w e) < left scene w
    by_session None f k = absurd (cc k)
    by_session (Some s) f k =
        let is : ClientEvent (record { 0 = s }) 0 ≡ e = cc k in
        let m = found_passes (moves scene w) (range_with_len 1 (length scene.sessions)) s f in
        subst (λ z. left scene (happens scene w z) < left scene w) is (step_lowers_at scene w (record { 0 = s }) 0 r m)

    by_message : (o : Option ℕ) → first_missing 1 w.given ≡ o → message_or_client scene w o ≡ Some e → left scene (happens scene w e) < left scene w
    by_message None f k = by_session (find (moves scene w) (range_with_len 1 (length scene.sessions))) refl k
    by_message (Some i) f k =
        let is : DeliverEvent i ≡ e = cc k in
        let m = missing_is 1 w.given i f in
        subst (λ z. left scene (happens scene w z) < left scene w) is (first_lowers scene w i r (at_flag i m.0 m.1 m.2))

pub drain_lowers : DrainLowers
drain_lowers scene ok es e q = next_lowers scene (run scene es) e (ready_run scene es) q

-- ---- fuel

stops : (scene : Scene) (n : ℕ) (es : List Event) → left scene (run scene es) ≤ n → next_event scene (run_from scene (run scene es) (drain_events scene n (run scene es))) ≡ None
stops scene zero es l = by_next (next_event scene (run scene es)) refl
  where
    by_next : (o : Option Event) → next_event scene (run scene es) ≡ o → o ≡ None
    by_next None q = refl
    by_next (Some e) q = absurd (let k = next_lowers scene (run scene es) e (ready_run scene es) q in omega (arith, k, l))
stops scene (suc n) es l = by_next (λ e k. stops scene n (es ++ e ∷ []) k) (next_event scene (run scene es)) refl
  where
    by_next : ((e : Event) → left scene (run scene (es ++ e ∷ [])) ≤ n → next_event scene (run_from scene (run scene (es ++ e ∷ [])) (drain_events scene n (run scene (es ++ e ∷ [])))) ≡ None) → (o : Option Event) → next_event scene (run scene es) ≡ o
        → next_event scene (run_from scene (run scene es) (Rattle.str_model.specs.Drains.and_on (λ e. e ∷ drain_events scene n (happens scene (run scene es) e)) o)) ≡ None
    by_next rec None q = q
    by_next rec (Some e) q =
        let k = next_lowers scene (run scene es) e (ready_run scene es) q in
        let m = run_more scene es e in
        let less : left scene (run scene (es ++ e ∷ [])) ≤ n = (let z : left scene (run scene (es ++ e ∷ [])) ≡ left scene (happens scene (run scene es) e) = ap (left scene) m in omega (arith, k, l, z)) in
        subst (λ w. next_event scene (run_from scene w (drain_events scene n w)) ≡ None) m (rec e less)

pub drain_stops : DrainStops
drain_stops scene ok es = stops scene (left scene (run scene es)) es (omega arith)

-- more fuel changes nothing
same_fuel : (scene : Scene) (n m : ℕ) (es : List Event) → left scene (run scene es) ≤ n → left scene (run scene es) ≤ m → drain_events scene n (run scene es) ≡ drain_events scene m (run scene es)
same_fuel scene zero zero es l k = refl
same_fuel scene zero (suc m) es l k = by_next (next_event scene (run scene es)) refl
  where
    by_next : (o : Option Event) → next_event scene (run scene es) ≡ o → [] ≡ Rattle.str_model.specs.Drains.and_on (λ e. e ∷ drain_events scene m (happens scene (run scene es) e)) o
    by_next None q = refl
    by_next (Some e) q = absurd (let z = next_lowers scene (run scene es) e (ready_run scene es) q in omega (arith, z, l))
same_fuel scene (suc n) zero es l k = by_next (next_event scene (run scene es)) refl
  where
    by_next : (o : Option Event) → next_event scene (run scene es) ≡ o → Rattle.str_model.specs.Drains.and_on (λ e. e ∷ drain_events scene n (happens scene (run scene es) e)) o ≡ []
    by_next None q = refl
    by_next (Some e) q = absurd (let z = next_lowers scene (run scene es) e (ready_run scene es) q in omega (arith, z, k))
same_fuel scene (suc n) (suc m) es l k = by_next (λ e a b. same_fuel scene n m (es ++ e ∷ []) a b) (next_event scene (run scene es)) refl
  where
    by_next : ((e : Event) → left scene (run scene (es ++ e ∷ [])) ≤ n → left scene (run scene (es ++ e ∷ [])) ≤ m → drain_events scene n (run scene (es ++ e ∷ [])) ≡ drain_events scene m (run scene (es ++ e ∷ []))) → (o : Option Event) → next_event scene (run scene es) ≡ o
        → Rattle.str_model.specs.Drains.and_on (λ e. e ∷ drain_events scene n (happens scene (run scene es) e)) o ≡ Rattle.str_model.specs.Drains.and_on (λ e. e ∷ drain_events scene m (happens scene (run scene es) e)) o
    by_next f None q = refl
    by_next f (Some e) q =
        let z = next_lowers scene (run scene es) e (ready_run scene es) q in
        let more = run_more scene es e in
        let same : left scene (run scene (es ++ e ∷ [])) ≡ left scene (happens scene (run scene es) e) = ap (left scene) more in
        let rec = f e (omega (arith, z, l, same)) (omega (arith, z, k, same)) in
        ap (λ xs. e ∷ xs) (subst (λ w. drain_events scene n w ≡ drain_events scene m w) more rec)

follows_rule : (scene : Scene) (es : List Event) (n : ℕ) → n ≡ left scene (run scene es) → (o : Option Event) → next_event scene (run scene es) ≡ o
    → drain_events scene n (run scene es) ≡ Rattle.str_model.specs.Drains.and_on (λ e. e ∷ drain_from scene (happens scene (run scene es) e)) o
follows_rule scene es zero l None q = refl
follows_rule scene es zero l (Some e) q = absurd (let z = next_lowers scene (run scene es) e (ready_run scene es) q in omega (arith, z, l))
follows_rule scene es (suc n) l None q = ap (Rattle.str_model.specs.Drains.and_on (λ e. e ∷ drain_events scene n (happens scene (run scene es) e))) q
follows_rule scene es (suc n) l (Some e) q =
    let z = next_lowers scene (run scene es) e (ready_run scene es) q in
    let more = run_more scene es e in
    let same : left scene (run scene (es ++ e ∷ [])) ≡ left scene (happens scene (run scene es) e) = ap (left scene) more in
    let rec = same_fuel scene n (left scene (run scene (es ++ e ∷ []))) (es ++ e ∷ []) (omega (arith, z, l, same)) (omega arith) in
    ap (Rattle.str_model.specs.Drains.and_on (λ e. e ∷ drain_events scene n (happens scene (run scene es) e))) q
    ∙ ap (λ xs. e ∷ xs) (subst (λ w. drain_events scene n w ≡ drain_events scene (left scene w) w) more rec)

pub drain_follows : DrainFollows
drain_follows scene ok es =
    record {
      on = λ e q. follows_rule scene es (left scene (run scene es)) refl (Some e) q;
      stop = λ q. follows_rule scene es (left scene (run scene es)) refl None q;
    }

-- ---- rest

pub drain_rests : DrainRests
unfolding next_event next_message next_session moves
drain_rests scene ok es =
    record { rest = λ q. at_rest (first_missing 1 w.given) refl q; stop = λ h. rw (all_given 1 w.given h.0, find_nobody (moves scene w) (range_with_len 1 (length scene.sessions)) h.1) refl }
  where
    w : World
    w = run scene es

    no_such : (s : ℕ) (o : Option Session) → nth scene.sessions s ≡ o → ((s ≡ 0) → ⊥) → (In s (range_with_len 1 (length scene.sessions)) → moves scene w s ≡ false) → session_moves scene w.nodes (record { 0 = s }) o ≡ false
    no_such s None q ne h = refl
    no_such s (Some text) q ne h = ap (session_moves scene w.nodes (record { 0 = s })) (sym q) ∙ h (within s q ne)
      where
        within : (s : ℕ) → nth scene.sessions s ≡ Some text → ((s ≡ 0) → ⊥) → In s (range_with_len 1 (length scene.sessions))
        within zero q ne = absurd (ne refl)
        within (suc j) q ne = let l = slice_get_within scene.sessions j text q in range_in 1 (length scene.sessions) (suc j) (omega arith) (omega (arith, l))

    idle : (s : ℕ) → find (moves scene w) (range_with_len 1 (length scene.sessions)) ≡ None → moves scene w s ≡ false
    idle zero f = refl
    idle (suc j) f = no_such (suc j) (nth scene.sessions (suc j)) refl (λ z. cc z) (λ k. find_none (moves scene w) (range_with_len 1 (length scene.sessions)) (suc j) f k)

    by_session : (o : Option ℕ) → find (moves scene w) (range_with_len 1 (length scene.sessions)) ≡ o → client_or_stop o ≡ None → (s : ℕ) → moves scene w s ≡ false
    by_session None f k s = idle s f
    by_session (Some t) f k s = absurd (cc k)

    at_rest : (o : Option ℕ) → first_missing 1 w.given ≡ o → message_or_client scene w o ≡ None → AtRest scene w
    at_rest None f k = (missing_none 1 w.given f, by_session (find (moves scene w) (range_with_len 1 (length scene.sessions))) refl k)
    at_rest (Some i) f k = absurd (cc k)
