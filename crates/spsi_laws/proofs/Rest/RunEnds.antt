-- Where nothing is left to do no transaction is open, and a run with a drain ends there.
use Rattle.std.proofs.Common.{Bool, List, None, Option, Some, [], ap, arith, cond, eq-eqb, eqb-true, false, filter, inl, inr, length, not, refl, slice_get, subst, suc, sym, true, zero, ℕ, ◌++◌, ◌+◌, ◌-◌, ◌<◌, ◌==◌, ◌∙◌, ◌∷◌, ◌≡◌, ◌≤◌, ◌⊎◌}
use Rattle.std.proofs.lemmas.List.Sums.{sum_by-cons}
use Rattle.std.specs.List.{count_by, sum_by}
use Rattle.si_laws.proofs.Sessions.SessionHolds.{good_everywhere}
use Rattle.si_laws.proofs.Sessions.SessionOrder.{told_in}
use Rattle.spsi_laws.proofs.Rest.RestHolds.{all_decided, rest_holds}
use Rattle.spsi_laws.proofs.UnderWay.UnderWayHolds.{under_way}
use Rattle.spsi_laws.proofs.Work.DrainHolds.{drain_rests, drain_stops}
use Rattle.spsi_laws.proofs.Work.LeftHome.{Counted, last_there, mine}
use Rattle.spsi_laws.proofs.Work.LeftSums.{count-cons}
use Rattle.spsi_laws.proofs.Work.LeftWorld.{sound_run}
use Rattle.spsi_laws.specs.Laws.Ends.{EndsAtRest, RestClosed}
use Rattle.spsi_laws.specs.Laws.Rest.{AllAnswered}
use Rattle.str_base.proofs.Lists.{slice_get_there}
use Rattle.str_base.proofs.Members.{at_in, filter_in, in_at}
use Rattle.str_model.proofs.Changes.AnswerChanges.{last_index-none, last_index-some}
use Rattle.str_model.proofs.ListCounts.{one_if}
use Rattle.str_model.proofs.OwnFacts.PlacesInOrder.{InOrder}
use Rattle.str_model.proofs.Principle.Everywhere.{run-append}
use Rattle.str_model.specs.Clients.{last_index}
use Rattle.str_model.specs.Drains.{AtRest, cluster_events, cluster_run, drain_events, drained, next_event}
use Rattle.str_model.specs.Runs.{opening, run, run_from}
use Rattle.str_model.specs.Views.{Own, View, is_decided}
use Rattle.str_model.specs.Work.{begun_in, left}
use Rattle.str_scene.specs.declared.names.Event.{Event}
use Rattle.str_scene.specs.declared.names.TxPlace.{TxPlace}
use Rattle.str_scene.specs.SceneLimits.{IsScene}
use Rattle.str_scene.specs.Scenes.{Scene, Session, nth}

-- ---- sums

sum_none : {A : Type 0} (f : A → ℕ) (xs : List A) → ((i : ℕ) (x : A) → slice_get xs i ≡ Some x → f x ≡ 0) → sum_by f xs ≡ 0
sum_none f [] h = refl
sum_none f (x ∷ xs) h =
    let a = sum_by-cons f x xs in
    let b = sum_none f xs (λ j y e. h (suc j) y e) in
    let c = h 0 x refl in omega (arith, a, b, c)

one_in_sum : {A : Type 0} (f : A → ℕ) (xs : List A) (i : ℕ) (x : A) → slice_get xs i ≡ Some x → f x ≤ sum_by f xs
one_in_sum f [] i x e = absurd (cc e)
one_in_sum f (y ∷ ys) zero x e =
    let a = sum_by-cons f y ys in
    let b : f y ≡ f x = (let s : y ≡ x = cc e in ap f s) in omega (arith, a, b)
one_in_sum f (y ∷ ys) (suc i) x e =
    let a = sum_by-cons f y ys in
    let b = one_in_sum f ys i x e in omega (arith, a, b)

-- ---- transactions by session

-- how many of a list are of these sessions, the first of which has the number n
abbrev of_sessions : List Own → ℕ → List Session → ℕ
of_sessions xs n [] = 0
of_sessions xs n (s ∷ rest) = count_by (mine n) xs + of_sessions xs (n + 1) rest

-- of how many of these sessions one is
abbrev hits : Own → ℕ → List Session → ℕ
hits x n [] = 0
hits x n (s ∷ rest) = one_if (mine n x) + hits x (n + 1) rest

none_later : (x : Own) (n : ℕ) (rest : List Session) → x.place.session.0 < n → hits x n rest ≡ 0
none_later x n [] l = refl
none_later x n (s ∷ rest) l =
    let r = none_later x (n + 1) rest (omega (arith, l)) in
    by_test (x.place.session.0 == n) refl r
  where
    by_test : (b : Bool) → (x.place.session.0 == n) ≡ b → hits x (n + 1) rest ≡ 0 → one_if b + hits x (n + 1) rest ≡ 0
    by_test true q r = absurd (let e = eqb-true x.place.session.0 n q in omega (arith, e, l))
    by_test false q r = omega (arith, r)

one_at_most : (x : Own) (n : ℕ) (rest : List Session) → hits x n rest ≤ 1
one_at_most x n [] = omega arith
one_at_most x n (s ∷ rest) = by_test (x.place.session.0 == n) refl (one_at_most x (n + 1) rest)
  where
    by_test : (b : Bool) → (x.place.session.0 == n) ≡ b → hits x (n + 1) rest ≤ 1 → one_if b + hits x (n + 1) rest ≤ 1
    by_test true q r =
        let e = eqb-true x.place.session.0 n q in
        let z = none_later x (n + 1) rest (omega (arith, e)) in omega (arith, z)
    by_test false q r = omega (arith, r)

of_sessions-cons : (x : Own) (xs : List Own) (n : ℕ) (rest : List Session) → of_sessions (x ∷ xs) n rest ≡ hits x n rest + of_sessions xs n rest
of_sessions-cons x xs n [] = refl
of_sessions-cons x xs n (s ∷ rest) =
    let a = count-cons (mine n) x xs in
    let r = of_sessions-cons x xs (n + 1) rest in omega (arith, a, r)

of_sessions_few : (xs : List Own) (n : ℕ) (rest : List Session) → of_sessions xs n rest ≤ length xs
of_sessions_few [] n rest = none n rest
  where
    none : (n : ℕ) (rest : List Session) → of_sessions [] n rest ≤ 0
    none n [] = omega arith
    none n (s ∷ rest) = let r = none (n + 1) rest in omega (arith, r)
of_sessions_few (x ∷ xs) n rest =
    let a = of_sessions-cons x xs n rest in
    let b = one_at_most x n rest in
    let r = of_sessions_few xs n rest in omega (arith, a, b, r)

-- how many transactions of these sessions have begun
abbrev begun_from : List View → ℕ → List Session → ℕ
begun_from vs n [] = 0
begun_from vs n (s ∷ rest) = begun_in vs n + begun_from vs (n + 1) rest

begun_from-cons : (v : View) (vs : List View) (n : ℕ) (rest : List Session) → begun_from (v ∷ vs) n rest ≡ of_sessions v.own n rest + begun_from vs n rest
begun_from-cons v vs n [] = refl
begun_from-cons v vs n (s ∷ rest) =
    let a = sum_by-cons (λ (u : View). count_by (mine n) u.own) v vs in
    let r = begun_from-cons v vs (n + 1) rest in omega (arith, a, r)

begun_from_few : (vs : List View) (n : ℕ) (rest : List Session) → begun_from vs n rest ≤ sum_by (λ (v : View). length v.own) vs
begun_from_few [] n rest = none n rest
  where
    none : (n : ℕ) (rest : List Session) → begun_from [] n rest ≤ 0
    none n [] = omega arith
    none n (s ∷ rest) = let r = none (n + 1) rest in omega (arith, r)
begun_from_few (v ∷ vs) n rest =
    let a = begun_from-cons v vs n rest in
    let b = of_sessions_few v.own n rest in
    let c = sum_by-cons (λ (u : View). length u.own) v vs in
    let r = begun_from_few vs n rest in omega (arith, a, b, c, r)

-- where all of each session have begun, all have
all_begun : (vs : List View) (n : ℕ) (rest : List Session) → ((j : ℕ) (s : Session) → slice_get rest j ≡ Some s → length s.txs ≤ begun_in vs (n + j))
    → sum_by (λ (s : Session). length s.txs) rest ≤ begun_from vs n rest
all_begun vs n [] h = omega arith
all_begun vs n (s ∷ rest) h =
    let a = sum_by-cons (λ (t : Session). length t.txs) s rest in
    let b : length s.txs ≤ begun_in vs n = subst (λ (k : ℕ). length s.txs ≤ begun_in vs k) (omega arith) (h 0 s refl) in
    let r = all_begun vs (n + 1) rest (λ j t e. subst (λ (k : ℕ). length t.txs ≤ begun_in vs k) (omega arith) (h (suc j) t e)) in
    omega (arith, a, b, r)

-- a place of a session is at most the count of those of it
counted_least : (scene : Scene) (n : ℕ) (own : List Own) (s m i : ℕ) (x : Own) → InOrder scene n own → Counted own → slice_get own i ≡ Some x → x.place.session.0 ≡ s → x.place.index ≡ m → m ≤ count_by (mine s) own
counted_least scene n own s m i x ord counted o xs xi = by_last (last_index (mine s) own) refl
  where
    self : mine s x ≡ true
    self = eq-eqb x.place.session.0 s xs

    by_last : (l : Option ℕ) → last_index (mine s) own ≡ l → m ≤ count_by (mine s) own
    by_last None q = absurd (cc (self, last_index-none (mine s) own i x q o))
    by_last (Some j) q = by_order (order i j)
      where
        order : (i j : ℕ) → (i ≡ j) ⊎ ((j < i) ⊎ (i < j))
        order i j = grind arith

        by_order : (i ≡ j) ⊎ ((j < i) ⊎ (i < j)) → m ≤ count_by (mine s) own
        by_order (inl e) =
            let at : slice_get own j ≡ Some x = ap (λ k. slice_get own k) (sym e) ∙ o in
            let c = counted s j x q at in omega (arith, c, xi)
        by_order (inr (inl lt)) = absurd (cc (self, (last_index-some (mine s) own j q).none_after i x lt o))
        by_order (inr (inr lt)) =
            let y = last_there (mine s) own j q in
            let ys : y.0.place.session.0 ≡ s = eqb-true y.0.place.session.0 s ((last_index-some (mine s) own j q).passes y.0 y.1) in
            let e = ord.order i j x y.0 lt o y.1 (xs ∙ sym ys) in
            let c = counted s j y.0 q y.1 in omega (arith, c, xi, e.index)

-- ---- at rest

module _ (scene : Scene) (ok : IsScene scene) (es : List Event) (h : AtRest scene (run scene es)) where
  none_held : sum_by (λ (v : View). count_by (λ x. not (is_decided x.phase)) v.own) (run scene es).nodes ≡ 0
  none_held =
      sum_none (λ (v : View). count_by (λ x. not (is_decided x.phase)) v.own) (run scene es).nodes
      (λ n v g. Rattle.spsi_laws.proofs.Work.LeftSums.count_none (λ (x : Own). not (is_decided x.phase)) v.own
      (λ i x o. ap not (all_decided scene ok es (under_way scene ok es) h.0 h.1 n i v x g o)))

  -- all transactions of a session have begun
  session_begun : (j : ℕ) (text : Session) → slice_get scene.sessions j ≡ Some text → length text.txs ≤ begun_in (run scene es).nodes (1 + j)
  session_begun j text se = by_length (length text.txs) refl
    where
      session : nth scene.sessions (1 + j) ≡ Some text
      session = subst (λ (k : ℕ). nth scene.sessions k ≡ Some text) (let e : suc j ≡ 1 + j = omega arith in e) se

      answered : AllAnswered scene (run scene es)
      answered = rest_holds scene ok es h

      at : (m : ℕ) → TxPlace
      at m = record { session = record { 0 = 1 + j }; index = m }

      by_node : (m : ℕ) → length text.txs ≡ suc m → (n : ℕ) → text.node.0 ≡ n + 1 → suc m ≤ begun_in (run scene es).nodes (1 + j)
      by_node m e n nd =
          let exists = (ok.sessions j text se).node in
          let all = good_everywhere scene es in
          let there = slice_get_there (run scene es).nodes n (omega (arith, exists.1, nd, all.count)) in
          let v = there.0 in
          let good = all.nodes n v there.1 in
          let ans = answered (at (suc m)) text session (omega arith, omega (arith, e)) in
          let a = ans.1 in
          let ses : a.place.session.0 ≡ 1 + j = ap (λ (p : TxPlace). p.session.0) ans.3 in
          let idx : a.place.index ≡ suc m = ap (λ (p : TxPlace). p.index) ans.3 in
          let mem = filter_in (told_in (1 + j)) (run scene es).answers a (in_at (run scene es).answers ans.0 a ans.2) (eq-eqb a.place.session.0 (1 + j) ses) in
          let pos = at_in (filter (told_in (1 + j)) (run scene es).answers) a mem in
          let made = (good.told_ (1 + j) text session nd).made pos.0 a pos.1 in
          let x = made.0.x in
          let same : a.place ≡ x.place = ap (λ (z : Rattle.str_model.specs.declared.messages.Answer.Answer). z.place) made.0.same in
          let xs : x.place.session.0 ≡ 1 + j = ap (λ (p : TxPlace). p.session.0) (sym same) ∙ ses in
          let xi : x.place.index ≡ suc m = ap (λ (p : TxPlace). p.index) (sym same) ∙ idx in
          let count = counted_least scene n v.own (1 + j) (suc m) made.0.i x good.ordered ((sound_run scene es).fits n v there.1).counted made.0.owns xs xi in
          let sum = one_in_sum (λ (u : View). count_by (mine (1 + j)) u.own) (run scene es).nodes n v there.1 in
          omega (arith, count, sum)

      by_length : (k : ℕ) → length text.txs ≡ k → k ≤ begun_in (run scene es).nodes (1 + j)
      by_length zero e = omega arith
      by_length (suc m) e = by_number text.node.0 refl
        where
          by_number : (k : ℕ) → text.node.0 ≡ k → suc m ≤ begun_in (run scene es).nodes (1 + j)
          by_number zero q = absurd (let z = (ok.sessions j text se).node in omega (arith, z.0, q))
          by_number (suc n) q = by_node m e n (omega (arith, q))

  none_unbegun : sum_by (λ (s : Session). length s.txs) scene.sessions - sum_by (λ (v : View). length v.own) (run scene es).nodes ≡ 0
  none_unbegun =
      let a = all_begun (run scene es).nodes 1 scene.sessions session_begun in
      let b = begun_from_few (run scene es).nodes 1 scene.sessions in omega (arith, a, b)

pub rest_closed : RestClosed
rest_closed scene ok es h = record { held = none_held scene ok es h; unbegun = none_unbegun scene ok es h }

-- ---- a run with a drain

-- its rule names no event at the end
over : (scene : Scene) → IsScene scene → scene.drain ≡ true → next_event scene (run scene (cluster_events scene)) ≡ None
unfolding cluster_events
over scene ok d =
    let w = run scene scene.schedule in
    let events : drained scene w ≡ drain_events scene (left scene w) w = ap (λ (b : Bool). cond b (drain_events scene (left scene w) w) []) d in
    let whole : run scene (scene.schedule ++ drained scene w) ≡ run_from scene w (drain_events scene (left scene w) w) =
    run-append scene (opening scene) scene.schedule (drained scene w) ∙ ap (run_from scene w) events in
    ap (next_event scene) whole ∙ drain_stops scene ok scene.schedule

pub ends_at_rest : EndsAtRest
unfolding cluster_run
ends_at_rest scene ok d =
    let rest = (drain_rests scene ok (cluster_events scene)).rest (over scene ok d) in
    record { rest = rest; answered = rest_holds scene ok (cluster_events scene) rest; closed = rest_closed scene ok (cluster_events scene) rest }
