-- At most 1024 transactions begin: their places differ, and are places of the scene.
use Rattle.si_laws.proofs.Times.NoRepeats.{Once, fits, map_length, once_append}
use Rattle.str_model.proofs.ListFacts.{range_in}
use Rattle.si_laws.proofs.Stages.ParticipantSeats.{of_nth}
use Rattle.si_laws.proofs.Sessions.SessionHolds.{good_everywhere}
use Rattle.str_model.proofs.OwnFacts.PlacesInOrder.{InOrder, PlacedIn}
use Rattle.std.proofs.Common.{List, Some, [], ap, arith, inl, inr, length, length-append, map, refl, slice_get, subst, suc, sym, zero, ℕ, ◌++◌, ◌+◌, ◌∙◌, ◌∷◌, ◌≡◌, ◌≤◌}
use Rattle.std.proofs.lemmas.List.Sums.{sum_by-cons}
use Rattle.std.specs.List.{range_with_len, sum_by}
use Rattle.str_model.specs.Runs.{run}
use Rattle.str_model.specs.Views.{Own, View}
use Rattle.str_scene.specs.declared.names.Event.{Event}
use Rattle.str_scene.specs.declared.names.TxPlace.{TxPlace}
use Rattle.str_scene.specs.SceneLimits.{IsScene}
use Rattle.str_scene.specs.Scenes.{Scene, Session, nth}
use Rattle.std.proofs.lemmas.List.FromFn.{length-range_with_len}
use Rattle.str_base.proofs.Members.{at_in, in_append, in_left, in_map, in_right, map_in}
use Rattle.str_base.specs.Members.{In}

-- how many transactions began
abbrev pub own_total : List View → ℕ
own_total [] = 0
own_total (v ∷ vs) = length v.own + own_total vs

-- a place as two numbers
abbrev pub place_key : Own → ℕ × ℕ
place_key x = (x.place.session.0, x.place.index)

-- the places of the transactions of these nodes
abbrev pub places_of : List View → List (ℕ × ℕ)
places_of [] = []
places_of (v ∷ vs) = map place_key v.own ++ places_of vs

pub places_length : (vs : List View) → length (places_of vs) ≡ own_total vs
places_length [] = refl
places_length (v ∷ vs) =
    let rec = places_length vs in
    let a = length-append (map place_key v.own) (places_of vs) in
    let m : length (map place_key v.own) ≡ length v.own = map_length place_key v.own in omega (arith, rec, a, m)

-- ---- the places of a scene

abbrev session_places : ℕ → ℕ → List (ℕ × ℕ)
session_places n k = map (λ j. (n, j)) (range_with_len 1 k)

-- all places, where the first session has the number n
abbrev scene_places : ℕ → List Session → List (ℕ × ℕ)
scene_places n [] = []
scene_places n (s ∷ ss) = session_places n (length s.txs) ++ scene_places (suc n) ss

scene_length : (n : ℕ) (ss : List Session) → length (scene_places n ss) ≡ sum_by (λ (s : Session). length s.txs) ss
scene_length n [] = refl
scene_length n (s ∷ ss) =
    let rec = scene_length (suc n) ss in
    let a = length-append (session_places n (length s.txs)) (scene_places (suc n) ss) in
    let m : length (session_places n (length s.txs)) ≡ length (range_with_len 1 (length s.txs)) = map_length (λ j. (n, j)) (range_with_len 1 (length s.txs)) in
    let r = length-range_with_len 1 (length s.txs) in
    let c = sum_by-cons (λ (s : Session). length s.txs) s ss in omega (arith, rec, a, m, r, c)

in_scene : (n i : ℕ) (ss : List Session) (s : Session) (j : ℕ) → slice_get ss i ≡ Some s → 1 ≤ j → j ≤ length s.txs → In (n + i, j) (scene_places n ss)
in_scene n i [] s j e a b = absurd (cc e)
in_scene n zero (t ∷ ss) s j e a b =
    let is : t ≡ s = cc e in
    let same : n ≡ n + 0 = omega arith in
    in_left (session_places n (length t.txs)) (scene_places (suc n) ss) (n + 0, j)
    (subst (λ (m : ℕ). In (m, j) (session_places n (length t.txs))) same
    (map_in (λ j. (n, j)) (range_with_len 1 (length t.txs)) j (range_in 1 (length t.txs) j a (omega (arith, b, ap (λ (z : Session). length z.txs) is)))))
in_scene n (suc i) (t ∷ ss) s j e a b =
    let same : suc n + i ≡ n + suc i = omega arith in
    in_right (session_places n (length t.txs)) (scene_places (suc n) ss) (n + suc i, j)
    (subst (λ (m : ℕ). In (m, j) (scene_places (suc n) ss)) same (in_scene (suc n) i ss s j e a b))

-- ---- the places of a run

in_places : (vs : List View) (z : ℕ × ℕ) → In z (places_of vs) → (k : ℕ) × (v : View) × (x : Own) × (slice_get vs k ≡ Some v) × In x v.own × (place_key x ≡ z)
in_places [] z h = absurd h
in_places (v ∷ vs) z h = elim (in_append (map place_key v.own) (places_of vs) z h) [
  | inl k ↦ (let r = in_map place_key v.own z k in (0, v, r.0, refl, r.1, r.2))
  | inr k ↦ (let r = in_places vs z k in (suc r.0, r.1, r.2, r.3, r.4, r.5))
]

-- an own transaction's place is one of them
pub place_in : (vs : List View) (n : ℕ) (v : View) (x : Own) → slice_get vs n ≡ Some v → In x v.own → In (place_key x) (places_of vs)
place_in [] n v x e h = absurd (cc e)
place_in (u ∷ us) zero v x e h =
    let same : v ≡ u = (let q : u ≡ v = cc e in sym q) in
    in_left (map place_key u.own) (places_of us) (place_key x) (map_in place_key u.own x (subst (λ (z : View). In x z.own) same h))
place_in (u ∷ us) (suc n) v x e h = in_right (map place_key u.own) (places_of us) (place_key x) (place_in us n v x e h)

module _ (scene : Scene) where
  -- one session is of one node
  one_node : (m n : ℕ) (p q : TxPlace) → PlacedIn scene m p → PlacedIn scene n q → p.session.0 ≡ q.session.0 → m ≡ n
  one_node m n p q a b e =
      let both : Some a.text ≡ Some b.text = sym a.session ∙ (ap (λ (k : ℕ). nth scene.sessions k) e ∙ b.session) in
      let same : a.text ≡ b.text = cc both in omega (arith, a.node, b.node, ap (λ (s : Session). s.node.0) same)

  own_once : (n : ℕ) (own : List Own) → InOrder scene n own → Once (map place_key own)
  own_once n [] h = tt
  own_once n (x ∷ own) h = (
    not_later,
    own_once n own (record { placed = λ i y g. h.placed (suc i) y g; order = λ i j y z less g k s. h.order (suc i) (suc j) y z (omega (arith, less)) g k s }),
  )
    where
      not_later : In (place_key x) (map place_key own) → ⊥
      not_later k =
          let r = in_map place_key own (place_key x) k in
          let a = at_in own r.0 r.1 in
          let o = h.order 0 (suc a.0) x r.0 (omega arith) refl a.1 (ap (λ (z : ℕ × ℕ). z.0) (sym r.2)) in
          absurd (omega (arith, o.index, ap (λ (z : ℕ × ℕ). z.1) r.2))

  all_once : (n : ℕ) (vs : List View) → ((k : ℕ) (v : View) → slice_get vs k ≡ Some v → InOrder scene (n + k) v.own) → Once (places_of vs)
  all_once n [] h = tt
  all_once n (v ∷ vs) h =
      once_append (map place_key v.own) (places_of vs) (own_once (n + 0) v.own (h 0 v refl))
      (all_once (suc n) vs (λ k u g. (let same : n + suc k ≡ suc n + k = omega arith in subst (λ (m : ℕ). InOrder scene m u.own) same (h (suc k) u g)))) apart
    where
      apart : (z : ℕ × ℕ) → In z (map place_key v.own) → In z (places_of vs) → ⊥
      apart z a b =
          let r = in_map place_key v.own z a in
          let i = at_in v.own r.0 r.1 in
          let s = in_places vs z b in
          let j = at_in s.1.own s.2 s.4 in
          let e = one_node (n + 0) (n + suc s.0) r.0.place s.2.place ((h 0 v refl).placed i.0 r.0 i.1) ((h (suc s.0) s.1 s.3).placed j.0 s.2 j.1) (ap (λ (y : ℕ × ℕ). y.0) (r.2 ∙ sym s.5)) in
          absurd (omega (arith, e))

  placed_there : (n : ℕ) (x : Own) → PlacedIn scene n x.place → In (place_key x) (scene_places 1 scene.sessions)
  placed_there n x p =
      let f = of_nth scene.sessions x.place.session.0 p.text p.session in
      let same : 1 + f.0 ≡ x.place.session.0 = omega (arith, f.1) in
      subst (λ (m : ℕ). In (m, x.place.index) (scene_places 1 scene.sessions)) same (in_scene 1 f.0 scene.sessions p.text x.place.index f.2 p.index.0 p.index.1)

-- at most 1024 transactions begin
pub few_begin : (scene : Scene) → IsScene scene → (es : List Event) → own_total (run scene es).nodes ≤ 1024
few_begin scene ok es =
    let vs : List View = (run scene es).nodes in
    let order : (k : ℕ) (v : View) → slice_get vs k ≡ Some v → InOrder scene k v.own = λ k v g. ((good_everywhere scene es).nodes k v g).ordered in
    let once : Once (places_of vs) = all_once scene 0 vs (λ k v g. subst (λ (m : ℕ). InOrder scene m v.own) (omega arith) (order k v g)) in
    let fit = fits (places_of vs) (scene_places 1 scene.sessions) once (λ z h. (let s = in_places vs z h in
    let j = at_in s.1.own s.2 s.4 in
    subst (λ (y : ℕ × ℕ). In y (scene_places 1 scene.sessions)) s.5 (placed_there scene s.0 s.2 ((order s.0 s.1 s.3).placed j.0 s.2 j.1)))) in
    let a = places_length vs in
    let b = scene_length 1 scene.sessions in
    let c = ok.few_transactions in omega (arith, fit, a, b, c)
