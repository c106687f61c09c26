-- Where the nodes of a race, their logs and their links stand.
use Rattle.commit_gate.proofs.Gating.{at_map}
use Rattle.std.proofs.Common.{◌≡◌, ◌≢◌, ◌≤◌, ◌<◌, ◌+◌, ◌-◌, ◌∙◌, ◌∷◌, ℕ, Bool, true, false, List, [], Some, ap, arith, cond, length, map, nat_lt, ltb-true, ltb-false, refl, slice_get, suc, sym, zero}
use Rattle.lamport_log.proofs.NodeLogs.EntryPlaces.{nth_get}
use Rattle.lamport_log.specs.Logs.{Log}
use Rattle.race_round.specs.Races.{IsPlaced, logs_of}
use Rattle.race_round.specs.Seats.{Seat}
use Rattle.ring_links.specs.Ends.{Other, place_of}
use Rattle.std.proofs.lemmas.Option.{slice_get_within}
use Rattle.str_base.proofs.Lists.{slice_get_there}
use Rattle.str_base.specs.declared.names.NodeId.{NodeId}
use Rattle.str_scene.specs.Scenes.{Scene, nth}

-- ---- lists

pub get_map : {A B : Type 0} (f : A → B) (xs : List A) (i : ℕ) (x : A) → slice_get xs i ≡ Some x → slice_get (map f xs) i ≡ Some (f x)
get_map f [] i x e = absurd cc
get_map f (y ∷ xs) zero x e = let p : y ≡ x = cc in ap (λ z. Some (f z)) p
get_map f (y ∷ xs) (suc i) x e = get_map f xs i x e

-- the element at the same place of a list that is as long
pub beside : {A B : Type 0} (xs : List A) (ys : List B) (i : ℕ) (x : A) → length ys ≡ length xs → slice_get xs i ≡ Some x → (y : B) × (slice_get ys i ≡ Some y)
beside xs ys i x len e = let w = slice_get_within xs i x e in slice_get_there ys i (omega (arith, w, len))

-- ---- nodes

pub record LogAt (ns : List Seat) (k : NodeId) (log : Log) : Type 0 where
  pub place : ℕ
  pub seat : Seat
  pub there : slice_get ns place ≡ Some seat
  pub log_ : seat.log ≡ log
  pub number : k.0 ≡ suc place

pub log_at : (ns : List Seat) (k : NodeId) (log : Log) → nth (logs_of ns) k.0 ≡ Some log → LogAt ns k log
log_at ns k log e =
    let p = nth_get (logs_of ns) k.0 log e in
    let q = at_map (λ (n : Seat). n.log) ns p.0 log p.1 in
    record { place = p.0; seat = q.0; there = q.1; log_ = q.2; number = p.2 }

pub at_log : (ns : List Seat) (i : ℕ) (n : Seat) → slice_get ns i ≡ Some n → nth (logs_of ns) (suc i) ≡ Some n.log
at_log ns i n e = get_map (λ (x : Seat). x.log) ns i n e

-- the node's id is the number after its place
pub id_at : (i : ℕ) (k : NodeId) → k.0 ≡ suc i → ◌≡◌ {A = NodeId} (record { 0 = suc i }) k
id_at i k e = λ j. record { 0 = sym e j }

-- ---- links

pub place_within : (node k nodes : ℕ) → k ≢ node → 1 ≤ k → k ≤ nodes → 1 ≤ node → node ≤ nodes → place_of node k + 1 < nodes + 0
place_within node k nodes apart low high low' high' = by_test (nat_lt k node) refl
  where
    by_test : (b : Bool) → nat_lt k node ≡ b → cond b (k - 1) (k - 2) + 1 < nodes + 0
    by_test true q = let h = ltb-true k node q in omega (arith, h, low, high')
    by_test false q = let h = ltb-false k node q in omega (arith, h, apart, low', high)

within_place : (node k nodes : ℕ) → k ≢ node → 1 ≤ k → 1 ≤ node → node ≤ nodes → place_of node k + 1 < nodes → k ≤ nodes
within_place node k nodes apart low low' high' less = by_test (nat_lt k node) refl less
  where
    by_test : (b : Bool) → nat_lt k node ≡ b → cond b (k - 1) (k - 2) + 1 < nodes → k ≤ nodes
    by_test true q l = let h = ltb-true k node q in omega (arith, h, high')
    by_test false q l = let h = ltb-false k node q in omega (arith, h, apart, low', l)

module _ (scene : Scene) (done i : ℕ) (n : Seat) (placed : IsPlaced scene done i n) (within : i < scene.nodes) where
  node_is : n.ends.node ≡ suc i
  node_is = placed.seat.ends_ ∙ ap (λ (x : NodeId). x.0) placed.id_

  wide : length n.ends.links + 1 ≡ scene.nodes
  wide = placed.seat.width ∙ ap (λ (s : Scene). s.nodes) placed.scene_

  -- the node at another place is another node
  pub other_place : (j : ℕ) → i ≢ j → j < scene.nodes → Other n.ends (suc j)
  other_place j apart less =
      let p = place_within (suc i) (suc j) scene.nodes (λ q. apart (omega (arith, q))) (omega arith) (omega (arith, less)) (omega arith) (omega (arith, within)) in
      let at : place_of n.ends.node (suc j) ≡ place_of (suc i) (suc j) = ap (λ (x : ℕ). place_of x (suc j)) node_is in (
        (λ q. apart (let e : suc j ≡ suc i = q ∙ node_is in omega (arith, e))),
        omega arith,
        omega (arith, p, at, wide),
      )

  -- another node stands at another place
  pub place_other : (k : ℕ) → Other n.ends k → (j : ℕ) × (k ≡ suc j) × (j < scene.nodes) × (i ≢ j)
  place_other zero o = absurd (let h = o.1 in omega (arith, h))
  place_other (suc j) o =
      let at : place_of n.ends.node (suc j) ≡ place_of (suc i) (suc j) = ap (λ (x : ℕ). place_of x (suc j)) node_is in
      let less = o.2 in
      let apart : suc j ≢ suc i = (λ q. o.0 (q ∙ sym node_is)) in
      let high = within_place (suc i) (suc j) scene.nodes apart (omega arith) (omega arith) (omega (arith, within)) (omega (arith, less, at, wide)) in
      (j, refl, omega (arith, high), (λ q. apart (sym (ap suc q))))
