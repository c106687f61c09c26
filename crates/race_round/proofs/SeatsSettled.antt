-- What a race knows of nodes that made a turn, and of nodes that were settled.
use Rattle.std.proofs.Common.{◌≡◌, ◌≢◌, ◌<◌, ◌+◌, ◌∙◌, ◌++◌, ℕ, Bool, true, List, Option, Some, All, ap, arith, inl, inr, length, refl, slice_get, slice_index_or, subst, suc, sym}
use Rattle.race_round.proofs.LinkMoves.{moves_same}
use Rattle.commit_gate.proofs.Gating.{at_map}
use Rattle.race_round.proofs.Places.{beside, get_map, other_place}
use Rattle.race_round.specs.Nodes.{ReadingsGiven, Went, seat_of, seats_of}
use Rattle.race_round.specs.Races.{AllSettled, IsRace, SameSeat, SettledPair, Turns}
use Rattle.race_round.specs.Seats.{IsSeat, Seat}
use Rattle.race_round.specs.Settling.{AreMet, EverySettled, LinksSettled, SameButEnds}
use Rattle.race_round.specs.Stretches.{entries_in}
use Rattle.race_round.specs.Turns.{Turn}
use Rattle.race_round.specs.declared.nodes.RaceNode.{RaceNode}
use Rattle.ring_links.proofs.Meeting.{linked_on}
use Rattle.ring_links.specs.Ends.{Meet, link_to}
use Rattle.ring_links.specs.Links.{AreLinked}
use Rattle.std.proofs.Math.Path.{path_j}
use Rattle.std.proofs.lemmas.Bool.{cases_lt}
use Rattle.std.proofs.lemmas.List.{get_or_default, length-map}
use Rattle.std.proofs.lemmas.Option.{get_or_from_slice_get, slice_get_within}
use Rattle.str_base.proofs.Lists.{slice_get_there}
use Rattle.str_base.specs.declared.names.NodeId.{NodeId}
use Rattle.str_scene.specs.Scenes.{Scene}

-- ---- turns

-- nodes that made turns still meet
meet_now : (scene : Scene) (done : ℕ) (ns ms : List Seat) → IsRace scene done ns → Turns ns ms → (i j : ℕ) (a b : Seat) → slice_get ms i ≡ Some a → slice_get ms j ≡ Some b → i ≢ j → Meet a.ends b.ends
meet_now scene done ns ms race turns i j a b ea eb apart d =
    let p = beside ms ns i a (sym turns.count) ea in
    let q = beside ms ns j b (sym turns.count) eb in
    let pp = race.placed i p.0 p.1 in
    let qp = race.placed j q.0 q.1 in
    let t = turns.turn i p.0 a p.1 ea in
    let u = turns.turn j q.0 b q.1 eb in
    let wi : i < scene.nodes = (let w = slice_get_within ns i p.0 p.1 in let c = race.count in omega (arith, w, c)) in
    let wj : j < scene.nodes = (let w = slice_get_within ns j q.0 q.1 in let c = race.count in omega (arith, w, c)) in
    let pn : p.0.ends.node ≡ suc i = pp.seat.ends_ ∙ ap (λ (x : NodeId). x.0) pp.id_ in
    let qn : q.0.ends.node ≡ suc j = qp.seat.ends_ ∙ ap (λ (x : NodeId). x.0) qp.id_ in
    let an : a.ends.node ≡ suc i = t.stretch.moved.node_ ∙ pn in
    let bn : b.ends.node ≡ suc j = u.stretch.moved.node_ ∙ qn in
    let was : AreLinked (link_to p.0.ends (suc j) d) (link_to q.0.ends (suc i) d) =
    subst (λ (x : ℕ). AreLinked (link_to p.0.ends (suc j) d) (link_to q.0.ends x d)) pn
    (subst (λ (x : ℕ). AreLinked (link_to p.0.ends x d) (link_to q.0.ends p.0.ends.node d)) qn ((race.pairs i j p.0 q.0 p.1 q.1 apart).meet d)) in
    let now : AreLinked (link_to a.ends (suc j) d) (link_to b.ends (suc i) d) =
    linked_on (link_to p.0.ends (suc j) d) (link_to q.0.ends (suc i) d) (link_to a.ends (suc j) d) (link_to b.ends (suc i) d) was
    (moves_same (t.moves (suc j)) (link_to p.0.ends (suc j) d) (link_to a.ends (suc j) d) (t.stretch.moved.links_ (suc j) d (other_place scene done i p.0 pp wi j apart wj)))
    (moves_same (u.moves (suc i)) (link_to q.0.ends (suc i) d) (link_to b.ends (suc i) d) (u.stretch.moved.links_ (suc i) d (other_place scene done j q.0 qp wj i (λ z. apart (sym z)) wi))) in
    subst (λ (x : ℕ). AreLinked (link_to a.ends x d) (link_to b.ends a.ends.node d)) (sym bn)
    (subst (λ (x : ℕ). AreLinked (link_to a.ends (suc j) d) (link_to b.ends x d)) (sym an) now)

-- a turn of the same nodes, whole where it was
turn_end : (n m m' : Seat) (q : m ≡ m') (t : Turn n m) → (u : Turn n m') × (u.whole ≡ t.whole)
turn_end n m m' q t = path_j (λ y e. (u : Turn n y) × (u.whole ≡ t.whole)) (t, refl) q

turn_at : (n n' m m' : Seat) (p : n ≡ n') (q : m ≡ m') (t : Turn n m) → (u : Turn n' m') × (u.whole ≡ t.whole)
turn_at n n' m m' p q t = path_j (λ y e. (u : Turn y m') × (u.whole ≡ t.whole)) (turn_end n m m' q t) p

-- ---- two nodes that were settled

pair_there : (ok : Bool) (x y : ℕ) (a b a' b' : Seat) → a.id.0 ≡ x → b.id.0 ≡ y → LinksSettled ok x y a.ends b.ends a'.ends b'.ends → SettledPair ok a b a' b'
pair_there ok x y a b a' b' ea eb h =
    let g : LinksSettled ok a.id.0 b.id.0 a.ends b.ends a'.ends b'.ends =
    subst (λ (k : ℕ). LinksSettled ok k b.id.0 a.ends b.ends a'.ends b'.ends) (sym ea) (subst (λ (k : ℕ). LinksSettled ok x k a.ends b.ends a'.ends b'.ends) (sym eb) h) in
    record { order = g.order_there; same = g.same_here; settled = g.settled_there }

pair_here : (ok : Bool) (x y : ℕ) (a b a' b' : Seat) → a.id.0 ≡ x → b.id.0 ≡ y → LinksSettled ok x y a.ends b.ends a'.ends b'.ends → SettledPair ok b a b' a'
pair_here ok x y a b a' b' ea eb h =
    let g : LinksSettled ok a.id.0 b.id.0 a.ends b.ends a'.ends b'.ends =
    subst (λ (k : ℕ). LinksSettled ok k b.id.0 a.ends b.ends a'.ends b'.ends) (sym ea) (subst (λ (k : ℕ). LinksSettled ok x k a.ends b.ends a'.ends b'.ends) (sym eb) h) in
    record { order = g.order_here; same = g.same_there; settled = g.settled_here }

-- ---- nodes

module _ {C G : Type 0} where
  -- the node at a place
  pub node_there : (ns : List (RaceNode C G)) (i : ℕ) (d : RaceNode C G) → i < length ns → slice_get ns i ≡ Some (slice_index_or ns i d)
  node_there ns i d h = let w = slice_get_there ns i h in w.1 ∙ ap (λ (x : RaceNode C G). Some x) (sym (get_or_from_slice_get ns i w.0 d w.1))

  -- what a race knows of it
  pub seat_there : (ns : List (RaceNode C G)) (i : ℕ) (d : RaceNode C G) → i < length ns → slice_get (seats_of ns) i ≡ Some (seat_of (slice_index_or ns i d))
  seat_there ns i d h = get_map (λ (n : RaceNode C G). seat_of n) ns i (slice_index_or ns i d) (node_there ns i d h)

  record NodeAt (ns : List (RaceNode C G)) (i : ℕ) (a : Seat) : Type 0 where
    some : RaceNode C G
    within : i < length ns
    is : (d : RaceNode C G) → seat_of (slice_index_or ns i d) ≡ a

  node_at : (ns : List (RaceNode C G)) (i : ℕ) (a : Seat) → slice_get (seats_of ns) i ≡ Some a → NodeAt ns i a
  node_at ns i a e =
      let p = at_map (λ (n : RaceNode C G). seat_of n) ns i a e in
      record {
        some = p.0;
        within = slice_get_within ns i p.0 p.1;
        is = λ d. ap (λ (n : RaceNode C G). seat_of n) (get_or_from_slice_get ns i p.0 d p.1) ∙ p.2;
      }

  -- ---- turns

  module _ (given : C → Option (List ℕ)) (ns ms : List (RaceNode C G)) (len : length ms ≡ length ns) (went : (i : ℕ) (d : RaceNode C G) → i < length ns → Went given (slice_index_or ns i d) (slice_index_or ms i d)) where
    -- the turn of the node at a place
    went_at : (i : ℕ) (n m : Seat) → slice_get (seats_of ns) i ≡ Some n → slice_get (seats_of ms) i ≡ Some m
        → (d : RaceNode C G) × (u : Turn n m) × (i < length ns) × (u.whole ≡ true → (w : Went given (slice_index_or ns i d) (slice_index_or ms i d)) × (w.turn.whole ≡ true))
    went_at i n m en em =
        let a = node_at ns i n en in
        let b = node_at ms i m em in
        let w = went i a.some a.within in
        let u = turn_at (seat_of (slice_index_or ns i a.some)) n (seat_of (slice_index_or ms i a.some)) m (a.is a.some) (b.is a.some) w.turn in
        (a.some, u.0, a.within, λ e. (w, sym u.1 ∙ e))

    pub turns_are : Turns (seats_of ns) (seats_of ms)
    turns_are = record {
      count = length-map ms (λ (n : RaceNode C G). seat_of n) ∙ (len ∙ sym (length-map ns (λ (n : RaceNode C G). seat_of n)));
      turn = λ i n m en em. (went_at i n m en em).1;
    }

    -- what the clock gave in a whole turn
    pub turns_told : (i : ℕ) (n m : Seat) → (en : slice_get (seats_of ns) i ≡ Some n) → (em : slice_get (seats_of ms) i ≡ Some m) → (turns_are.turn i n m en em).whole ≡ true
        → (d : RaceNode C G) → ReadingsGiven given (slice_index_or ns i d) (slice_index_or ms i d)
    unfolding turns_are
    turns_told i n m en em e d =
        let w = went_at i n m en em in
        let g = w.3 e in
        let dn : slice_index_or ns i w.0 ≡ slice_index_or ns i d = get_or_default ns i w.0 d w.2 in
        let dm : slice_index_or ms i w.0 ≡ slice_index_or ms i d = get_or_default ms i w.0 d (let l = w.2 in omega (arith, l, len)) in
        subst (λ (x : RaceNode C G). ReadingsGiven given x (slice_index_or ms i d)) dn
        (subst (λ (x : RaceNode C G). ReadingsGiven given (slice_index_or ns i w.0) x) dm
        (record { joined = entries_in (g.0.turn.taken ++ g.0.turn.moved); grown = g.0.turn.stretch.entries; gave = g.0.readings g.1 }))

  -- all nodes of a race are seats
  pub all_seats : (scene : Scene) (done : ℕ) (ns : List (RaceNode C G)) → IsRace scene done (seats_of ns) → All (λ n. IsSeat (seat_of n)) ns
  all_seats scene done ns race k d h = (race.placed k (seat_of (slice_index_or ns k d)) (seat_there ns k d h)).seat

  -- nodes of a race that made turns can be settled
  pub turned_meet : (scene : Scene) (done : ℕ) (ns ms : List (RaceNode C G)) → IsRace scene done (seats_of ns) → Turns (seats_of ns) (seats_of ms) → AreMet ms
  turned_meet scene done ns ms race turns =
      let wide : length ms ≡ scene.nodes =
      (let a = length-map ms (λ (n : RaceNode C G). seat_of n) in let b = turns.count in let c = race.count in omega (arith, a, b, c)) in
      record {
        numbered = λ i d h.
            let em = seat_there ms i d h in
            let n = beside (seats_of ms) (seats_of ns) i (seat_of (slice_index_or ms i d)) (sym turns.count) em in
            let p = race.placed i n.0 n.1 in
            let t = turns.turn i n.0 (seat_of (slice_index_or ms i d)) n.1 em in
            let e : (slice_index_or ms i d).ends.node ≡ suc i = t.stretch.moved.node_ ∙ (p.seat.ends_ ∙ ap (λ (x : NodeId). x.0) p.id_) in
            omega (arith, e);
        width = λ i d h.
            let em = seat_there ms i d h in
            let n = beside (seats_of ms) (seats_of ns) i (seat_of (slice_index_or ms i d)) (sym turns.count) em in
            let p = race.placed i n.0 n.1 in
            let t = turns.turn i n.0 (seat_of (slice_index_or ms i d)) n.1 em in
            t.stretch.seat.width ∙ (ap (λ (x : Scene). x.nodes) (t.stretch.scene_ ∙ p.scene_) ∙ sym wide);
        meet = λ i j d lt within.
            meet_now scene done (seats_of ns) (seats_of ms) race turns i j (seat_of (slice_index_or ms i d)) (seat_of (slice_index_or ms j d)) (seat_there ms i d (omega (arith, lt, within))) (seat_there ms j d within)
            (λ q. absurd (omega (arith, q, lt)));
      }

  -- ---- settling

  same_seat : (x y : RaceNode C G) → SameButEnds x y → SameSeat (seat_of x) (seat_of y)
  same_seat x y h =
      record {
        scene_ = ap (λ (n : RaceNode C G). n.node.scene) h.same;
        id_ = ap (λ (n : RaceNode C G). n.node.id) h.same;
        view_ = ap (λ (n : RaceNode C G). n.node.view) h.same;
        log_ = ap (λ (n : RaceNode C G). n.log) h.same;
        stamp_ = ap (λ (n : RaceNode C G). n.stamp) h.same;
        wanting_ = ap (λ (n : RaceNode C G). n.wanting) h.same;
        node_ = h.node_;
        width = h.width;
      }

  pub all_settled : (ok : Bool) (ns ms : List (RaceNode C G)) → ((i : ℕ) (d : RaceNode C G) → i < length ns → (slice_index_or ns i d).node.id ≡ record { 0 = suc i }) → EverySettled ok ns ms
      → AllSettled ok (seats_of ns) (seats_of ms)
  all_settled ok ns ms ids h =
      record {
        count = length-map ms (λ (n : RaceNode C G). seat_of n) ∙ (h.count ∙ sym (length-map ns (λ (n : RaceNode C G). seat_of n)));
        same = λ i n m en em.
            let a = node_at ns i n en in
            let b = node_at ms i m em in
            subst (λ (x : Seat). SameSeat x m) (a.is a.some)
            (subst (λ (x : Seat). SameSeat (seat_of (slice_index_or ns i a.some)) x) (b.is a.some)
            (same_seat (slice_index_or ns i a.some) (slice_index_or ms i a.some) (h.each i a.some a.within)));
        pairs = λ i j a b a' b' ea eb ea' eb' apart.
            let p = node_at ns i a ea in
            let q = node_at ns j b eb in
            let p' = node_at ms i a' ea' in
            let q' = node_at ms j b' eb' in
            let d = p.some in
            let x = seat_of (slice_index_or ns i d) in
            let y = seat_of (slice_index_or ns j d) in
            let x' = seat_of (slice_index_or ms i d) in
            let y' = seat_of (slice_index_or ms j d) in
            let xi : x.id.0 ≡ i + 1 = (let e = ap (λ (k : NodeId). k.0) (ids i d p.within) in omega (arith, e)) in
            let yj : y.id.0 ≡ j + 1 = (let e = ap (λ (k : NodeId). k.0) (ids j d q.within) in omega (arith, e)) in
            let at : SettledPair ok x y x' y' =
            elim (cases_lt i j) [
              | inl lt ↦ pair_there ok (i + 1) (j + 1) x y x' y' xi yj (h.done i j d lt q.within q.within)
              | inr le ↦ (let lt : j < i = omega (arith, le, apart) in pair_here ok (j + 1) (i + 1) y x y' x' yj xi (h.done j i d lt p.within p.within))
            ] in
            subst (λ (z : Seat). SettledPair ok z b a' b') (p.is d)
            (subst (λ (z : Seat). SettledPair ok x z a' b') (q.is d)
            (subst (λ (z : Seat). SettledPair ok x y z b') (p'.is d)
            (subst (λ (z : Seat). SettledPair ok x y x' z) (q'.is d) at)));
      }
