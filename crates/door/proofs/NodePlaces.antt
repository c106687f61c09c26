-- The places of a node rise, and are those of its sessions' transactions.
use Rattle.door.specs.Places.{ComesBefore, IsPlaceOf, PlacesRise, numbered_place, own_places, places_at, places_from, places_in}
use Rattle.std.proofs.Common.{Bool, List, None, Option, Some, [], ap, append-nil, append_assoc, arith, cond, false, if◌then◌else◌, inl, inr, length, map, refl, slice_get, slice_index_or, subst, suc, sym, take, true, zero, ℕ, ◌++◌, ◌+◌, ◌==◌, ◌<◌, ◌∙◌, ◌∷◌, ◌≡◌, ◌≤◌, ◌⊎◌}
use Rattle.std.proofs.lemmas.List.{length-take-le, take_more}
use Rattle.std.specs.List.{range_with_len}
use Rattle.str_base.proofs.Members.{in_append, in_left, in_map, in_right, map_in}
use Rattle.str_model.proofs.ListFacts.{in_range, range_in, range_more}
use Rattle.str_base.proofs.SameNames.{is-same_node, same_node-is}
use Rattle.str_base.specs.Members.{In}
use Rattle.str_base.specs.Versions.{same_node}
use Rattle.str_base.specs.declared.names.NodeId.{NodeId}
use Rattle.str_base.specs.declared.names.SessionId.{SessionId}
use Rattle.str_scene.specs.SceneLimits.{Exists}
use Rattle.str_scene.specs.Scenes.{Scene, Session, nth}
use Rattle.str_scene.specs.declared.names.TxPlace.{TxPlace}
use native.Mathlib.Decide.{ℕ_discrete}

-- ---- a session

in_if : (b : Bool) (xs : List TxPlace) (p : TxPlace) → In p (if b then xs else []) → (b ≡ true) × In p xs
in_if true xs p h = (refl, h)
in_if false xs p h = absurd h

if_in : (b : Bool) (xs : List TxPlace) (p : TxPlace) → b ≡ true → In p xs → In p (if b then xs else [])
if_in true xs p q h = h
if_in false xs p q h = absurd (cc q)

in_places : (node : NodeId) (session : ℕ) (text : Session) (p : TxPlace) → In p (places_at node session text)
    → (text.node ≡ node) × (p.session.0 ≡ session) × Exists p.index (length text.txs)
in_places node session text p h =
    let b = in_if (same_node text.node node) (places_in session (length text.txs)) p h in
    let m = in_map (numbered_place session) (range_with_len 1 (length text.txs)) p b.1 in
    let r = in_range 1 (length text.txs) m.0 m.1 in
    let s : session ≡ p.session.0 = ap (λ (x : TxPlace). x.session.0) m.2 in
    let i : m.0 ≡ p.index = ap (λ (x : TxPlace). x.index) m.2 in
    (same_node-is text.node node b.0, sym s, (omega (arith, r, i), omega (arith, r, i)))

places_has : (node : NodeId) (session : ℕ) (text : Session) (i : ℕ) → text.node ≡ node → Exists i (length text.txs) → In (numbered_place session i) (places_at node session text)
places_has node session text i q e =
    if_in (same_node text.node node) (places_in session (length text.txs)) (numbered_place session i) (is-same_node text.node node q)
    (map_in (numbered_place session) (range_with_len 1 (length text.txs)) i (range_in 1 (length text.txs) i e.0 (let l = e.1 in omega (arith, l))))

-- ---- all sessions

-- a place of these sessions, of which the first has the number k
record Among (node : NodeId) (k : ℕ) (ss : List Session) (p : TxPlace) : Type 0 where
  pub at : ℕ
  pub text : Session
  pub there : slice_get ss at ≡ Some text
  pub session : p.session.0 ≡ k + at
  pub node_ : text.node ≡ node
  pub index : Exists p.index (length text.txs)

among : (node : NodeId) (k : ℕ) (ss : List Session) (p : TxPlace) → In p (places_from node k ss) → Among node k ss p
among node k [] p h = absurd h
among node k (t ∷ ss) p h = by_side (in_append (places_at node k t) (places_from node (k + 1) ss) p h) (λ later. among node (k + 1) ss p later)
  where
    by_side : In p (places_at node k t) ⊎ In p (places_from node (k + 1) ss) → (In p (places_from node (k + 1) ss) → Among node (k + 1) ss p) → Among node k (t ∷ ss) p
    by_side (inl here) f =
        let i = in_places node k t p here in
        record { at = 0; text = t; there = refl; session = (let s = i.1 in omega (arith, s)); node_ = i.0; index = i.2 }
    by_side (inr later) f =
        let a = f later in
        record { at = suc a.at; text = a.text; there = a.there; session = (let s = a.session in omega (arith, s)); node_ = a.node_; index = a.index }

has_place_at : (node : NodeId) (k : ℕ) (ss : List Session) (at : ℕ) (text : Session) (i : ℕ) → slice_get ss at ≡ Some text → text.node ≡ node → Exists i (length text.txs)
    → In (numbered_place (k + at) i) (places_from node k ss)
has_place_at node k [] at text i q n e = absurd (cc q)
has_place_at node k (t ∷ ss) zero text i q n e =
    let same : t ≡ text = cc q in
    let here = places_has node k t i (ap (λ (x : Session). x.node) same ∙ n) (subst (λ (x : Session). Exists i (length x.txs)) (sym same) e) in
    in_left (places_at node k t) (places_from node (k + 1) ss) (numbered_place (k + 0) i) (subst (λ (s : ℕ). In (numbered_place s i) (places_at node k t)) (omega arith) here)
has_place_at node k (t ∷ ss) (suc at) text i q n e =
    in_right (places_at node k t) (places_from node (k + 1) ss) (numbered_place (k + suc at) i)
    (subst (λ (s : ℕ). In (numbered_place s i) (places_from node (k + 1) ss)) (omega arith) (has_place_at node (k + 1) ss at text i q n e))

-- each of the places is one of the node's
pub places_are_own : (scene : Scene) (node : NodeId) (p : TxPlace) → In p (own_places scene node) → IsPlaceOf scene node p
places_are_own scene node p h =
    let a = among node 1 scene.sessions p h in
    let number : p.session.0 ≡ suc a.at = (let s = a.session in omega (arith, s)) in
    record {
      text = a.text;
      there = ap (λ (s : ℕ). nth scene.sessions s) number ∙ a.there;
      node_ = a.node_;
      index = a.index;
    }

own_at : (scene : Scene) (node : NodeId) (s i : ℕ) (text : Session) → nth scene.sessions s ≡ Some text → text.node ≡ node → Exists i (length text.txs) → In (numbered_place s i) (own_places scene node)
own_at scene node zero i text q n e = absurd (cc q)
own_at scene node (suc s) i text q n e =
    subst (λ (k : ℕ). In (numbered_place k i) (own_places scene node)) (omega arith) (has_place_at node 1 scene.sessions s text i q n e)

-- and each of the node's is there
pub own_is_there : (scene : Scene) (node : NodeId) (p : TxPlace) → IsPlaceOf scene node p → In p (own_places scene node)
own_is_there scene node p o = own_at scene node p.session.0 p.index o.text o.there o.node_ o.index

-- ---- they rise

rise_append : (xs ys : List TxPlace) → PlacesRise xs → PlacesRise ys → ((p q : TxPlace) → In p xs → In q ys → ComesBefore p q) → PlacesRise (xs ++ ys)
rise_append [] ys r s f = s
rise_append (x ∷ xs) ys r s f =
    ((λ q h. by_side q (in_append xs ys q h)), rise_append xs ys r.1 s (λ p q hp hq. f p q (inr hp) hq))
  where
    by_side : (q : TxPlace) → In q xs ⊎ In q ys → ComesBefore x q
    by_side q (inl h) = r.0 q h
    by_side q (inr h) = f x q (inl refl) h

rise_range : (session a n : ℕ) → PlacesRise (map (numbered_place session) (range_with_len a n))
rise_range session a zero = tt
rise_range session a (suc n) = ((λ q h. later q (in_map (numbered_place session) (range_with_len (a + 1) n) q h)), rise_range session (a + 1) n)
  where
    later : (q : TxPlace) → (i : ℕ) × (In i (range_with_len (a + 1) n)) × (numbered_place session i ≡ q) → ComesBefore (numbered_place session a) q
    later q m =
        let r = in_range (a + 1) n m.0 m.1 in
        let i : m.0 ≡ q.index = ap (λ (x : TxPlace). x.index) m.2 in
        inr (ap (λ (x : TxPlace). x.session.0) m.2, omega (arith, r, i))

rise_if : (b : Bool) (xs : List TxPlace) → PlacesRise xs → PlacesRise (if b then xs else [])
rise_if true xs r = r
rise_if false xs r = tt

rise_from : (node : NodeId) (k : ℕ) (ss : List Session) → PlacesRise (places_from node k ss)
rise_from node k [] = tt
rise_from node k (t ∷ ss) =
    rise_append (places_at node k t) (places_from node (k + 1) ss) (rise_if (same_node t.node node) (places_in k (length t.txs)) (rise_range k 1 (length t.txs))) (rise_from node (k + 1) ss)
    (λ p q hp hq.
    let s = (in_places node k t p hp).1 in
    let l = (among node (k + 1) ss q hq).session in
    inl (omega (arith, s, l)))

pub own_rise : (scene : Scene) (node : NodeId) → PlacesRise (own_places scene node)
own_rise scene node = rise_from node 1 scene.sessions

-- ---- one more

map_snoc : (f : ℕ → TxPlace) (xs : List ℕ) (x : ℕ) → map f (xs ++ x ∷ []) ≡ map f xs ++ f x ∷ []
map_snoc f [] x = refl
map_snoc f (y ∷ xs) x = ap (λ (l : List TxPlace). f y ∷ l) (map_snoc f xs x)

-- one more place of a session
pub places_more : (session n : ℕ) → places_in session (n + 1) ≡ places_in session n ++ numbered_place session (n + 1) ∷ []
places_more session n =
    let same : 1 + n ≡ n + 1 = omega arith in
    ap (map (numbered_place session)) (range_more 1 n) ∙ (map_snoc (numbered_place session) (range_with_len 1 n) (1 + n) ∙ ap (λ (k : ℕ). places_in session n ++ numbered_place session k ∷ []) same)

-- the places of one more session
pub places_from_more : (node : NodeId) (k : ℕ) (ts : List Session) (t : Session) → places_from node k (ts ++ t ∷ []) ≡ places_from node k ts ++ places_at node (k + length ts) t
places_from_more node k [] t =
    let here : k ≡ k + 0 = omega arith in
    append-nil (places_at node k t) ∙ ap (λ (n : ℕ). places_at node n t) here
places_from_more node k (s ∷ ts) t =
    let here : (k + 1) + length ts ≡ k + suc (length ts) = omega arith in
    ap (λ (l : List TxPlace). places_at node k s ++ l) (places_from_more node (k + 1) ts t ∙ ap (λ (n : ℕ). places_from node (k + 1) ts ++ places_at node n t) here)
    ∙ sym (append_assoc (places_at node k s) (places_from node (k + 1) ts) (places_at node (k + suc (length ts)) t))

-- behind the first places of a session, pushed
pub place_pushed : (old now new : List TxPlace) (session : SessionId) (n : ℕ) → now ≡ old ++ places_in session.0 n → new ≡ now ++ record { session = session; index = n + 1 } ∷ []
    → new ≡ old ++ places_in session.0 (n + 1)
place_pushed old now new session n q p =
    p ∙ ap (λ (l : List TxPlace). l ++ numbered_place session.0 (n + 1) ∷ []) q
    ∙ append_assoc old (places_in session.0 n) (numbered_place session.0 (n + 1) ∷ [])
    ∙ ap (λ (l : List TxPlace). old ++ l) (sym (places_more session.0 n))

-- the places of a session behind those of the sessions before it
pub session_pushed : (node : NodeId) (ss : List Session) (i s : ℕ) (t : Session) (now new : List TxPlace) → i < length ss → t ≡ slice_index_or ss i t → s ≡ i + 1 → now ≡ places_from node 1 (take i ss)
    → new ≡ now ++ places_at node s t → new ≡ places_from node 1 (take (i + 1) ss)
session_pushed node ss i s t now new lt is number q p =
    let count = length-take-le i ss (omega arith) in
    let here : s ≡ 1 + length (take i ss) = omega (arith, number, count) in
    let more : take (i + 1) ss ≡ take i ss ++ t ∷ [] = take_more ss i t lt ∙ ap (λ (x : Session). take i ss ++ x ∷ []) (sym is) in
    p ∙ ap (λ (l : List TxPlace). l ++ places_at node s t) q
    ∙ ap (λ (k : ℕ). places_from node 1 (take i ss) ++ places_at node k t) here
    ∙ sym (places_from_more node 1 (take i ss) t)
    ∙ ap (places_from node 1) (sym more)
