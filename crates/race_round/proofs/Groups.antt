-- What a node took in a turn, in groups: by each other node upwards.
use Rattle.std.proofs.Common.{◌≡◌, ◌≢◌, ◌≤◌, ◌<◌, ◌+◌, ◌++◌, ◌∙◌, ◌∷◌, ℕ, Bool, true, false, List, [], add-one, ap, append-nil, arith, flat_map, if◌then◌else◌, inl, inr, leb-false, leb-true, length, map, nat_le, refl, subst, suc, sym, zero}
use Rattle.str_model.proofs.ListFacts.{range_more, in_range}
use Rattle.lamport_log.specs.Logs.{Item}
use Rattle.lamport_log.specs.Rounds.{from_node, is_from}
use Rattle.lamport_log.specs.declared.logs.LogInput.{LogInput}
use Rattle.lamport_log.specs.declared.logs.LogInput.TheVariants.{Client, Taken}
use Rattle.race_round.specs.Seats.{Seat}
use Rattle.race_round.specs.Turns.{AllFrom, Grouped, IsGroup}
use Rattle.std.proofs.lemmas.Grind.{flat_map-append}
use Rattle.std.proofs.lemmas.List.{map-append}
use Rattle.std.proofs.lemmas.List.Elements.{filter-append}
use Rattle.std.proofs.lemmas.Bool.{cases_eq}
use Rattle.std.specs.List.{range_with_len}
use Rattle.str_base.proofs.Members.{in_map}
use Rattle.str_base.proofs.SameNames.{same_node-is}
use Rattle.str_base.specs.Members.{In}
use Rattle.str_base.specs.Versions.{same_node}
use Rattle.str_base.specs.declared.names.NodeId.{NodeId}

-- the node with a number
abbrev pub node_of : ℕ → NodeId
node_of k = record { 0 = k }

flat_map_same : {A B : Type 0} (f g : A → List B) (xs : List A) → ((x : A) → In x xs → f x ≡ g x) → flat_map f xs ≡ flat_map g xs
flat_map_same f g [] h = refl
flat_map_same f g (x ∷ xs) h = λ j. h x (inl refl) j ++ flat_map_same f g xs (λ y i. h y (inr i)) j

-- ---- one group

pub from_all : (s : NodeId) (part : List Item) → AllFrom s part → from_node s part ≡ part
from_all s [] h = refl
from_all s (it ∷ part) h = (λ j. if h it (inl refl) j then it ∷ from_node s part else from_node s part) ∙ ap (λ (l : List Item). it ∷ l) (from_all s part (λ x i. h x (inr i)))

from_other : (s k : NodeId) (x : LogInput) → s ≢ k → is_from s x ≡ true → is_from k x ≡ false
from_other s k (Client t r) apart h = refl
from_other s k (Taken m i) apart h = by_test (same_node m k) refl
  where
    by_test : (b : Bool) → same_node m k ≡ b → same_node m k ≡ false
    by_test false q = q
    by_test true q = absurd (apart (sym (same_node-is m s h) ∙ same_node-is m k q))

from_none : (s k : NodeId) (part : List Item) → s ≢ k → AllFrom s part → from_node k part ≡ []
from_none s k [] apart h = refl
from_none s k (it ∷ part) apart h =
    (λ j. if from_other s k it.entry.input apart (h it (inl refl)) j then it ∷ from_node k part else from_node k part) ∙ from_none s k part apart (λ x i. h x (inr i))

-- ---- all groups

apart_nodes : (i j : ℕ) → i ≢ j → node_of i ≢ node_of j
apart_nodes i j apart e = apart (ap (λ (x : NodeId). x.0) e)

-- nothing was taken of the nodes past the last
pub past_groups : (n : Seat) (k : ℕ) (its : List Item) → Grouped n k its → (j : ℕ) → k < j → from_node (node_of j) its ≡ []
past_groups n zero its g j less = ap (λ (l : List Item). from_node (node_of j) l) g
past_groups n (suc k) its g j less =
    ap (λ (l : List Item). from_node (node_of j) l) g.2
    ∙ (filter-append (λ (it : Item). is_from (node_of j) it.entry.input) g.0 g.1
    ∙ (λ i. past_groups n k g.0 g.3 j (omega (arith, less)) i ++ from_none (node_of (suc k)) (node_of j) g.1 (apart_nodes (suc k) j (λ e. absurd (omega (arith, e, less)))) g.4.from i))

-- nor of the node 0
pub no_group : (n : Seat) (k : ℕ) (its : List Item) → Grouped n k its → from_node (node_of 0) its ≡ []
no_group n zero its g = ap (λ (l : List Item). from_node (node_of 0) l) g
no_group n (suc k) its g =
    ap (λ (l : List Item). from_node (node_of 0) l) g.2
    ∙ (filter-append (λ (it : Item). is_from (node_of 0) it.entry.input) g.0 g.1
    ∙ (λ i. no_group n k g.0 g.3 i ++ from_none (node_of (suc k)) (node_of 0) g.1 (apart_nodes (suc k) 0 (λ e. absurd (omega (arith, e)))) g.4.from i))

front_same : (n : Seat) (k : ℕ) (front part : List Item) → IsGroup n (node_of (suc k)) part → (j : ℕ) → j ≤ k → from_node (node_of j) (front ++ part) ≡ from_node (node_of j) front
front_same n k front part g j less =
    filter-append (λ (it : Item). is_from (node_of j) it.entry.input) front part
    ∙ (ap (λ (l : List Item). from_node (node_of j) front ++ l) (from_none (node_of (suc k)) (node_of j) part (apart_nodes (suc k) j (λ e. absurd (omega (arith, e, less)))) g.from)
    ∙ append-nil (from_node (node_of j) front))

last_same : (n : Seat) (k : ℕ) (front part : List Item) → Grouped n k front → IsGroup n (node_of (suc k)) part → from_node (node_of (suc k)) (front ++ part) ≡ part
last_same n k front part f g =
    filter-append (λ (it : Item). is_from (node_of (suc k)) it.entry.input) front part
    ∙ (λ i. past_groups n k front f (suc k) (omega arith) i ++ from_all (node_of (suc k)) part g.from i)

-- each group is what was taken of its node
pub group_at : (n : Seat) (k : ℕ) (its : List Item) → Grouped n k its → (j : ℕ) → 1 ≤ j → j ≤ k → IsGroup n (node_of j) (from_node (node_of j) its)
group_at n zero its g j low high = absurd (omega (arith, low, high))
group_at n (suc k) its g j low high = elim (cases_eq j (suc k)) [
  | inl same ↦ subst (λ (x : ℕ). IsGroup n (node_of x) (from_node (node_of x) its)) (sym same)
      (subst (λ (l : List Item). IsGroup n (node_of (suc k)) l) (sym (ap (λ (l : List Item). from_node (node_of (suc k)) l) g.2 ∙ last_same n k g.0 g.1 g.3 g.4)) g.4)
  | inr apart ↦ (let less : j ≤ k = omega (arith, apart, high) in
      subst (λ (l : List Item). IsGroup n (node_of j) l) (sym (ap (λ (l : List Item). from_node (node_of j) l) g.2 ∙ front_same n k g.0 g.1 g.4 j less)) (group_at n k g.0 g.3 j low less))
]

-- what was taken is the groups of all nodes upwards
pub groups_are : (n : Seat) (k : ℕ) (its : List Item) → Grouped n k its → its ≡ flat_map (λ s. from_node s its) (map node_of (range_with_len 1 k))
groups_are n zero its g = g
groups_are n (suc k) its g =
    let more : range_with_len 1 (suc k) ≡ range_with_len 1 k ++ (suc k) ∷ [] = (let q : suc k ≡ k + 1 = sym (add-one k) in let r : 1 + k ≡ suc k = omega arith in ap (range_with_len 1) q ∙ (range_more 1 k ∙ ap (λ (x : ℕ). range_with_len 1 k ++ x ∷ []) r)) in
    let f : NodeId → List Item = λ s. from_node s (g.0 ++ g.1) in
    let same : flat_map f (map node_of (range_with_len 1 k)) ≡ flat_map (λ s. from_node s g.0) (map node_of (range_with_len 1 k)) =
    flat_map_same f (λ s. from_node s g.0) (map node_of (range_with_len 1 k)) (λ x h.
    let y = in_map node_of (range_with_len 1 k) x h in
    let w = in_range 1 k y.0 y.1 in
    subst (λ (z : NodeId). from_node z (g.0 ++ g.1) ≡ from_node z g.0) y.2 (front_same n k g.0 g.1 g.4 y.0 (omega (arith, w.1)))) in
    subst (λ (l : List Item). l ≡ flat_map (λ s. from_node s l) (map node_of (range_with_len 1 (suc k)))) (sym g.2)
    (sym (ap (λ (l : List ℕ). flat_map f (map node_of l)) more
    ∙ (ap (λ (l : List NodeId). flat_map f l) (map-append node_of (range_with_len 1 k) (suc k ∷ []))
    ∙ (flat_map-append f (map node_of (range_with_len 1 k)) (node_of (suc k) ∷ [])
    ∙ (λ i. (same ∙ sym (groups_are n k g.0 g.3)) i ++ (append-nil (f (node_of (suc k))) ∙ last_same n k g.0 g.1 g.3 g.4) i)))))

-- no node has more than 8
pub few_of_each : (n : Seat) (k : ℕ) (its : List Item) → Grouped n k its → (j : NodeId) → length (from_node j its) ≤ 8
few_of_each n k its g j = by_number j.0 refl
  where
    by_number : (x : ℕ) → j.0 ≡ x → length (from_node j its) ≤ 8
    by_number zero e = let none = ap (λ (l : List Item). length l) (ap (λ (y : ℕ). from_node (node_of y) its) e ∙ no_group n k its g) in omega (arith, none)
    by_number (suc x) e = by_size (nat_le j.0 k) refl
      where
        by_size : (b : Bool) → nat_le j.0 k ≡ b → length (from_node j its) ≤ 8
        by_size true q = (group_at n k its g j.0 (omega (arith, e)) (leb-true j.0 k q)).most
        by_size false q = let none = ap (λ (l : List Item). length l) (past_groups n k its g j.0 (leb-false j.0 k q)) in omega (arith, none)
