-- What the tests of a line's numbers tell.
use Rattle.std.proofs.Common.{Bool, List, Some, [], ap, arith, false, length, nat_le, negsuc, pos, refl, slice_get, suc, sym, true, zero, ℕ, ℤ, ◌&&◌, ◌∙◌, ◌∷◌, ◌≡◌, ◌≤◌, ◌||◌}
use Rattle.str_scene.proofs.Allowing.{up_to_holds}
use Rattle.str_scene.proofs.Checked.{up_to}
use Rattle.std.proofs.lemmas.Bool.{or_right, not-true, and_from, and_parts}
use Rattle.str_base.proofs.SameNames.{same_node-is, is-same_node}
use Rattle.std.proofs.lemmas.Bool.Decides.{nat_tests}
use Rattle.std.specs.List.{list_all, list_any}
use Rattle.scene_text.proofs.Taking.TableGrows.{Distinct}
use Rattle.scene_text.specs.Taking.{are_distinct, is_number, is_row, is_up_to}
use Rattle.str_base.specs.Versions.{same_node}
use Rattle.str_base.specs.declared.names.NodeId.{NodeId}
use Rattle.str_scene.specs.SceneLimits.{Exists, IsNumber, IsRow}

-- a number of 64 bits with a sign
pub number_tells : (n : ℤ) → is_number n ≡ true → IsNumber n
number_tells (pos n) e = grind (arith, nat_tests)
number_tells (negsuc n) e = grind (arith, nat_tests)

pub number_holds : (n : ℤ) → IsNumber n → is_number n ≡ true
number_holds (pos n) h = grind (arith, nat_tests)
number_holds (negsuc n) h = grind (arith, nat_tests)

-- a node that stands in a list is found
any_at : (n : NodeId) (ns : List NodeId) (j : ℕ) → slice_get ns j ≡ Some n → list_any (same_node n) ns ≡ true
any_at n [] j e = absurd cc
any_at n (m ∷ ns) zero e = let same : m ≡ n = cc in rw (same, is-same_node n n refl) refl
any_at n (m ∷ ns) (suc j) e = or_right (same_node n m) (list_any (same_node n) ns) (any_at n ns j e)

-- a node that stands nowhere is not
any_nowhere : (n : NodeId) (ns : List NodeId) → ((j : ℕ) → slice_get ns j ≡ Some n → ⊥) → list_any (same_node n) ns ≡ false
any_nowhere n [] none = refl
any_nowhere n (m ∷ ns) none = or_none (same_node n m) (list_any (same_node n) ns) refl (any_nowhere n ns (λ j e. none (suc j) e))
  where
    or_none : (a b : Bool) → same_node n m ≡ a → b ≡ false → (a || b) ≡ false
    or_none true b e f = absurd (none 0 (ap Some (sym (same_node-is n m e))))
    or_none false b e f = f

-- nodes none of which stands twice
distinct_tells : (row : List NodeId) → are_distinct row ≡ true → Distinct row
distinct_tells [] e i j n p q = absurd cc
distinct_tells (m ∷ row) e zero zero n p q = refl
distinct_tells (m ∷ row) e zero (suc j) n p q =
    let same : m ≡ n = cc in
    let first : list_any (same_node m) row ≡ false = not-true _ (and_parts _ _ e).0 in
    let found : list_any (same_node m) row ≡ true = any_at m row j (q ∙ ap Some (sym same)) in
    absurd (cc)
distinct_tells (m ∷ row) e (suc i) zero n p q =
    let same : m ≡ n = cc in
    let first : list_any (same_node m) row ≡ false = not-true _ (and_parts _ _ e).0 in
    let found : list_any (same_node m) row ≡ true = any_at m row i (p ∙ ap Some (sym same)) in
    absurd (cc)
distinct_tells (m ∷ row) e (suc i) (suc j) n p q = ap (λ k. suc k) (distinct_tells row (and_parts _ _ e).1 i j n p q)

distinct_holds : (row : List NodeId) → Distinct row → are_distinct row ≡ true
distinct_holds [] d = refl
distinct_holds (m ∷ row) d =
    and_from _ _ (rw (any_nowhere m row (λ j e. not_twice (d 0 (suc j) m refl e))) refl) (distinct_holds row (λ i j n p q. suc_same (d (suc i) (suc j) n p q)))
  where
    not_twice : {j : ℕ} → 0 ≡ suc j → ⊥
    not_twice {j} e = omega arith

    suc_same : {i j : ℕ} → suc i ≡ suc j → i ≡ j
    suc_same {i} {j} e = omega arith

-- nodes each of which exists
exist_tells : (nodes : ℕ) (row : List NodeId) → list_all (λ n. is_up_to nodes n.0) row ≡ true → (i : ℕ) (n : NodeId) → slice_get row i ≡ Some n → Exists n.0 nodes
exist_tells nodes [] e i n p = absurd cc
exist_tells nodes (m ∷ row) e zero n p =
    let same : m ≡ n = cc in
    let first : is_up_to nodes m.0 ≡ true = (and_parts (is_up_to nodes m.0) (list_all (λ k. is_up_to nodes k.0) row) e).0 in
    up_to nodes n.0 (rw same at first)
exist_tells nodes (m ∷ row) e (suc i) n p = exist_tells nodes row (and_parts (is_up_to nodes m.0) (list_all (λ k. is_up_to nodes k.0) row) e).1 i n p

exist_holds : (nodes : ℕ) (row : List NodeId) → ((i : ℕ) (n : NodeId) → slice_get row i ≡ Some n → Exists n.0 nodes) → list_all (λ n. is_up_to nodes n.0) row ≡ true
exist_holds nodes [] h = refl
exist_holds nodes (m ∷ row) h = and_from _ _ (up_to_holds nodes m.0 (h 0 m refl)) (exist_holds nodes row (λ i n p. h (suc i) n p))

-- a row of the scene
pub row_tells : (nodes : ℕ) (row : List NodeId) → 1 ≤ length row → is_row nodes row ≡ true → IsRow nodes row
row_tells nodes row some e =
    let first = and_parts (nat_le (length row) 8) (list_all (λ n. is_up_to nodes n.0) row && are_distinct row) e in
    let second = and_parts (list_all (λ n. is_up_to nodes n.0) row) (are_distinct row) first.1 in
    let few : nat_le (length row) 8 ≡ true = first.0 in
    record { some = some; few = grind (arith, nat_tests); exist = exist_tells nodes row second.0; distinct = distinct_tells row second.1 }

pub row_holds : (nodes : ℕ) (row : List NodeId) → IsRow nodes row → is_row nodes row ≡ true
row_holds nodes row r =
    let few : length row ≤ 8 = r.few in
    and_from (nat_le (length row) 8) _ (grind (arith, nat_tests)) (and_from _ _ (exist_holds nodes row r.exist) (distinct_holds row r.distinct))
