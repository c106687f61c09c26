-- How many participants there can be.
use Rattle.std.proofs.Common.{Bool, List, None, Option, Some, [], ap, arith, eq-eqb, eqb, eqb-true, subst, false, filter, flat_map, if◌then◌else◌, length, length-append, map, not, refl, slice_get, suc, sym, true, zero, ℕ, ◌*◌, ◌+◌, ◌<◌, ◌||◌, ◌∙◌, ◌∷◌, ◌≡◌, ◌≤◌}
use Rattle.std.specs.List.{AllByRecursion, IsDistinct, list_any, range_with_len}
use Rattle.std.proofs.lemmas.Map.Steps.{length-le_from_distinct_below}
use Rattle.std.proofs.lemmas.Map.Made.{length-le_from_is_member}
use Rattle.std.proofs.lemmas.Bool.{false≢true, ne_eqb, or_right}
use Rattle.std.proofs.lemmas.List.{length-map}
use Rattle.std.specs.Cmp.{nat_eq_equiv}
use Rattle.partition_map.specs.declared.rows.Asked.{Asked}
use Rattle.str_base.specs.declared.limits.TheConstants.{NODES, OPERATIONS, PARTICIPANTS}
use Rattle.str_base.specs.declared.names.KeyId.{KeyId}
use Rattle.str_base.specs.declared.names.NodeId.{NodeId}
use Rattle.str_base.specs.declared.names.PartId.{PartId}
use Rattle.str_base.specs.declared.names.Write.{Write}
use Rattle.str_base.specs.Versions.{same_node}
use Rattle.partition_map.specs.Maps.{Exists, IsMap, IsRow, PartitionMap, is_written, nth, numbered, or_none, others, participants, part_of, row_at, unasked, written}
use Rattle.partition_map.proofs.Proper.{at_nth}

-- ---- nodes of a row

-- the numbers of the nodes of a row but this one
abbrev other_numbers : NodeId → List NodeId → List ℕ
other_numbers o row = map (λ n. n.0) (others o row)

-- each number of the others is of a node of the row, and not of this one
all_others : (P : ℕ → Type 0) (o : NodeId) (row : List NodeId) → ((i : ℕ) (n : NodeId) → slice_get row i ≡ Some n → same_node n o ≡ false → P n.0)
    → AllByRecursion P (other_numbers o row)
all_others P o [] h = tt
all_others P o (r ∷ rs) h = by_test (all_others P o rs (λ i n e. h (suc i) n e)) (same_node r o) refl
  where
    by_test : AllByRecursion P (other_numbers o rs) → (b : Bool) → same_node r o ≡ b → AllByRecursion P (map (λ n. n.0) (if not b then r ∷ others o rs else others o rs))
    by_test rec true e = rec
    by_test rec false e = (h 0 r refl e, rec)

-- the first of a row differs from each other one
first_apart : (r : NodeId) (rs : List NodeId) → ((i j : ℕ) (n : NodeId) → slice_get (r ∷ rs) i ≡ Some n → slice_get (r ∷ rs) j ≡ Some n → i ≡ j)
    → (i : ℕ) (n : NodeId) → slice_get rs i ≡ Some n → eqb r.0 n.0 ≡ false
first_apart r rs h i n e =
    ne_eqb r.0 n.0 (λ q. let same : r ≡ n = ap (λ k. record { 0 = k }) q in let g : 0 ≡ suc i = h 0 (suc i) n (ap (λ m. Some m) same) e in omega arith)

-- the others are distinct, by whether the first of the row is this one
distinct_by : (o r : NodeId) (rs : List NodeId) → AllByRecursion (λ y. eqb r.0 y ≡ false) (other_numbers o rs) → IsDistinct eqb (other_numbers o rs)
    → (b : Bool) → IsDistinct eqb (map (λ n. n.0) (if not b then r ∷ others o rs else others o rs))
unfolding IsDistinct
distinct_by o r rs apart rec true = rec
distinct_by o r rs apart rec false = (apart, rec)

-- the same of a row
others_distinct : (o : NodeId) (row : List NodeId) → ((i j : ℕ) (n : NodeId) → slice_get row i ≡ Some n → slice_get row j ≡ Some n → i ≡ j)
    → IsDistinct eqb (other_numbers o row)
unfolding IsDistinct
others_distinct o [] h = tt
others_distinct o (r ∷ rs) h =
    distinct_by o r rs (all_others (λ y. eqb r.0 y ≡ false) o rs (λ i n e _. first_apart r rs h i n e))
    (others_distinct o rs (λ i j n e f. let g : suc i ≡ suc j = h (suc i) (suc j) n e f in omega arith)) (same_node r o)

-- what holds of all holds of one that is found
found : (P : ℕ → Type 0) (xs : List ℕ) → AllByRecursion P xs → (q : ℕ) → list_any (eqb q) xs ≡ true → P q
found P [] h q e = absurd (cc e)
found P (x ∷ xs) h q e = by_test (found P xs h.1 q) (eqb q x) refl e
  where
    by_test : (list_any (eqb q) xs ≡ true → P q) → (b : Bool) → eqb q x ≡ b → (b || list_any (eqb q) xs) ≡ true → P q
    by_test rec true f g = let s : x ≡ q = sym (eqb-true q x f) in subst P s h.0
    by_test rec false f g = rec g

-- 0, the number of this node and those of the others are distinct
ten_distinct : (o : NodeId) (row : List NodeId) → Exists o.0 NODES → IsRow NODES row → IsDistinct eqb (0 ∷ o.0 ∷ other_numbers o row)
unfolding IsDistinct
ten_distinct o row there is =
    let zero_apart = all_others (λ y. eqb 0 y ≡ false) o row (λ i n e _. ne_eqb 0 n.0 (λ q. let k = is.exist i n e in omega (arith, k.0))) in
    let origin_apart = all_others (λ y. eqb o.0 y ≡ false) o row (λ i n e f. ne_eqb o.0 n.0 (λ q. false≢true (sym (subst (λ k. eqb n.0 k ≡ false) q f) ∙ eq-eqb n.0 n.0 refl))) in
    ((ne_eqb 0 o.0 (λ q. omega (arith, there.0)), zero_apart), (origin_apart, others_distinct o row is.distinct))

-- at most 7 nodes of a row but this one
pub others_few : (o : NodeId) (row : List NodeId) → Exists o.0 NODES → IsRow NODES row → length (others o row) ≤ 7
others_few o row there is =
    let below : AllByRecursion (λ n. n < 9) (0 ∷ o.0 ∷ other_numbers o row) = (omega arith, (omega (arith, there.1), all_others (λ n. n < 9) o row (λ i n e _. let k = is.exist i n e in omega (arith, k.1)))) in
    let nine : length (0 ∷ o.0 ∷ other_numbers o row) ≤ 9 =
    length-le_from_distinct_below (0 ∷ o.0 ∷ other_numbers o row) 9 (ten_distinct o row there is) (found (λ n. n < 9) (0 ∷ o.0 ∷ other_numbers o row) below) in
    omega (arith, nine, length-map (others o row) (λ n. n.0))

-- ---- written partitions

-- the numbers of the partitions that pass a test, of n from a on
abbrev passing : (PartId → Bool) → ℕ → ℕ → List ℕ
passing test a n = map (λ p. p.0) (filter test (map (λ k. record { 0 = k }) (range_with_len a n)))

-- they are a or above
passing_above : (test : PartId → Bool) (b a n : ℕ) → b < a → AllByRecursion (λ y. eqb b y ≡ false) (passing test a n)
passing_above test b a zero h = tt
passing_above test b a (suc n) h = by_test (passing_above test b (a + 1) n (omega arith)) (test (record { 0 = a }))
  where
    by_test : AllByRecursion (λ y. eqb b y ≡ false) (passing test (a + 1) n) → (c : Bool)
        → AllByRecursion (λ y. eqb b y ≡ false) (map (λ p. p.0) (if c then record { 0 = a } ∷ filter test (map (λ k. record { 0 = k }) (range_with_len (a + 1) n)) else filter test (map (λ k. record { 0 = k }) (range_with_len (a + 1) n))))
    by_test rec true = (ne_eqb b a (λ q. omega arith), rec)
    by_test rec false = rec

-- they are distinct, by whether the first one passes
passing_by : (test : PartId → Bool) (a n : ℕ) → IsDistinct eqb (passing test (a + 1) n) → (c : Bool)
    → IsDistinct eqb (map (λ p. p.0) (if c then record { 0 = a } ∷ filter test (map (λ k. record { 0 = k }) (range_with_len (a + 1) n)) else filter test (map (λ k. record { 0 = k }) (range_with_len (a + 1) n))))
unfolding IsDistinct
passing_by test a n rec true = (passing_above test a (a + 1) n (omega arith), rec)
passing_by test a n rec false = rec

-- they are distinct
passing_distinct : (test : PartId → Bool) (a n : ℕ) → IsDistinct eqb (passing test a n)
unfolding IsDistinct
passing_distinct test a zero = tt
passing_distinct test a (suc n) = passing_by test a n (passing_distinct test (a + 1) n) (test (record { 0 = a }))

-- each of them passes
passing_pass : (test : PartId → Bool) (ps : List PartId) → AllByRecursion (λ k. test (record { 0 = k }) ≡ true) (map (λ p. p.0) (filter test ps))
passing_pass test [] = tt
passing_pass test (p ∷ ps) = by_test (passing_pass test ps) (test p) refl
  where
    by_test : AllByRecursion (λ k. test (record { 0 = k }) ≡ true) (map (λ p. p.0) (filter test ps)) → (c : Bool) → test p ≡ c
        → AllByRecursion (λ k. test (record { 0 = k }) ≡ true) (map (λ p. p.0) (if c then p ∷ filter test ps else filter test ps))
    by_test rec true e = (e, rec)
    by_test rec false e = rec

-- a partition that is written is one of the partitions of the writes
among : (part_of : KeyId → PartId) (ws : List Write) (q : ℕ) → is_written part_of ws (record { 0 = q }) ≡ true → list_any (eqb q) (map (λ w. (part_of w.key).0) ws) ≡ true
among part_of [] q e = absurd (cc e)
among part_of (w ∷ ws) q e = by_test (among part_of ws q) (eqb (part_of w.key).0 q) refl e
  where
    by_test : (is_written part_of ws (record { 0 = q }) ≡ true → list_any (eqb q) (map (λ w. (part_of w.key).0) ws) ≡ true) → (b : Bool) → eqb (part_of w.key).0 q ≡ b
        → (b || is_written part_of ws (record { 0 = q })) ≡ true → (eqb q (part_of w.key).0 || list_any (eqb q) (map (λ w. (part_of w.key).0) ws)) ≡ true
    by_test rec true f g = let s : q ≡ (part_of w.key).0 = sym (eqb-true (part_of w.key).0 q f) in rw (eq-eqb q (part_of w.key).0 s) refl
    by_test rec false f g = or_right (eqb q (part_of w.key).0) (list_any (eqb q) (map (λ w. (part_of w.key).0) ws)) (rec g)

-- no more partitions are written than there are writes
pub written_few : (part_of : KeyId → PartId) (rows : List (List NodeId)) (ws : List Write) → length (written part_of rows ws) ≤ length ws
written_few part_of rows ws =
    let test : PartId → Bool = λ p. is_written part_of ws p in
    let xs : List ℕ = passing test 1 (length rows) in
    let ys : List ℕ = map (λ w. (part_of w.key).0) ws in
    let l : length xs ≤ length ys =
    length-le_from_is_member nat_eq_equiv xs ys (passing_distinct test 1 (length rows))
    (λ q h. among part_of ws q (found (λ k. test (record { 0 = k }) ≡ true) xs (passing_pass test (numbered rows)) q h)) in
    omega (arith, l, length-map (written part_of rows ws) (λ p. p.0), length-map ws (λ w. (part_of w.key).0))

-- ---- participants

-- the length of lists in a row
flat_few : (f : PartId → List Asked) (n : ℕ) (ps : List PartId) → ((p : PartId) → length (f p) ≤ n) → length (flat_map f ps) ≤ length ps * n
flat_few f n [] h = omega arith
flat_few f n (p ∷ ps) h = omega (arith, flat_few f n ps h, h p, length-append (f p) (flat_map f ps))

-- a row has at most 7 nodes but this one, also where it does not exist
pub row_few : (m : PartitionMap) (o : NodeId) (p : PartId) → IsMap m → Exists o.0 NODES → length (others o (row_at m.rows p)) ≤ 7
row_few m o p is there = by_row (nth m.rows p.0) (λ row e. is.rows _ row (at_nth m.rows p.0 row e))
  where
    by_row : (r : Option (List NodeId)) → ((row : List NodeId) → r ≡ Some row → IsRow NODES row) → length (others o (or_none r)) ≤ 7
    by_row None h = omega arith
    by_row (Some row) h = others_few o row there (h row refl)

-- at most 112 participants
pub participants_few : (m : PartitionMap) (o : NodeId) (ws : List Write) → IsMap m → Exists o.0 NODES → length ws ≤ OPERATIONS → length (participants m o ws) ≤ PARTICIPANTS
participants_few m o ws is there h =
    let f : PartId → List Asked = λ p. map (unasked p) (others o (row_at m.rows p)) in
    let a : length (participants m o ws) ≤ length (written (part_of m) m.rows ws) * 7 =
    flat_few f 7 (written (part_of m) m.rows ws) (λ p. omega (arith, row_few m o p is there, length-map (others o (row_at m.rows p)) (unasked p))) in
    omega (arith, a, written_few (part_of m) m.rows ws)
