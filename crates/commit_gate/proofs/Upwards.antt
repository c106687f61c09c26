-- The participants of a transaction stand by rising partition, also where some are asked or have answered.
use Rattle.std.proofs.Common.{Bool, List, Some, [], ap, arith, false, filter, flat_map, if◌then◌else◌, length, map, slice_get, suc, sym, true, zero, ℕ, ◌+◌, ◌++◌, ◌∙◌, ◌∷◌, ◌≡◌, ◌≤◌}
use Rattle.commit_gate.proofs.Gating.{at_map}
use Rattle.std.specs.List.{range_with_len}
use Rattle.commit_gate.specs.Answers.{IsUpwards}
use Rattle.partition_map.specs.declared.rows.Asked.{Asked}
use Rattle.partition_map.specs.Maps.{PartitionMap, is_written, others, part_of, participants, row_at, unasked}
use Rattle.str_base.specs.declared.names.NodeId.{NodeId}
use Rattle.str_base.specs.declared.names.PartId.{PartId}
use Rattle.str_base.specs.declared.names.Write.{Write}

-- by rising partition, and none below n
abbrev RisesFrom : ℕ → List Asked → Type 0
RisesFrom n [] = Unit {0}
RisesFrom n (a ∷ later) = (n ≤ a.part.0) × RisesFrom a.part.0 later

rises_lower : (m n : ℕ) (parts : List Asked) → m ≤ n → RisesFrom n parts → RisesFrom m parts
rises_lower m n [] l h = tt
rises_lower m n (a ∷ later) l h = (omega (arith, l, h.0), h.1)

rises_above : (n : ℕ) (parts : List Asked) (i : ℕ) (a : Asked) → RisesFrom n parts → slice_get parts i ≡ Some a → n ≤ a.part.0
rises_above n [] i a h e = absurd (cc e)
rises_above n (x ∷ xs) zero a h e = let q : x ≡ a = cc e in omega (arith, h.0, ap (λ (y : Asked). y.part.0) q)
rises_above n (x ∷ xs) (suc i) a h e = let l = rises_above x.part.0 xs i a h.1 e in omega (arith, l, h.0)

upwards : (n : ℕ) (parts : List Asked) → RisesFrom n parts → IsUpwards parts
upwards n [] h i j a b l e f = absurd (cc e)
upwards n (x ∷ xs) h zero zero a b l e f = let q : a ≡ b = cc (e, f) in omega (arith, ap (λ (y : Asked). y.part.0) q)
upwards n (x ∷ xs) h zero (suc j) a b l e f =
    let q : x ≡ a = cc e in
    let k = rises_above x.part.0 xs j b h.1 f in
    omega (arith, k, ap (λ (y : Asked). y.part.0) q)
upwards n (x ∷ xs) h (suc i) zero a b l e f = absurd (omega (arith, l))
upwards n (x ∷ xs) h (suc i) (suc j) a b l e f = upwards x.part.0 xs h.1 i j a b (omega (arith, l)) e f

rises_row : (n : ℕ) (p : PartId) (nodes : List NodeId) (later : List Asked) → n ≤ p.0 → RisesFrom p.0 later → RisesFrom n (map (unasked p) nodes ++ later)
rises_row n p [] later l h = rises_lower n p.0 later l h
rises_row n p (m ∷ nodes) later l h = (l, rises_row p.0 p nodes later (omega arith) h)

rises_rows : (row : PartId → List NodeId) (test : PartId → Bool) (k n : ℕ)
    → RisesFrom n (flat_map (λ p. map (unasked p) (row p)) (filter test (map {B = PartId} (λ m. record { 0 = m }) (range_with_len n k))))
rises_rows row test zero n = tt
rises_rows row test (suc k) n = by_test (test (record { 0 = n })) (rises_lower n (n + 1) _ (omega arith) (rises_rows row test k (n + 1)))
  where
    by_test : (b : Bool) → RisesFrom n (flat_map (λ p. map (unasked p) (row p)) (filter test (map {B = PartId} (λ m. record { 0 = m }) (range_with_len (n + 1) k))))
        → RisesFrom n (flat_map (λ p. map (unasked p) (row p)) (if b then record { 0 = n } ∷ filter test (map (λ m. record { 0 = m }) (range_with_len (n + 1) k)) else filter test (map (λ m. record { 0 = m }) (range_with_len (n + 1) k))))
    by_test true h = rises_row n (record { 0 = n }) (row (record { 0 = n })) _ (omega arith) h
    by_test false h = h

-- those of a map
pub participants_upwards : (map_ : PartitionMap) (origin : NodeId) (ws : List Write) → IsUpwards (participants map_ origin ws)
participants_upwards map_ origin ws = upwards 1 _ (rises_rows (λ p. others origin (row_at map_.rows p)) (is_written (part_of map_) ws) (length map_.rows) 1)

-- a change that keeps each partition keeps the order
pub upwards_map : (f : Asked → Asked) → ((a : Asked) → (f a).part ≡ a.part) → (parts : List Asked) → IsUpwards parts → IsUpwards (map f parts)
upwards_map f same parts up i j a b l e g =
    let x = at_map f parts i a e in
    let y = at_map f parts j b g in
    let k = up i j x.0 y.0 l x.1 y.1 in
    let p : a.part ≡ x.0.part = ap (λ (z : Asked). z.part) (sym x.2) ∙ same x.0 in
    let q : b.part ≡ y.0.part = ap (λ (z : Asked). z.part) (sym y.2) ∙ same y.0 in
    omega (arith, k, ap (λ (z : PartId). z.0) p, ap (λ (z : PartId). z.0) q)
