-- The participants row by row.
use Rattle.std.proofs.Common.{Bool, List, [], add-one, ap, append-nil, append_assoc, arith, drop, false, filter, flat_map, if◌then◌else◌, length, length-append, map, refl, slice_get, suc, sym, true, zero, ℕ, ◌+◌, ◌++◌, ◌<◌, ◌∙◌, ◌∷◌, ◌≡◌, ◌≤◌}
use Rattle.std.specs.List.{range_with_len}
use Rattle.std.proofs.lemmas.List.{length-map}
use Rattle.str_base.specs.declared.limits.TheConstants.{PARTICIPANTS}
use Rattle.str_base.specs.declared.names.KeyId.{KeyId}
use Rattle.str_base.specs.declared.names.NodeId.{NodeId}
use Rattle.str_base.specs.declared.names.PartId.{PartId}
use Rattle.str_base.specs.declared.names.Write.{Write}
use Rattle.partition_map.specs.declared.rows.Asked.{Asked}
use Rattle.partition_map.specs.Maps.{PartitionMap, is_written, nth, or_none, others, part_of, participants, participants_by, replicas, row_at, unasked}

-- the participants of a partition with this row
abbrev pub taken : (KeyId → PartId) → NodeId → List Write → ℕ → List NodeId → List Asked
taken part_of origin ws n row =
    if is_written part_of ws (record { 0 = n }) then map (unasked (record { 0 = n })) (others origin row) else []

-- the participants of these rows, the first of which is of the n-th partition
abbrev pub taking : (KeyId → PartId) → NodeId → List Write → ℕ → List (List NodeId) → List Asked
taking part_of origin ws n [] = []
taking part_of origin ws n (row ∷ rows) = taken part_of origin ws n row ++ taking part_of origin ws (n + 1) rows

-- those from a place on begin with those of the row there
taking-at : (part_of : KeyId → PartId) (o : NodeId) (ws : List Write) (n i : ℕ) (rows : List (List NodeId)) → i < length rows
    → taking part_of o ws n (drop i rows) ≡ taken part_of o ws n (or_none (slice_get rows i)) ++ taking part_of o ws (n + 1) (drop (suc i) rows)
taking-at part_of o ws n i [] h = absurd (omega arith)
taking-at part_of o ws n zero (row ∷ rows) h = refl
taking-at part_of o ws n (suc i) (row ∷ rows) h = taking-at part_of o ws n i rows (omega arith)

-- the participants by the rows from the n-th on
from_rows : (part_of : KeyId → PartId) (all : List (List NodeId)) (o : NodeId) (ws : List Write) (n : ℕ) (rows : List (List NodeId))
    → ((i j : ℕ) → n + i ≡ j → nth all j ≡ slice_get rows i)
    → flat_map (λ p. map (unasked p) (others o (row_at all p))) (filter (λ p. is_written part_of ws p) (map (λ k. record { 0 = k }) (range_with_len n (length rows)))) ≡ taking part_of o ws n rows
from_rows part_of all o ws n [] h = refl
from_rows part_of all o ws n (row ∷ rows) h =
    by_test (from_rows part_of all o ws (n + 1) rows (λ i j e. h (suc i) j (omega arith))) (ap or_none (h 0 n (omega arith))) (is_written part_of ws (record { 0 = n }))
  where
    by_test : (flat_map (λ p. map (unasked p) (others o (row_at all p))) (filter (λ p. is_written part_of ws p) (map (λ k. record { 0 = k }) (range_with_len (n + 1) (length rows)))) ≡ taking part_of o ws (n + 1) rows)
        → row_at all (record { 0 = n }) ≡ row
        → (b : Bool)
        → flat_map (λ p. map (unasked p) (others o (row_at all p))) (if b then record { 0 = n } ∷ filter (λ p. is_written part_of ws p) (map (λ k. record { 0 = k }) (range_with_len (n + 1) (length rows))) else filter (λ p. is_written part_of ws p) (map (λ k. record { 0 = k }) (range_with_len (n + 1) (length rows))))
        ≡ (if b then map (unasked (record { 0 = n })) (others o row) else []) ++ taking part_of o ws (n + 1) rows
    by_test rec e true = rw (e, rec) refl
    by_test rec e false = rec

-- the participants are those of all rows
pub taking-all : (part_of : KeyId → PartId) (rows : List (List NodeId)) (o : NodeId) (ws : List Write) → participants_by part_of rows o ws ≡ taking part_of o ws 1 rows
taking-all part_of rows o ws = from_rows part_of rows o ws 1 rows (λ i j e. let s : j ≡ suc i = omega arith in rw s refl)

-- those from a place of a map on
at_place : (m : PartitionMap) (o : NodeId) (ws : List Write) (i : ℕ) → i < length m.rows
    → taking (part_of m) o ws (i + 1) (drop i m.rows) ≡ taken (part_of m) o ws (i + 1) (replicas m (record { 0 = i + 1 })) ++ taking (part_of m) o ws (i + 1 + 1) (drop (i + 1) m.rows)
at_place m o ws i h = rw add-one (taking-at (part_of m) o ws (suc i) i m.rows h)

-- the participants of the next partition are kept
kept : (list more : List Asked) (m : PartitionMap) (o : NodeId) (ws : List Write) (i : ℕ) → i < length m.rows
    → list ++ taking (part_of m) o ws (i + 1) (drop i m.rows) ≡ participants m o ws
    → more ≡ list ++ taken (part_of m) o ws (i + 1) (replicas m (record { 0 = i + 1 }))
    → more ++ taking (part_of m) o ws (i + 1 + 1) (drop (i + 1) m.rows) ≡ participants m o ws
kept list more m o ws i h e f =
    let rest = taking (part_of m) o ws (i + 1 + 1) (drop (i + 1) m.rows) in
    let here = taken (part_of m) o ws (i + 1) (replicas m (record { 0 = i + 1 })) in
    ap (λ (l : List Asked). l ++ rest) f ∙ (append_assoc list here rest ∙ (ap (λ (l : List Asked). list ++ l) (sym (at_place m o ws i h)) ∙ e))

-- the same, where it is written
pub kept_written : (list more : List Asked) (row : List NodeId) (m : PartitionMap) (o : NodeId) (ws : List Write) (i : ℕ) → i < length m.rows
    → list ++ taking (part_of m) o ws (i + 1) (drop i m.rows) ≡ participants m o ws
    → is_written (part_of m) ws (record { 0 = i + 1 }) ≡ true
    → row ≡ replicas m (record { 0 = i + 1 })
    → more ≡ list ++ map (unasked (record { 0 = i + 1 })) (others o row)
    → more ++ taking (part_of m) o ws (i + 1 + 1) (drop (i + 1) m.rows) ≡ participants m o ws
kept_written list more row m o ws i h e w r f = kept list more m o ws i h e (rw (w, ← r) f)

-- the same, where it is not written
pub kept_else : (list : List Asked) (m : PartitionMap) (o : NodeId) (ws : List Write) (i : ℕ) → i < length m.rows
    → list ++ taking (part_of m) o ws (i + 1) (drop i m.rows) ≡ participants m o ws
    → is_written (part_of m) ws (record { 0 = i + 1 }) ≡ false
    → list ++ taking (part_of m) o ws (i + 1 + 1) (drop (i + 1) m.rows) ≡ participants m o ws
kept_else list m o ws i h e w = kept list list m o ws i h e (rw w (sym (append-nil list)))

-- those of the next partition fit
pub fits : (list : List Asked) (m : PartitionMap) (o : NodeId) (ws : List Write) (i : ℕ) → i < length m.rows
    → length (participants m o ws) ≤ PARTICIPANTS
    → list ++ taking (part_of m) o ws (i + 1) (drop i m.rows) ≡ participants m o ws
    → is_written (part_of m) ws (record { 0 = i + 1 }) ≡ true
    → length list + length (others o (replicas m (record { 0 = i + 1 }))) ≤ PARTICIPANTS
fits list m o ws i h few e w =
    let row = replicas m (record { 0 = i + 1 }) in
    let rest = taking (part_of m) o ws (i + 1 + 1) (drop (i + 1) m.rows) in
    let all = taking (part_of m) o ws (i + 1) (drop i m.rows) in
    let here : taken (part_of m) o ws (i + 1) row ≡ map (unasked (record { 0 = i + 1 })) (others o row) = rw w refl in
    let a : length all ≡ length (taken (part_of m) o ws (i + 1) row) + length rest = ap length (at_place m o ws i h) ∙ length-append (taken (part_of m) o ws (i + 1) row) rest in
    let b : length (taken (part_of m) o ws (i + 1) row) ≡ length (others o row) = ap length here ∙ length-map (others o row) (unasked (record { 0 = i + 1 })) in
    let c : length list + length all ≡ length (participants m o ws) = sym (length-append list all) ∙ ap length e in
    omega arith
