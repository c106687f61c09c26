-- What the tests of an item say of it.
use Rattle.std.proofs.Common.{Bool, List, None, Option, Some, [], ap, arith, false, get_or, inl, inr, length, nat_le, nat_lt, refl, slice_get, suc, true, zero, ℕ, ◌==◌, ◌||◌, ◌<◌, ◌≤◌, ◌∷◌, ◌≡◌, ◌⊎◌}
use Rattle.str_base.proofs.SameNames.{is-same_node}
use Rattle.str_base.proofs.Lists.{passes_at, fails_at}
use Rattle.std.proofs.lemmas.Bool.{and_parts, or_cases, not-true, leb-true, ltb-true, eqb-true}
use Rattle.std.specs.Prelude.{not}
use Rattle.std.specs.List.{list_all, list_any}
use Rattle.std.proofs.lemmas.Bool.Decides.{nat_tests}
use Rattle.str_base.specs.Versions.{same_node}
use Rattle.str_base.specs.declared.names.NodeId.{NodeId}
use Rattle.str_scene.specs.DraftLimits.{HasNumber, HasReading}
use Rattle.str_scene.specs.Drafts.{is_none_yet}
use Rattle.str_scene.specs.Refusals.{are_distinct, counts_to, first_fault, is_entry, is_known, is_puts, is_row, is_script, is_up_to}
use Rattle.str_scene.specs.SceneLimits.{Exists, IsEvent, IsOp, IsRow, IsScript}
use Rattle.str_scene.specs.Scenes.{KeyTable, Scene}
use Rattle.str_scene.specs.declared.names.Event.{Event}
use Rattle.str_scene.specs.declared.names.Event.TheVariants.{Client, Deliver}
use Rattle.str_scene.specs.declared.names.Op.{Op}
use Rattle.str_scene.specs.declared.names.Op.TheVariants.{Abort, Add, Del, Get, Need, Put, Puts}

-- without a fault all three tests pass
pub no_fault : (a b c : Bool) → first_fault a b c ≡ None → (a ≡ true) × (b ≡ true) × (c ≡ true)
no_fault true true true e = (refl, refl, refl)
no_fault false b c e = absurd cc
no_fault true false c e = absurd cc
no_fault true true false e = absurd cc

-- a number from 1 to the last
pub up_to : (last n : ℕ) → is_up_to last n ≡ true → Exists n last
up_to last n e =
    let h = and_parts (nat_le 1 n) (nat_le n last) e in
    (leb-true 1 n h.0, leb-true n last h.1)

-- a list with members
pub some_members : {X : Type 0} (xs : List X) → not (is_none_yet xs) ≡ true → 1 ≤ length xs
some_members [] e = absurd cc
some_members (x ∷ xs) e = omega arith

-- the nodes of a list without repeats
pub distinct_at : (row : List NodeId) (i j : ℕ) (n : NodeId) → are_distinct row ≡ true → slice_get row i ≡ Some n → slice_get row j ≡ Some n → i ≡ j
distinct_at [] i j n e g h = absurd cc
distinct_at (m ∷ ms) zero zero n e g h = refl
distinct_at (m ∷ ms) zero (suc j) n e g h =
    let new = not-true (list_any (same_node m) ms) (and_parts (not (list_any (same_node m) ms)) (are_distinct ms) e).0 in
    let other : same_node m n ≡ false = fails_at (same_node m) ms j n new h in
    let same : m ≡ n = cc in
    absurd (let one : same_node m n ≡ true = is-same_node m n same in cc)
distinct_at (m ∷ ms) (suc i) zero n e g h =
    let new = not-true (list_any (same_node m) ms) (and_parts (not (list_any (same_node m) ms)) (are_distinct ms) e).0 in
    let other : same_node m n ≡ false = fails_at (same_node m) ms i n new g in
    let same : m ≡ n = cc in
    absurd (let one : same_node m n ≡ true = is-same_node m n same in cc)
distinct_at (m ∷ ms) (suc i) (suc j) n e g h =
    ap suc (distinct_at ms i j n (and_parts (not (list_any (same_node m) ms)) (are_distinct ms) e).1 g h)

-- a row by its tests
pub row_checked : (nodes : ℕ) (row : List NodeId) → not (is_none_yet row) ≡ true → is_row nodes row ≡ true → length row ≤ 8 → IsRow nodes row
row_checked nodes row some e few =
    let h = and_parts (list_all (λ n. is_up_to nodes n.0) row) (are_distinct row) e in
    record {
      some = some_members row some;
      few = few;
      exist = λ i n g. up_to nodes n.0 (passes_at (λ n. is_up_to nodes n.0) row i n h.0 g);
      distinct = λ i j n g k. distinct_at row i j n h.1 g k;
    }

-- an operation by its tests
pub op_checked : (version : ℕ) (table : KeyTable) (op : Op) → is_known table op ≡ true → (version ≡ 2) ⊎ (is_puts op ≡ false) → HasNumber op → IsOp version table op
op_checked version table (Get k) e v h = ltb-true k.0 (length table.names) e
op_checked version table (Put k n) e v h = (ltb-true k.0 (length table.names) e, h)
op_checked version table (Puts k t) e (inl v) h =
    let b = and_parts (nat_lt k.0 (length table.names)) (nat_lt t.0 (length table.texts)) e in
    (ltb-true k.0 (length table.names) b.0, ltb-true t.0 (length table.texts) b.1, v)
op_checked version table (Puts k t) e (inr v) h = absurd cc
op_checked version table (Add k n) e v h = (ltb-true k.0 (length table.names) e, h)
op_checked version table (Del k) e v h = ltb-true k.0 (length table.names) e
op_checked version table (Need k n) e v h = (ltb-true k.0 (length table.names) e, h)
op_checked version table Abort e v h = tt

-- a script by its tests
pub script_checked : (version : ℕ) (table : KeyTable) (ops : List Op) → is_script version ops ≡ true → list_all (is_known table) ops ≡ true
    → ((i : ℕ) (op : Op) → slice_get ops i ≡ Some op → HasNumber op) → length ops ≤ 16 → IsScript version table ops
script_checked version table ops e known numbers few =
    let h = and_parts (not (is_none_yet ops)) ((version == 2) || not (list_any is_puts ops)) e in
    record {
      some = some_members ops h.0;
      few = few;
      ops = λ i op g. op_checked version table op (passes_at (is_known table) ops i op known g) (allowed (or_cases (version == 2) (not (list_any is_puts ops)) h.1) i op g) (numbers i op g);
    }
  where
    allowed : ((version == 2) ≡ true) ⊎ (not (list_any is_puts ops) ≡ true) → (i : ℕ) (op : Op) → slice_get ops i ≡ Some op → (version ≡ 2) ⊎ (is_puts op ≡ false)
    allowed (inl v) i op g = inl (eqb-true version 2 v)
    allowed (inr v) i op g = inr (fails_at is_puts ops i op (not-true (list_any is_puts ops) v) g)

-- an entry by its tests
pub entry_checked : (d : Scene) (e : Event) → is_entry (length d.sessions) e ≡ true → HasReading e → IsEvent d e
entry_checked d (Client s t) e h = (up_to (length d.sessions) s.0 e, h)
entry_checked d (Deliver i) e h = (leb-true 1 i e, h)

-- the numbers count to the length
pub counts : (o : Option ℕ) (n : ℕ) → counts_to o n ≡ true → o ≡ Some n
counts None n e = absurd cc
counts (Some m) n e = ap Some (eqb-true m n e)

-- bytes are below 256
pub all_bytes : (xs : List ℕ) → ((k : ℕ) → get_or xs k 0 < 256) → list_all (λ b. nat_lt b 256) xs ≡ true
all_bytes [] h = refl
all_bytes (x ∷ xs) h =
    let low : x < 256 = h 0 in
    let first : nat_lt x 256 ≡ true = grind (arith, nat_tests) in
    rw (first, all_bytes xs (λ k. h (suc k))) refl
