-- The table of keys: what holds of each key holds of each entry, no key stands twice, and each key is there.
use Rattle.std.proofs.Common.{List, Some, [], arith, inl, inr, length, slice_get, sym, ℕ, ◌++◌, ◌<◌, ◌∙◌, ◌∷◌, ◌≡◌, ◌≤◌, ◌⊎◌}
use Rattle.scene_gen.proofs.Tables.{all_kept, longer, placed, there}
use Rattle.scene_gen.specs.Made.{with_pairs}
use Rattle.str_base.proofs.Lists.{got_push}
use Rattle.str_base.specs.declared.names.PartId.{PartId}
use Rattle.str_scene.proofs.Each.{each_push}
use Rattle.str_scene.proofs.Pairs.{Interned, interned}
use Rattle.str_scene.specs.Keys.{place_of, with_pair}
use Rattle.str_scene.specs.Lists.{Each}

-- no key stands twice
abbrev pub IsUnique : List (List ℕ × PartId) → Type 0
IsUnique table = (i j : ℕ) (key : List ℕ × PartId) → slice_get table i ≡ Some key → slice_get table j ≡ Some key → i ≡ j

-- the key is there
abbrev pub IsThere : List (List ℕ × PartId) → List ℕ × PartId → Type 0
IsThere table key = place_of key table < length table

-- one more key
one_each : (P : List ℕ × PartId → Type 0) (k : List ℕ × PartId) (table : List (List ℕ × PartId)) → P k → Each P table → Each P (with_pair k table)
one_each P k table p h = by (interned k table)
  where
    by : Interned k table → Each P (with_pair k table)
    by (inl e) = rw e.1 h
    by (inr e) = rw e.1 (each_push P table k h p)

-- more keys
pub table_each : (P : List ℕ × PartId → Type 0) (ks table : List (List ℕ × PartId)) → Each P ks → Each P table → Each P (with_pairs ks table)
table_each P [] table hs h = h
table_each P (k ∷ ks) table hs h = table_each P ks (with_pair k table) hs.1 (one_each P k table hs.0 h)

-- a new key at the end
unique_push : (table : List (List ℕ × PartId)) (k : List ℕ × PartId) → IsUnique table → ((i : ℕ) → slice_get table i ≡ Some k → ⊥) → IsUnique (table ++ k ∷ [])
unique_push table k u new i j x e f = places (got_push table i k x e) (got_push table j k x f)
  where
    places : ((i ≡ length table) × (x ≡ k)) ⊎ (slice_get table i ≡ Some x) → ((j ≡ length table) × (x ≡ k)) ⊎ (slice_get table j ≡ Some x) → i ≡ j
    places (inr g) (inr h) = u i j x g h
    places (inr g) (inl h) = absurd (new i (rw (sym h.1) g))
    places (inl g) (inr h) = absurd (new j (rw (sym g.1) h))
    places (inl g) (inl h) = g.0 ∙ sym h.0

one_unique : (k : List ℕ × PartId) (table : List (List ℕ × PartId)) → IsUnique table → IsUnique (with_pair k table)
one_unique k table u = by (interned k table)
  where
    by : Interned k table → IsUnique (with_pair k table)
    by (inl e) = rw e.1 u
    by (inr e) = rw e.1 (unique_push table k u e.2)

-- no key stands twice after more keys
pub table_unique : (ks table : List (List ℕ × PartId)) → IsUnique table → IsUnique (with_pairs ks table)
table_unique [] table u = u
table_unique (k ∷ ks) table u = table_unique ks (with_pair k table) (one_unique k table u)

-- more keys make a table longer
pub all_longer : (ks table : List (List ℕ × PartId)) → length table ≤ length (with_pairs ks table)
all_longer [] table = omega arith
all_longer (k ∷ ks) table = omega (arith, longer k table, all_longer ks (with_pair k table))

-- a key that is there stays there
pub stays_there : (a : List ℕ × PartId) (ks table : List (List ℕ × PartId)) → IsThere table a → IsThere (with_pairs ks table) a
stays_there a ks table l = omega (arith, l, all_kept a ks table l, all_longer ks table)

-- a key that comes is there then
pub arrives : (a : List ℕ × PartId) (table : List (List ℕ × PartId)) → IsThere (with_pair a table) a
arrives a table = omega (arith, placed a table, there a table)

-- each key is there
pub table_has : (ks table : List (List ℕ × PartId)) → Each (IsThere (with_pairs ks table)) ks
table_has [] table = tt
table_has (k ∷ ks) table = (stays_there k ks (with_pair k table) (arrives k table), table_has ks (with_pair k table))
