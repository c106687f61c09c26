-- A key keeps its place in a table that gets more keys.
use Rattle.std.proofs.Common.{Bool, List, [], ap, arith, cond, false, length, refl, suc, sym, true, ℕ, ◌++◌, ◌<◌, ◌∙◌, ◌∷◌, ◌≡◌, ◌≤◌}
use Rattle.scene_gen.specs.Made.{with_pairs}
use Rattle.str_base.specs.declared.names.PartId.{PartId}
use Rattle.str_scene.specs.KeyLaws.{same_pair_self}
use Rattle.str_scene.specs.Keys.{place_of, same_pair, with_pair}

-- a table with one more key is as long, or longer
pub longer : (b : List ℕ × PartId) (table : List (List ℕ × PartId)) → length table ≤ length (with_pair b table)
longer b [] = omega arith
longer b (c ∷ cs) = by (same_pair b c) (longer b cs)
  where
    by : (v : Bool) → length cs ≤ length (with_pair b cs) → suc (length cs) ≤ length (cond v (c ∷ cs) (c ∷ with_pair b cs))
    by true m = omega arith
    by false m = omega arith

-- a key that is there keeps its place
kept : (a b : List ℕ × PartId) (table : List (List ℕ × PartId)) → place_of a table < length table → place_of a (with_pair b table) ≡ place_of a table
kept a b [] l = absurd (omega arith)
kept a b (c ∷ cs) l = by (same_pair b c) (λ m. kept a b cs m)
  where
    rest : (v : Bool) → (place_of a cs < length cs → place_of a (with_pair b cs) ≡ place_of a cs) → cond v 0 (suc (place_of a cs)) < suc (length cs) →
        cond v 0 (suc (place_of a (with_pair b cs))) ≡ cond v 0 (suc (place_of a cs))
    rest true h m = refl
    rest false h m = ap suc (h (omega arith))

    by : (v : Bool) → (place_of a cs < length cs → place_of a (with_pair b cs) ≡ place_of a cs) →
        place_of a (cond v (c ∷ cs) (c ∷ with_pair b cs)) ≡ place_of a (c ∷ cs)
    by true h = refl
    by false h = rest (same_pair a c) h l

-- a key comes to its place
pub placed : (a : List ℕ × PartId) (table : List (List ℕ × PartId)) → place_of a (with_pair a table) ≡ place_of a table
placed a [] = rw (same_pair_self a a refl) refl
placed a (c ∷ cs) = by (same_pair a c) refl (placed a cs)
  where
    by : (v : Bool) → same_pair a c ≡ v → place_of a (with_pair a cs) ≡ place_of a cs →
        place_of a (cond v (c ∷ cs) (c ∷ with_pair a cs)) ≡ cond v 0 (suc (place_of a cs))
    by true e h = rw e refl
    by false e h = rw e (ap suc h)

-- and is there then
pub there : (a : List ℕ × PartId) (table : List (List ℕ × PartId)) → place_of a table < length (with_pair a table)
there a [] = omega arith
there a (c ∷ cs) = by (same_pair a c) (there a cs)
  where
    by : (v : Bool) → place_of a cs < length (with_pair a cs) → cond v 0 (suc (place_of a cs)) < length (cond v (c ∷ cs) (c ∷ with_pair a cs))
    by true m = omega arith
    by false m = omega arith

-- a key that is there keeps its place while more keys come
pub all_kept : (a : List ℕ × PartId) (ks table : List (List ℕ × PartId)) → place_of a table < length table → place_of a (with_pairs ks table) ≡ place_of a table
all_kept a [] table l = refl
all_kept a (k ∷ ks) table l =
    let same = kept a k table l in
    all_kept a ks (with_pair k table) (omega (arith, same, longer k table)) ∙ same

-- the place to which a key comes is the one that it has at the end
pub place_stays : (a : List ℕ × PartId) (ks table : List (List ℕ × PartId)) → place_of a table ≡ place_of a (with_pairs ks (with_pair a table))
place_stays a ks table =
    let same = placed a table in
    sym (all_kept a ks (with_pair a table) (omega (arith, same, there a table)) ∙ same)

-- keys in two parts
pub with_both : (xs ys table : List (List ℕ × PartId)) → with_pairs (xs ++ ys) table ≡ with_pairs ys (with_pairs xs table)
with_both [] ys table = refl
with_both (x ∷ xs) ys table = with_both xs ys (with_pair x table)
