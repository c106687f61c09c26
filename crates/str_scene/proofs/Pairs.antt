-- Where a key stands in a table.
use Rattle.std.proofs.Common.{◌≡◌, ◌≤◌, ◌<◌, ◌++◌, ◌∷◌, ◌⊎◌, inl, inr, [], ℕ, List, Some, None, length, length-append, nat_le, refl, ap, arith, slice_get, suc, zero, Bool, true, false, cond}
use Rattle.str_scene.specs.KeyLaws.{same_pair_self, same_pair_true}
use Rattle.str_base.specs.declared.limits.TheConstants.{KEYS}
use Rattle.std.proofs.lemmas.Bool.Decides.{nat_tests}
use Rattle.str_base.specs.declared.names.PartId.{PartId}
use Rattle.str_scene.specs.Keys.{number_of, place_of, same_pair, with_pair}

-- what the place of a key tells of the table with it
abbrev PlaceFacts : List ℕ × PartId → List (List ℕ × PartId) → Type 0
PlaceFacts a bs = (place_of a bs ≤ length bs) × (place_of a bs < length bs → with_pair a bs ≡ bs) × (place_of a bs ≡ length bs → with_pair a bs ≡ bs ++ a ∷ [])

-- one key more at the front
place_more : (a b : List ℕ × PartId) (bs : List (List ℕ × PartId)) (same : Bool) → PlaceFacts a bs →
    (cond same 0 (suc (place_of a bs)) ≤ suc (length bs)) × (cond same 0 (suc (place_of a bs)) < suc (length bs) → cond same (b ∷ bs) (b ∷ with_pair a bs) ≡ b ∷ bs) × (cond same 0 (suc (place_of a bs)) ≡ suc (length bs) → cond same (b ∷ bs) (b ∷ with_pair a bs) ≡ b ∷ (bs ++ a ∷ []))
place_more a b bs true h = (omega arith, λ _. refl, λ e. cc)
place_more a b bs false h = (omega (arith, h.0), λ l. ap (λ xs. b ∷ xs) (h.1 (omega arith)), λ e. ap (λ xs. b ∷ xs) (h.2 (omega arith)))

-- the place is within the table, which then stays, or is its length, and the key comes at the end
pub place_facts : (a : List ℕ × PartId) (bs : List (List ℕ × PartId)) → PlaceFacts a bs
place_facts a [] = (omega arith, λ l. absurd (omega arith), λ _. refl)
place_facts a (b ∷ bs) = place_more a b bs (same_pair a b) (place_facts a bs)

-- a key that is there has its place as its number
pub there : (a : List ℕ × PartId) (bs : List (List ℕ × PartId)) (n : ℕ) → n ≡ place_of a bs → n < length bs → length bs ≤ KEYS →
    (number_of a bs ≡ Some (record { 0 = n })) × (with_pair a bs ≡ bs)
there a bs n e l h =
    let same : with_pair a bs ≡ bs = (place_facts a bs).1 (omega arith) in
    let few : nat_le (length (with_pair a bs)) KEYS ≡ true = rw same (grind (arith, nat_tests)) in
    (rw (few, ← e) refl, same)

-- a key that is not there comes at the end, where there is room
pub added : (a : List ℕ × PartId) (bs : List (List ℕ × PartId)) (n : ℕ) → n ≡ place_of a bs → length bs ≤ n → n < KEYS →
    (number_of a bs ≡ Some (record { 0 = n })) × (with_pair a bs ≡ bs ++ a ∷ [])
added a bs n e l h =
    let facts = place_facts a bs in
    let more : with_pair a bs ≡ bs ++ a ∷ [] = facts.2 (omega arith) in
    let few : nat_le (length (with_pair a bs)) KEYS ≡ true = rw (more, length-append) (grind (arith, nat_tests)) in
    (rw (few, ← e) refl, more)

-- and has no number where there is none
pub refused : (a : List ℕ × PartId) (bs : List (List ℕ × PartId)) (n : ℕ) → n ≡ place_of a bs → length bs ≤ n → KEYS ≤ n → number_of a bs ≡ None
refused a bs n e l h =
    let facts = place_facts a bs in
    let more : with_pair a bs ≡ bs ++ a ∷ [] = facts.2 (omega arith) in
    let many : nat_le (length (with_pair a bs)) KEYS ≡ false = rw (more, length-append) (grind (arith, nat_tests)) in
    rw many refl

-- a key is in its place, and the table stays, or it is not there, and comes at the end
abbrev pub Interned : List ℕ × PartId → List (List ℕ × PartId) → Type 0
Interned a bs =
    ((slice_get bs (place_of a bs) ≡ Some a) × (with_pair a bs ≡ bs))
    ⊎ ((place_of a bs ≡ length bs) × (with_pair a bs ≡ bs ++ a ∷ []) × ((i : ℕ) → slice_get bs i ≡ Some a → ⊥))

-- one key more at the front
interned_more : (a b : List ℕ × PartId) (bs : List (List ℕ × PartId)) (same : Bool) → same_pair a b ≡ same → Interned a bs →
    ((slice_get (b ∷ bs) (cond same 0 (suc (place_of a bs))) ≡ Some a) × (cond same (b ∷ bs) (b ∷ with_pair a bs) ≡ b ∷ bs))
    ⊎ ((cond same 0 (suc (place_of a bs)) ≡ suc (length bs)) × (cond same (b ∷ bs) (b ∷ with_pair a bs) ≡ b ∷ (bs ++ a ∷ [])) × ((i : ℕ) → slice_get (b ∷ bs) i ≡ Some a → ⊥))
interned_more a b bs true e h = inl (ap Some (same_pair_true a b e), refl)
interned_more a b bs false e (inl h) = inl (h.0, ap (λ xs. b ∷ xs) h.1)
interned_more a b bs false e (inr h) = inr (ap suc h.0, ap (λ xs. b ∷ xs) h.1, not_there)
  where
    not_there : (i : ℕ) → slice_get (b ∷ bs) i ≡ Some a → ⊥
    not_there zero f = let same : same_pair a b ≡ true = same_pair_self a b cc in cc
    not_there (suc i) f = h.2 i f

-- each key is in its place, or comes at the end
pub interned : (a : List ℕ × PartId) (bs : List (List ℕ × PartId)) → Interned a bs
interned a [] = inr (refl, refl, λ i e. none_there i e)
  where
    none_there : (i : ℕ) → slice_get {X = List ℕ × PartId} [] i ≡ Some a → ⊥
    none_there i e = cc
interned a (b ∷ bs) = interned_more a b bs (same_pair a b) refl (interned a bs)
