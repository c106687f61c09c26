-- Texts of a list are found by their numbers.
use Rattle.std.proofs.Common.{Bool, List, None, Option, Some, [], ap, arith, cond, false, if◌then◌else◌, length, map, refl, slice_get, subst, suc, sym, true, zero, ℕ, ◌+◌, ◌<◌, ◌∙◌, ◌∷◌, ◌≡◌, ◌≢◌, ◌≤◌, ◌⊎◌, inl, inr}
use Rattle.std.proofs.lemmas.Bool.{cases_lt}
use Rattle.std.proofs.lemmas.Option.{none-some, same_Some, slice_get_within}
use Rattle.std.proofs.lemmas.Slice.Eq.{bytes_eq-Decides}
use Rattle.std.specs.Map.{lookup}
use Rattle.std.specs.Str.{bytes_eq}
use Rattle.history_reading.specs.Places.{ArePlaces, place_in}
use Rattle.indexmap.specs.IndexMap.{insert_entry}

-- ---- the entries of a map by the bytes of their keys

-- keys with their bytes
abbrev pub by_bytes : {K : Type 0} → (K → List ℕ) → List (K × ℕ) → List (List ℕ × ℕ)
by_bytes items es = map (λ e. (items e.0, e.1)) es

pub found_same : {K : Type 0} (items : K → List ℕ) (test : K → Bool) (q : List ℕ) → ((k : K) → test k ≡ bytes_eq q (items k)) → (es : List (K × ℕ)) → lookup test es ≡ place_in (by_bytes items es) q
found_same items test q h [] = refl
found_same items test q h (e ∷ es) = λ i. cond (h e.0 i) (Some e.1) (found_same items test q h es i)

pub put_same : {K : Type 0} (items : K → List ℕ) (eq : K → K → Bool) (k : K) (v : ℕ) → ((l : K) → eq k l ≡ bytes_eq (items k) (items l)) → (es : List (K × ℕ)) →
    by_bytes items (insert_entry eq es k v) ≡ insert_entry bytes_eq (by_bytes items es) (items k) v
put_same items eq k v h [] = refl
put_same items eq k v h (e ∷ es) = by (put_same items eq k v h es) (eq k e.0) (bytes_eq (items k) (items e.0)) (h e.0)
  where
    by : by_bytes items (insert_entry eq es k v) ≡ insert_entry bytes_eq (by_bytes items es) (items k) v → (s t : Bool) → s ≡ t → by_bytes items (if s then (e.0, v) ∷ es else e ∷ insert_entry eq es k v) ≡ (if t then (items e.0, v) ∷ by_bytes items es else (items e.0, e.1) ∷ insert_entry bytes_eq (by_bytes items es) (items k) v)
    by rest true true p = refl
    by rest false false p = ap (λ xs. (items e.0, e.1) ∷ xs) rest
    by rest true false p = absurd (cc)
    by rest false true p = absurd (cc)

-- ---- with one more text

same_bytes : (a b : List ℕ) → bytes_eq a b ≡ true → a ≡ b
same_bytes a b e = (bytes_eq-Decides a b).0 e

bytes_same : (a b : List ℕ) → a ≡ b → bytes_eq a b ≡ true
bytes_same a b e = (bytes_eq-Decides a b).1 e

pub found_put : (ps : List (List ℕ × ℕ)) (k q : List ℕ) (v : ℕ) → place_in (insert_entry bytes_eq ps k v) q ≡ cond (bytes_eq q k) (Some v) (place_in ps q)
found_put [] k q v = refl
found_put (e ∷ ps) k q v = by (found_put ps k q v) (bytes_eq k e.0) refl
  where
    by : place_in (insert_entry bytes_eq ps k v) q ≡ cond (bytes_eq q k) (Some v) (place_in ps q) → (t : Bool) → bytes_eq k e.0 ≡ t → place_in (if t then (e.0, v) ∷ ps else e ∷ insert_entry bytes_eq ps k v) q ≡ cond (bytes_eq q k) (Some v) (cond (bytes_eq q e.0) (Some e.1) (place_in ps q))
    by rest true p = here (bytes_eq q e.0) (bytes_eq q k) (ap (bytes_eq q) (sym (same_bytes k e.0 p)))
      where
        here : (s t : Bool) → s ≡ t → cond s (Some v) (place_in ps q) ≡ cond t (Some v) (cond s (Some e.1) (place_in ps q))
        here true true h = refl
        here false false h = refl
        here true false h = absurd (cc)
        here false true h = absurd (cc)
    by rest false p = subst (λ x. cond (bytes_eq q e.0) (Some e.1) x ≡ cond (bytes_eq q k) (Some v) (cond (bytes_eq q e.0) (Some e.1) (place_in ps q))) (sym rest) (there (bytes_eq q e.0) (bytes_eq q k) refl refl)
      where
        there : (s t : Bool) → bytes_eq q e.0 ≡ s → bytes_eq q k ≡ t → cond s (Some e.1) (cond t (Some v) (place_in ps q)) ≡ cond t (Some v) (cond s (Some e.1) (place_in ps q))
        there false false f g = refl
        there false true f g = refl
        there true false f g = refl
        there true true f g = let both : bytes_eq k e.0 ≡ true = bytes_same k e.0 (sym (same_bytes q k g) ∙ same_bytes q e.0 f) in absurd (cc)

-- ---- the first texts of a list

pub record ArePlacesTo (texts : List (List ℕ)) (n : ℕ) (places : List (List ℕ × ℕ)) : Type 0 where
  pub stands : (text : List ℕ) (i : ℕ) → place_in places text ≡ Some i → (i < n) × (slice_get texts i ≡ Some text)
  pub found : (i : ℕ) (text : List ℕ) → i < n → slice_get texts i ≡ Some text → place_in places text ≢ None

pub no_places : (texts : List (List ℕ)) → ArePlacesTo texts 0 []
no_places texts = record { stands = λ text i e. absurd (none-some _ e); found = λ i text l e h. absurd (omega arith) }

pub one_place : (texts : List (List ℕ)) (n : ℕ) (ps : List (List ℕ × ℕ)) (k : List ℕ) → ArePlacesTo texts n ps → slice_get texts n ≡ Some k → ArePlacesTo texts (n + 1) (insert_entry bytes_eq ps k n)
one_place texts n ps k p at = record { stands = λ text i e. stands text i (bytes_eq text k) refl (sym (found_put ps k text n) ∙ e); found = λ i text l e h. found i text l e (sym (found_put ps k text n) ∙ h) }
  where
    stands : (text : List ℕ) (i : ℕ) (t : Bool) → bytes_eq text k ≡ t → cond t (Some n) (place_in ps text) ≡ Some i → (i < n + 1) × (slice_get texts i ≡ Some text)
    stands text i true f e =
        let same : n ≡ i = same_Some _ _ e in
        (omega arith, subst (λ j. slice_get texts j ≡ Some text) same (at ∙ ap Some (sym (same_bytes text k f))))
    stands text i false f e = let old = p.stands text i e in (omega (arith, old.0), old.1)

    found : (i : ℕ) (text : List ℕ) → i < n + 1 → slice_get texts i ≡ Some text → cond (bytes_eq text k) (Some n) (place_in ps text) ≡ None → ⊥
    found i text l e h = by (bytes_eq text k) refl h (cases_lt i n)
      where
        by : (t : Bool) → bytes_eq text k ≡ t → cond t (Some n) (place_in ps text) ≡ None → ((i < n) ⊎ (n ≤ i)) → ⊥
        by true f g c = none-some _ (sym g)
        by false f g (inl c) = p.found i text c e g
        by false f g (inr c) =
            let same : i ≡ n = omega arith in
            let text_is : Some text ≡ Some k = sym e ∙ (ap (slice_get texts) same ∙ at) in
            let here : bytes_eq text k ≡ true = bytes_same text k (same_Some _ _ text_is) in
            absurd (cc)

pub all_places : (texts : List (List ℕ)) (n : ℕ) (ps : List (List ℕ × ℕ)) → length texts ≤ n → ArePlacesTo texts n ps → ArePlaces texts ps
all_places texts n ps l p = record { stands = λ text i e. (p.stands text i e).1; found = λ i text e. p.found i text (omega (arith, slice_get_within texts i text e)) e }

-- ---- the texts of a table

pub at_map : {A : Type 0} (g : Option A → List ℕ) (xs : List A) (n : ℕ) → n < length xs → slice_get (map (λ a. g (Some a)) xs) n ≡ Some (g (slice_get xs n))
at_map g [] n l = absurd (omega arith)
at_map g (x ∷ xs) zero l = refl
at_map g (x ∷ xs) (suc n) l = at_map g xs n (omega arith)

pub from_map : {A B : Type 0} (f : A → B) (xs : List A) (n : ℕ) (y : B) → slice_get (map f xs) n ≡ Some y → (x : A) × (slice_get xs n ≡ Some x) × (f x ≡ y) × (n < length xs)
from_map f [] n y e = absurd (cc)
from_map f (x ∷ xs) zero y e = let same : f x ≡ y = cc in (x, refl, same, omega arith)
from_map f (x ∷ xs) (suc n) y e = let rest = from_map f xs n y e in (rest.0, rest.1, rest.2, omega (arith, rest.3))
