-- Bytes parted at a byte, and at a prefix.
use Rattle.std.proofs.Common.{Bool, Bor, IfSome, IsNone, List, MatchOption, None, Option, Some, [], add-one, ap, append_assoc, arith, drop, drop-cons, eqb, false, get_or, length, refl, sym, take, true, ℕ, ◌++◌, ◌+◌, ◌<◌, ◌==◌, ◌∙◌, ◌∷◌, ◌≡◌, ◌≤◌}
use Rattle.std.proofs.lemmas.Bool.{and_from}
use Rattle.std.proofs.lemmas.Bool.Decides.{Decides-eqb, nat_tests}
use Rattle.std.proofs.lemmas.List.Edits.{between_more}
use Rattle.std.proofs.lemmas.List.Folds.{drop_split}
use Rattle.std.proofs.lemmas.List.{append_cancel_right, take-append-drop}
use Rattle.std.proofs.lemmas.Option.{get_or_from_slice_get, slice_get_within}
use Rattle.std.proofs.lemmas.Slice.Eq.{strip_prefix_is}
use Rattle.std.specs.Cmp.Lexicographic.{pointwise}
use Rattle.std.specs.List.{slice_get, slice_range}
use Rattle.str_scene.specs.SceneLimits.{is_name}
use Rattle.scene_text.specs.LineReading.{is_without}
use Rattle.str_scene.proofs.Without.{is_without-append}

-- one more byte of a range
pub is_without_more : (c : ℕ) (xs : List ℕ) (from i : ℕ) → from ≤ i → i < length xs → ¬ (get_or xs i 0 ≡ c) → is_without c (slice_range xs from i) ≡ true → is_without c (slice_range xs from (i + 1)) ≡ true
is_without_more c xs from i low high other before =
    rw (between_more xs from i 0 low high) (is_without-append c _ _ before (and_from _ _ (grind (arith, nat_tests)) refl))

-- the bytes from a place on, parted at a later place
pub drop_parted : (xs : List ℕ) (from i b : ℕ) → from ≤ i → slice_get xs i ≡ Some b → drop from xs ≡ slice_range xs from i ++ b ∷ drop (i + 1) xs
drop_parted xs from i b low is =
    let high : i < length xs = slice_get_within xs i b is in
    let here : drop i xs ≡ b ∷ drop (i + 1) xs = rw (add-one, drop-cons xs i 0 high, get_or_from_slice_get xs i b 0 is) refl in
    drop_split xs from i low ∙ ap (λ bytes. slice_range xs from i ++ bytes) here

-- the bytes up to a place, and then those up to a later place and the byte there
pub take_parted : (xs : List ℕ) (from i b : ℕ) → from ≤ i → slice_get xs i ≡ Some b → take (i + 1) xs ≡ take from xs ++ (slice_range xs from i ++ b ∷ [])
take_parted xs from i b low is =
    append_cancel_right (take (i + 1) xs) (take from xs ++ (slice_range xs from i ++ b ∷ [])) (drop (i + 1) xs)
    (take-append-drop (i + 1) xs ∙ sym (append_assoc (take from xs) (slice_range xs from i ++ b ∷ []) (drop (i + 1) xs)
    ∙ (ap (λ bytes. take from xs ++ bytes) (append_assoc (slice_range xs from i) (b ∷ []) (drop (i + 1) xs) ∙ sym (drop_parted xs from i b low is))
    ∙ take-append-drop from xs)))

-- the same where there may be no such place
pub take_parted_some : (xs : List ℕ) (from b : ℕ) (r : Option ℕ) → IfSome r (λ i. from ≤ i) → IfSome r (λ i. slice_get xs i ≡ Some b) → IfSome r (λ i. take (i + 1) xs ≡ take from xs ++ (slice_range xs from i ++ b ∷ []))
take_parted_some xs from b None low is = tt
take_parted_some xs from b (Some i) low is = take_parted xs from i b low is

-- what `strip_prefix` gives
pub stripped : (s p : List ℕ) (r : Option (Bor (List ℕ))) → MatchOption r (pointwise eqb (take (length p) s) p ≡ false) (λ x. (pointwise eqb (take (length p) s) p ≡ true) × (x.now ≡ drop (length p) s) × (length x.now + length p ≡ length s)) → IfSome r (λ rest. s ≡ p ++ rest.now)
stripped s p None h = tt
stripped s p (Some x) h = strip_prefix_is Decides-eqb s p (Some x) h

-- where it gives nothing
pub not_stripped : (s p : List ℕ) (r : Option (Bor (List ℕ))) → MatchOption r (pointwise eqb (take (length p) s) p ≡ false) (λ x. (pointwise eqb (take (length p) s) p ≡ true) × (x.now ≡ drop (length p) s) × (length x.now + length p ≡ length s)) → IsNone r → (rest : List ℕ) → ¬ (s ≡ p ++ rest)
not_stripped s p None h is = strip_prefix_is Decides-eqb s p None h
not_stripped s p (Some x) h is = absurd (cc)

-- bytes that are not empty
pub not_empty : (xs : List ℕ) (r : Bool) → r ≡ (length xs == 0) → r ≡ false → xs ≡ [] → ⊥
not_empty xs r e f g = let h : (length xs == 0) ≡ true = ap (λ ys. length ys == 0) g in absurd (cc)

-- bytes are a name or not
pub one_answer : (a name : List ℕ) → a ≡ name → is_name name ≡ true → is_name a ≡ false → ⊥
one_answer a name same named unnamed = absurd (cc (ap is_name same))
