-- Bytes without a certain byte, and the one place at which a byte parts them.
use Rattle.std.proofs.Common.{List, [], false, not, refl, true, ℕ, ◌++◌, ◌+◌, ◌==◌, ◌∙◌, ◌∷◌, ◌≡◌}
use Rattle.str_base.proofs.Tests.{not_other_self, other_by_test}
use Rattle.std.proofs.lemmas.Bool.{and_from, and_parts}
use Rattle.std.proofs.lemmas.List.Folds.{list_all-append}
use Rattle.std.specs.List.{list_all}
use Rattle.str_scene.specs.SceneLimits.{in_name, is_letter, is_name}
use Rattle.str_scene.specs.Lists.{is_without}

-- what is in neither part is not in both
pub is_without-append : (c : ℕ) (xs ys : List ℕ) → is_without c xs ≡ true → is_without c ys ≡ true → is_without c (xs ++ ys) ≡ true
is_without-append c xs ys e f = list_all-append (λ b. not (b == c)) xs ys ∙ and_from _ _ e f

-- a byte that stands in the list is in it
pub is_without-here : (c : ℕ) (xs ys : List ℕ) → is_without c (xs ++ c ∷ ys) ≡ true → ⊥
is_without-here c [] ys e = not_other_self c (and_parts _ _ e).0
is_without-here c (x ∷ xs) ys e = is_without-here c xs ys (and_parts _ _ e).1

-- a list has one part before the first of a byte, and one after it
pub split_unique : (c : ℕ) (xs ys us vs : List ℕ) → is_without c xs ≡ true → is_without c us ≡ true → xs ++ c ∷ ys ≡ us ++ c ∷ vs → (xs ≡ us) × (ys ≡ vs)
split_unique c [] ys [] vs a b e = (refl, cc)
split_unique c [] ys (u ∷ us) vs a b e = let same : c ≡ u = cc in absurd (not_other_self c (rw (← same) at (and_parts (not (u == c)) (is_without c us) b).0))
split_unique c (x ∷ xs) ys [] vs a b e = let same : c ≡ x = cc in absurd (not_other_self c (rw (← same) at (and_parts (not (x == c)) (is_without c xs) a).0))
split_unique c (x ∷ xs) ys (u ∷ us) vs a b e =
    let rest : (xs ≡ us) × (ys ≡ vs) = split_unique c xs ys us vs (and_parts (not (x == c)) (is_without c xs) a).1 (and_parts (not (u == c)) (is_without c us) b).1 (cc) in
    let first : x ≡ u = cc in
    (cc (first, rest.0), rest.1)

-- a byte that may not stand in a name is in none
pub is_without-name : (c : ℕ) (name : List ℕ) → is_letter c ≡ false → in_name c ≡ false → is_name name ≡ true → is_without c name ≡ true
is_without-name c [] no_letter no_follow e = absurd (cc)
is_without-name c (b ∷ bs) no_letter no_follow e =
    and_from _ _ (other_by_test is_letter b c (and_parts _ _ e).0 no_letter) (rest bs (and_parts _ _ (and_parts _ _ e).1).0)
  where
    rest : (cs : List ℕ) → list_all in_name cs ≡ true → is_without c cs ≡ true
    rest [] h = refl
    rest (d ∷ ds) h = and_from _ _ (other_by_test in_name d c (and_parts _ _ h).0 no_follow) (rest ds (and_parts _ _ h).1)
