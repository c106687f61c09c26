-- How the numbers of keys come in order.
use Rattle.std.proofs.Common.{Bool, List, None, Option, Some, [], arith, cond, eqb, false, ltb, refl, sym, true, ℕ, ◌++◌, ◌+◌, ◌<◌, ◌≤◌, ◌∷◌, ◌≡◌, ◌⊎◌, inl, inr, suc, ◌∙◌}
use Rattle.std.specs.Prelude.{option_and_then}
use Rattle.std.proofs.lemmas.Bool.Decides.{eqb_tells, leb_tells, nat_tests}
use Rattle.str_scene.specs.SceneLimits.{counted}

-- of two lists in a row
pub counted-append : (n : ℕ) (xs ys : List ℕ) → counted n (xs ++ ys) ≡ option_and_then (λ m. counted m ys) (counted n xs)
counted-append n [] ys = refl
counted-append n (x ∷ xs) ys =
    counted_step (ltb x n) (eqb x n) (counted-append n xs ys) (counted-append (n + 1) xs ys)
  where
    counted_step : (b c : Bool) → counted n (xs ++ ys) ≡ option_and_then (λ m. counted m ys) (counted n xs) →
        counted (n + 1) (xs ++ ys) ≡ option_and_then (λ m. counted m ys) (counted (n + 1) xs) →
        cond b (counted n (xs ++ ys)) (cond c (counted (n + 1) (xs ++ ys)) None) ≡ option_and_then (λ m. counted m ys) (cond b (counted n xs) (cond c (counted (n + 1) xs) None))
    counted_step true c p q = p
    counted_step false true p q = q
    counted_step false false p q = refl

-- a number that has been seen
pub counted_old : (n m : ℕ) (ms : List ℕ) → m < n → counted n (m ∷ ms) ≡ counted n ms
counted_old n m ms l = let seen : ltb m n ≡ true = grind (arith, nat_tests) in rw seen refl

-- the next number
pub counted_next : (n m : ℕ) (ms : List ℕ) → m ≡ n → counted n (m ∷ ms) ≡ counted (n + 1) ms
counted_next n m ms e =
    let new : ltb m n ≡ false = grind (arith, nat_tests) in
    let same : eqb m n ≡ true = grind (arith, nat_tests) in
    rw (new, same) refl

-- what the head of a list that counts is
pub counted_cases : (n m k : ℕ) (ms : List ℕ) → counted n (m ∷ ms) ≡ Some k → ((m < n) × (counted n ms ≡ Some k)) ⊎ ((m ≡ n) × (counted (n + 1) ms ≡ Some k))
counted_cases n m k ms e =
    elim (leb_tells (suc m) n) [ inl t ↦ inl (omega (arith, t.1), sym (counted_old n m ms (omega (arith, t.1))) ∙ e) | inr t ↦ elim (eqb_tells m n) [ inl u ↦ inr (u.1, sym (counted_next n m ms u.1) ∙ e) | inr u ↦ absurd (none_from (ltb m n) (eqb m n) _ _ k t.0 u.0 e) ] ]
  where
    none_from : (b c : Bool) (x y : Option ℕ) (k : ℕ) → b ≡ false → c ≡ false → cond b x (cond c y None) ≡ Some k → ⊥
    none_from b c x y k p q e = let r : None ≡ Some k = rw (p, q) at e in cc

-- the count does not fall
pub counted_grows : (n k : ℕ) (ms : List ℕ) → counted n ms ≡ Some k → n ≤ k
counted_grows n k [] e = let same : n ≡ k = cc in omega arith
counted_grows n k (m ∷ ms) e =
    elim (counted_cases n m k ms e) [ inl h ↦ counted_grows n k ms h.1 | inr h ↦ (let more : n + 1 ≤ k = counted_grows (n + 1) k ms h.1 in omega arith) ]
