-- Numbers in a row, the parts of a sum, and mapped options.
use Rattle.std.proofs.Common.{List, None, Option, Some, [], ap, arith, get_or, is_some, sum_by, inl, inr, refl, suc, sym, zero, ℕ, ◌++◌, ◌+◌, ◌<◌, ◌∙◌, ◌∷◌, ◌≡◌, ◌≢◌, ◌≤◌, ◌⊎◌}
use Rattle.std.proofs.lemmas.Option.{slice_get-get_or, slice_get_within}
use Rattle.std.proofs.lemmas.List.Sums.{get_or-le-sum_by}
use Rattle.std.proofs.lemmas.Bool.{cases_eq}
use Rattle.std.specs.List.{range_with_len}
use Rattle.std.specs.Prelude.{option_map}
use Rattle.str_base.specs.Members.{In}
use Rattle.str_scene.specs.Scenes.{nth}

above : (b c : ℕ) → b ≤ c → b ≢ c → b + 1 ≤ c
above b c l f = grind (arith, l, f)

-- a number in its range is a member of the list
pub range_in : (a n k : ℕ) → a ≤ k → k < a + n → In k (range_with_len a n)
range_in a zero k le less = absurd (omega (arith, le, less))
range_in a (suc n) k le less = by_first (cases_eq a k) (λ l. range_in (a + 1) n k l (omega (arith, less)))
  where
    by_first : (a ≡ k) ⊎ (a ≢ k) → (a + 1 ≤ k → In k (range_with_len (a + 1) n)) → (a ≡ k) ⊎ In k (range_with_len (a + 1) n)
    by_first (inl e) rec = inl e
    by_first (inr f) rec = inr (rec (above a k le f))

-- a member of the list is in its range
pub in_range : (a n k : ℕ) → In k (range_with_len a n) → (a ≤ k) × (k < a + n)
in_range a zero k h = absurd h
in_range a (suc n) k (inl e) = (omega (arith, e), omega (arith, e))
in_range a (suc n) k (inr h) = let r = in_range (a + 1) n k h in (omega (arith, r.0), omega (arith, r.1))

-- one number more
pub range_more : (a n : ℕ) → range_with_len a (n + 1) ≡ range_with_len a n ++ (a + n) ∷ []
range_more a zero = let e : a ≡ a + 0 = omega arith in ap (λ m. m ∷ []) e
range_more a (suc n) =
    let e : suc n + 1 ≡ suc (n + 1) = omega arith in
    let q : (a + 1) + n ≡ a + suc n = omega arith in
    ap (range_with_len a) e ∙ ap (λ l. a ∷ l) (range_more (a + 1) n ∙ ap (λ m. range_with_len (a + 1) n ++ m ∷ []) q)

-- a part of a sum is at most the sum
pub nth_sum : {X : Type 0} (f : X → ℕ) (xs : List X) (k : ℕ) (x : X) → nth xs k ≡ Some x → f x ≤ sum_by f xs
nth_sum f xs zero x e = absurd (cc e)
nth_sum f xs (suc i) x e =
    let l = slice_get_within xs i x e in
    let g : Some (get_or xs i x) ≡ Some x = sym (slice_get-get_or xs i x l) ∙ e in
    let q : f (get_or xs i x) ≡ f x = (let same : get_or xs i x ≡ x = cc g in ap f same) in
    let s = get_or-le-sum_by f xs i x l in omega (arith, q, s)

-- a mapped option is there where the option is
pub some_map : {A B : Type 0} (f : A → B) (o : Option A) → is_some (option_map f o) ≡ is_some o
some_map f None = refl
some_map f (Some x) = refl
