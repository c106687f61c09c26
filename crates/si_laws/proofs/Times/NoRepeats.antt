-- Lists without repeats, and how long they are.
use Rattle.std.proofs.Common.{Bool, List, Some, [], ap, arith, filter, inl, inr, length, map, refl, slice_get, subst, suc, sym, zero, ℕ, ◌++◌, ◌+◌, ◌∙◌, ◌∷◌, ◌≡◌, ◌≤◌, ◌⊎◌}
use Rattle.std.specs.List.{range_with_len}
use Rattle.str_model.proofs.ListFacts.{in_range}
use Rattle.str_model.proofs.Changes.SnapshotsGain.{if_elim}
use Rattle.str_base.proofs.Members.{at_in, in_append, in_filter, in_map}
use Rattle.str_base.specs.Members.{In}

-- nothing stands twice
abbrev pub Once : {A : Type 0} → List A → Type 0
Once [] = Unit {0}
Once (x ∷ xs) = (In x xs → ⊥) × Once xs

take_out : {A : Type 0} (x : A) (ys : List A) → In x ys → (zs : List A) × (length ys ≡ suc (length zs)) × ((y : A) → In y ys → (x ≡ y) ⊎ In y zs)
take_out x [] h = absurd h
take_out x (y ∷ ys) (inl e) = (ys, refl, λ z k. elim k [ inl q ↦ inl (sym e ∙ q) | inr j ↦ inr j ])
take_out x (y ∷ ys) (inr h) =
    let r = take_out x ys h in
    (y ∷ r.0, ap suc r.1, λ z k. elim k [ inl q ↦ inr (inl q) | inr j ↦ (elim (r.2 z j) [ inl e ↦ inl e | inr i ↦ inr (inr i) ]) ])

-- what has no repeats and is all in another list is no longer than that
pub fits : {A : Type 0} (xs ys : List A) → Once xs → ((x : A) → In x xs → In x ys) → length xs ≤ length ys
fits [] ys o f = omega arith
fits {A = A} (x ∷ xs) ys o f =
    let r = take_out x ys (f x (inl refl)) in
    let rec = fits xs r.0 o.1 (λ z h. elim (r.2 z (f z (inr h))) [ inl e ↦ absurd (o.0 (subst (λ (y : A). In y xs) (sym e) h)) | inr k ↦ k ]) in
    omega (arith, rec, r.1)

pub map_length : {A B : Type 0} (f : A → B) (xs : List A) → length (map f xs) ≡ length xs
map_length f [] = refl
map_length f (x ∷ xs) = ap suc (map_length f xs)

pub once_append : {A : Type 0} (xs ys : List A) → Once xs → Once ys → ((z : A) → In z xs → In z ys → ⊥) → Once (xs ++ ys)
once_append [] ys o p f = p
once_append (x ∷ xs) ys o p f =
    (λ h. elim (in_append xs ys x h) [ inl k ↦ o.0 k | inr k ↦ f x (inl refl) k ], once_append xs ys o.1 p (λ z h k. f z (inr h) k))

pub once_push : {A : Type 0} (xs : List A) (x : A) → Once xs → (In x xs → ⊥) → Once (xs ++ x ∷ [])
once_push {A = A} xs x o f = once_append xs (x ∷ []) o (λ h. h, tt) (λ z h k. elim k [ inl e ↦ f (subst (λ (y : A). In y xs) (sym e) h) | inr j ↦ j ])

pub once_filter : {A : Type 0} (test : A → Bool) (xs : List A) → Once xs → Once (filter test xs)
once_filter test [] o = tt
once_filter test (x ∷ xs) o =
    if_elim (λ zs. Once zs) (test x) (x ∷ filter test xs) (filter test xs)
    (λ e. (λ h. o.0 (in_filter test xs x h).0, once_filter test xs o.1)) (λ e. once_filter test xs o.1)

pub once_map : {A B : Type 0} (f : A → B) (xs : List A) → ((x y : A) → f x ≡ f y → x ≡ y) → Once xs → Once (map f xs)
once_map f [] g o = tt
once_map {A = A} f (x ∷ xs) g o =
    (λ h. (let r = in_map f xs (f x) h in o.0 (subst (λ (y : A). In y xs) (g r.0 x r.2) r.1)), once_map f xs g o.1)

-- from places that are one
pub once_places : {A : Type 0} (xs : List A) → ((i j : ℕ) (x : A) → slice_get xs i ≡ Some x → slice_get xs j ≡ Some x → i ≡ j) → Once xs
once_places [] f = tt
once_places (x ∷ xs) f = (
  λ h. (let r = at_in xs x h in let e : 0 ≡ suc r.0 = f 0 (suc r.0) x refl r.1 in absurd (omega (arith, e))),
  once_places xs (λ i j y a b. (let e : suc i ≡ suc j = f (suc i) (suc j) y a b in omega (arith, e))),
)

pub once_range : (a n : ℕ) → Once (range_with_len a n)
once_range a zero = tt
once_range a (suc n) = (λ h. (let r = in_range (a + 1) n a h in absurd (omega (arith, r.0))), once_range (a + 1) n)
