-- A test of each item of a list, from one on.
use Rattle.std.proofs.Common.{Bool, List, Some, ap, arith, drop, false, length, slice_get, suc, sym, true, ℕ, ◌&&◌, ◌+◌, ◌∙◌, ◌≡◌, ◌≤◌, ◌||◌}
use Rattle.std.proofs.lemmas.List.{at_drop_all}
use Rattle.std.specs.List.{list_all, list_any}
use Rattle.str_base.proofs.Lists.{drop_there}

-- ---- all

all_at : {A : Type 0} (p : A → Bool) (xs : List A) (i : ℕ) (x : A) → slice_get xs i ≡ Some x → list_all p (drop i xs) ≡ (p x && list_all p (drop (i + 1) xs))
all_at p xs i x g =
    let next : suc i ≡ i + 1 = omega arith in
    ap (list_all p) (drop_there xs i x g) ∙ ap (λ j. p x && list_all p (drop j xs)) next

pub all_next : {A : Type 0} (p : A → Bool) (xs : List A) (i : ℕ) (x : A) → slice_get xs i ≡ Some x → p x ≡ true → list_all p (drop i xs) ≡ list_all p xs
    → list_all p (drop (i + 1) xs) ≡ list_all p xs
all_next p xs i x g e h = sym (ap (λ b. b && list_all p (drop (i + 1) xs)) e) ∙ (sym (all_at p xs i x g) ∙ h)

pub all_fails : {A : Type 0} (p : A → Bool) (xs : List A) (i : ℕ) (x : A) → slice_get xs i ≡ Some x → p x ≡ false → list_all p (drop i xs) ≡ list_all p xs → false ≡ list_all p xs
all_fails p xs i x g e h = sym (ap (λ b. b && list_all p (drop (i + 1) xs)) e) ∙ (sym (all_at p xs i x g) ∙ h)

pub all_end : {A : Type 0} (p : A → Bool) (xs : List A) (i : ℕ) → length xs ≤ i → list_all p (drop i xs) ≡ list_all p xs → true ≡ list_all p xs
all_end p xs i l h = sym (at_drop_all (list_all p) xs i l) ∙ h

-- ---- any

any_at : {A : Type 0} (p : A → Bool) (xs : List A) (i : ℕ) (x : A) → slice_get xs i ≡ Some x → list_any p (drop i xs) ≡ (p x || list_any p (drop (i + 1) xs))
any_at p xs i x g =
    let next : suc i ≡ i + 1 = omega arith in
    ap (list_any p) (drop_there xs i x g) ∙ ap (λ j. p x || list_any p (drop j xs)) next

pub any_next : {A : Type 0} (p : A → Bool) (xs : List A) (i : ℕ) (x : A) → slice_get xs i ≡ Some x → p x ≡ false → list_any p (drop i xs) ≡ list_any p xs
    → list_any p (drop (i + 1) xs) ≡ list_any p xs
any_next p xs i x g e h = sym (ap (λ b. b || list_any p (drop (i + 1) xs)) e) ∙ (sym (any_at p xs i x g) ∙ h)

pub any_here : {A : Type 0} (p : A → Bool) (xs : List A) (i : ℕ) (x : A) → slice_get xs i ≡ Some x → p x ≡ true → list_any p (drop i xs) ≡ list_any p xs → true ≡ list_any p xs
any_here p xs i x g e h = sym (ap (λ b. b || list_any p (drop (i + 1) xs)) e) ∙ (sym (any_at p xs i x g) ∙ h)

pub any_end : {A : Type 0} (p : A → Bool) (xs : List A) (i : ℕ) → length xs ≤ i → list_any p (drop i xs) ≡ list_any p xs → false ≡ list_any p xs
any_end p xs i l h = sym (at_drop_all (list_any p) xs i l) ∙ h
