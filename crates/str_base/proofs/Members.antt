-- What is in a list that was made by an append, a map, a filter or an insertion of versions.
pub use Rattle.str_base.specs.Members.{In, In, In}
use Rattle.std.proofs.Common.{Bool, List, None, Some, [], ap, false, filter, find, flat_map, if◌then◌else◌, inl, inr, map, not, refl, slice_get, subst, suc, sym, true, zero, ℕ, ◌++◌, ◌∙◌, ◌∷◌, ◌≡◌, ◌⊎◌}
use Rattle.std.proofs.lemmas.Bool.{and_parts, or_right}
use Rattle.std.specs.List.{list_all, list_any}
use Rattle.str_base.specs.declared.names.Version.{Version}
use Rattle.str_base.specs.Versions.{insert_all, insert_version, is_before, without}

-- what stands at a place is in the list
pub in_at : {A : Type 0} (xs : List A) (k : ℕ) (x : A) → slice_get xs k ≡ Some x → In x xs
in_at [] k x e = absurd cc
in_at (y ∷ xs) zero x e = inl cc
in_at (y ∷ xs) (suc k) x e = inr (in_at xs k x e)

-- what is in the list stands at a place
pub at_in : {A : Type 0} (xs : List A) (x : A) → In x xs → (k : ℕ) × (slice_get xs k ≡ Some x)
at_in [] x h = absurd h
at_in (y ∷ xs) x (inl e) = (0, ap (λ z. Some z) e)
at_in (y ∷ xs) x (inr h) = let r = at_in xs x h in (suc r.0, r.1)

-- ---- appends and maps

pub in_append : {A : Type 0} (xs ys : List A) (x : A) → In x (xs ++ ys) → In x xs ⊎ In x ys
in_append [] ys x h = inr h
in_append (z ∷ xs) ys x (inl e) = inl (inl e)
in_append (z ∷ xs) ys x (inr h) = elim (in_append xs ys x h) [ inl k ↦ inl (inr k) | inr k ↦ inr k ]

pub in_left : {A : Type 0} (xs ys : List A) (x : A) → In x xs → In x (xs ++ ys)
in_left [] ys x h = absurd h
in_left (z ∷ xs) ys x (inl e) = inl e
in_left (z ∷ xs) ys x (inr h) = inr (in_left xs ys x h)

pub in_right : {A : Type 0} (xs ys : List A) (x : A) → In x ys → In x (xs ++ ys)
in_right [] ys x h = h
in_right (z ∷ xs) ys x h = inr (in_right xs ys x h)

pub in_map : {A B : Type 0} (f : A → B) (xs : List A) (y : B) → In y (map f xs) → (x : A) × (In x xs) × (f x ≡ y)
in_map f [] y h = absurd h
in_map f (z ∷ xs) y (inl e) = (z, inl refl, e)
in_map f (z ∷ xs) y (inr h) = let r = in_map f xs y h in (r.0, inr r.1, r.2)

pub map_in : {A B : Type 0} (f : A → B) (xs : List A) (x : A) → In x xs → In (f x) (map f xs)
map_in f [] x h = absurd h
map_in f (y ∷ xs) x (inl e) = inl (ap f e)
map_in f (y ∷ xs) x (inr h) = inr (map_in f xs x h)

pub in_flat_map : {A B : Type 0} (f : A → List B) (xs : List A) (y : B) → In y (flat_map f xs) → (x : A) × (In x xs) × (In y (f x))
in_flat_map f [] y h = absurd h
in_flat_map f (z ∷ xs) y h = elim (in_append (f z) (flat_map f xs) y h) [ inl k ↦ (z, inl refl, k) | inr k ↦ (let r = in_flat_map f xs y k in (r.0, inr r.1, r.2)) ]

-- ---- tests

pub in_filter : {A : Type 0} (test : A → Bool) (xs : List A) (x : A) → In x (filter test xs) → (In x xs) × (test x ≡ true)
in_filter test [] x h = absurd h
in_filter test (z ∷ xs) x h = by_test (in_filter test xs x) (test z) refl h
  where
    by_test : (In x (filter test xs) → (In x xs) × (test x ≡ true)) → (b : Bool) → test z ≡ b → In x (if b then (z ∷ filter test xs) else filter test xs)
        → (In x (z ∷ xs)) × (test x ≡ true)
    by_test rec true e (inl q) = (inl q, ap test (sym q) ∙ e)
    by_test rec true e (inr k) = (inr (rec k).0, (rec k).1)
    by_test rec false e k = (inr (rec k).0, (rec k).1)

pub filter_in : {A : Type 0} (test : A → Bool) (xs : List A) (x : A) → In x xs → test x ≡ true → In x (filter test xs)
filter_in test [] x h e = absurd h
filter_in test (y ∷ xs) x (inl q) e = rw (ap test q ∙ e) (inl q)
filter_in test (y ∷ xs) x (inr h) e = by_test (test y) (filter_in test xs x h e)
  where
    by_test : (b : Bool) → In x (filter test xs) → In x (if b then y ∷ filter test xs else filter test xs)
    by_test true k = inr k
    by_test false k = k

pub all_in : {A : Type 0} (test : A → Bool) (xs : List A) (x : A) → list_all test xs ≡ true → In x xs → test x ≡ true
all_in test [] x e h = absurd h
all_in test (y ∷ xs) x e (inl q) = ap test (sym q) ∙ (and_parts (test y) (list_all test xs) e).0
all_in test (y ∷ xs) x e (inr h) = all_in test xs x (and_parts (test y) (list_all test xs) e).1 h

pub any_in : {A : Type 0} (test : A → Bool) (xs : List A) (x : A) → In x xs → test x ≡ true → list_any test xs ≡ true
any_in test [] x h e = absurd h
any_in test (y ∷ xs) x (inl q) e = rw (ap test q ∙ e) refl
any_in test (y ∷ xs) x (inr h) e = or_right (test y) (list_any test xs) (any_in test xs x h e)

pub find_none : {A : Type 0} (test : A → Bool) (xs : List A) (x : A) → find test xs ≡ None → In x xs → test x ≡ false
find_none test [] x e h = absurd h
find_none {A = A} test (y ∷ ys) x e h = by_test (test y) refl (find_none test ys x) e h
  where
    by_test : (b : Bool) → test y ≡ b → (find test ys ≡ None → In x ys → test x ≡ false) → (if b then Some y else find test ys) ≡ None → In x (y ∷ ys) → test x ≡ false
    by_test true q rec k m = absurd (cc k)
    by_test false q rec k (inl s) = ap test (sym s) ∙ q
    by_test false q rec k (inr m) = rec k m

-- ---- versions put in and taken out

pub in_insert : (v : Version) (vs : List Version) (x : Version) → In x (insert_version v vs) → (v ≡ x) ⊎ In x vs
in_insert v [] x (inl e) = inl e
in_insert v [] x (inr h) = absurd h
in_insert v (w ∷ ws) x h = by_test (in_insert v ws x) (is_before v w) h
  where
    by_test : (In x (insert_version v ws) → (v ≡ x) ⊎ In x ws) → (b : Bool) → In x (if b then v ∷ w ∷ ws else w ∷ insert_version v ws) → (v ≡ x) ⊎ In x (w ∷ ws)
    by_test rec true (inl e) = inl e
    by_test rec true (inr k) = inr k
    by_test rec false (inl e) = inr (inl e)
    by_test rec false (inr k) = elim (rec k) [ inl e ↦ inl e | inr j ↦ inr (inr j) ]

pub in_insert_all : (ws vs : List Version) (x : Version) → In x (insert_all ws vs) → In x ws ⊎ In x vs
in_insert_all [] vs x h = inr h
in_insert_all (w ∷ ws) vs x h =
    elim (in_insert_all ws (insert_version w vs) x h) [ inl k ↦ inl (inr k) | inr k ↦ (elim (in_insert w vs x k) [ inl e ↦ inl (inl e) | inr j ↦ inr j ]) ]

pub in_without : (test : Version → Bool) (vs : List Version) (x : Version) → In x (without test vs) → In x vs
in_without test vs x h = (in_filter (λ v. not (test v)) vs x h).0

pub in_insert_new : (v : Version) (vs : List Version) → In v (insert_version v vs)
in_insert_new v [] = inl refl
in_insert_new v (w ∷ ws) = by_test (in_insert_new v ws) (is_before v w)
  where
    by_test : In v (insert_version v ws) → (b : Bool) → In v (if b then v ∷ w ∷ ws else w ∷ insert_version v ws)
    by_test rec true = inl refl
    by_test rec false = inr rec

pub in_insert_old : (v : Version) (vs : List Version) (x : Version) → In x vs → In x (insert_version v vs)
in_insert_old v [] x h = absurd h
in_insert_old v (w ∷ ws) x h = by_test (in_insert_old v ws x) (is_before v w) h
  where
    by_test : (In x ws → In x (insert_version v ws)) → (b : Bool) → In x (w ∷ ws) → In x (if b then v ∷ w ∷ ws else w ∷ insert_version v ws)
    by_test rec true k = inr k
    by_test rec false (inl e) = inl e
    by_test rec false (inr k) = inr (rec k)

pub in_all_old : (ws vs : List Version) (x : Version) → In x vs → In x (insert_all ws vs)
in_all_old [] vs x h = h
in_all_old (w ∷ ws) vs x h = in_all_old ws (insert_version w vs) x (in_insert_old w vs x h)

pub in_all_new : (ws vs : List Version) (x : Version) → In x ws → In x (insert_all ws vs)
in_all_new [] vs x h = absurd h
in_all_new (w ∷ ws) vs x (inl e) = in_all_old ws (insert_version w vs) x (subst (λ (z : Version). In z (insert_version w vs)) e (in_insert_new w vs))
in_all_new (w ∷ ws) vs x (inr h) = in_all_new ws (insert_version w vs) x h
