-- How a table grows by an element that it has, or that comes at its end.
use Rattle.std.proofs.Common.{Bool, List, Some, [], ap, arith, cond, false, inl, inr, length, length-append, refl, slice_get, subst, suc, sym, true, zero, ℕ, ◌++◌, ◌<◌, ◌∙◌, ◌∷◌, ◌≡◌, ◌≤◌, ◌⊎◌}
use Rattle.str_base.proofs.Lists.{got_push}
use Rattle.std.proofs.lemmas.Option.{slice_get_within}
use Rattle.std.proofs.lemmas.Slice.Eq.{bytes_eq-Decides}
use Rattle.std.specs.Str.{bytes_eq}
use Rattle.str_scene.proofs.Counts.{counted_next, counted_old}
use Rattle.str_scene.proofs.Each.{each_push, get_left, get_middle}
use Rattle.str_scene.specs.Lists.{Each}
use Rattle.str_scene.specs.Keys.{string_place, with_string}
use Rattle.str_scene.specs.SceneLimits.{counted}

-- no element stands twice
abbrev pub Distinct : {X : Type 0} → List X → Type 0
Distinct {X} xs = (i j : ℕ) (x : X) → slice_get xs i ≡ Some x → slice_get xs j ≡ Some x → i ≡ j

-- the element stands at its place, and the table stays, or it is not there, and comes at the end
abbrev pub Comes : {X : Type 0} → X → ℕ → List X → List X → Type 0
Comes x place xs ys =
    ((slice_get xs place ≡ Some x) × (ys ≡ xs)) ⊎ ((place ≡ length xs) × (ys ≡ xs ++ x ∷ []) × ((i : ℕ) → slice_get xs i ≡ Some x → ⊥))

-- one string more at the front
comes_more : (a b : List ℕ) (bs : List (List ℕ)) (same : Bool) → bytes_eq a b ≡ same → Comes a (string_place a bs) bs (with_string a bs) →
    Comes a (cond same 0 (suc (string_place a bs))) (b ∷ bs) (cond same (b ∷ bs) (b ∷ with_string a bs))
comes_more a b bs true e h = inl (ap Some (sym ((bytes_eq-Decides a b).0 e)), refl)
comes_more a b bs false e (inl h) = inl (h.0, ap (λ xs. b ∷ xs) h.1)
comes_more a b bs false e (inr h) = inr (ap suc h.0, ap (λ xs. b ∷ xs) h.1, not_there)
  where
    not_there : (i : ℕ) → slice_get (b ∷ bs) i ≡ Some a → ⊥
    not_there zero f = let same : bytes_eq a b ≡ true = (bytes_eq-Decides a b).1 cc in cc
    not_there (suc i) f = h.2 i f

-- each byte string is in its place, or comes at the end
pub string_comes : (a : List ℕ) (bs : List (List ℕ)) → Comes a (string_place a bs) bs (with_string a bs)
string_comes a [] = inr (refl, refl, λ i e. none_there i e)
  where
    none_there : (i : ℕ) → slice_get {X = List ℕ} [] i ≡ Some a → ⊥
    none_there i e = cc
string_comes a (b ∷ bs) = comes_more a b bs (bytes_eq a b) refl (string_comes a bs)

-- a table that may have more at its end
pub record Grows {X : Type 0} (P : X → Type 0) (xs ys : List X) : Type 0 where
  pub longer : length xs ≤ length ys
  pub good : Each P ys
  pub distinct : Distinct ys
  pub kept : (i : ℕ) (y : X) → slice_get xs i ≡ Some y → slice_get ys i ≡ Some y

-- how a table grows by an element, which has its place in the new table
pub record Grown {X : Type 0} (P : X → Type 0) (xs : List X) (x : X) (place : ℕ) (ys : List X) : Type 0 where
  pub grows : Grows P xs ys
  pub order : counted (length xs) (place ∷ []) ≡ Some (length ys)
  pub within : place < length ys
  pub there : slice_get ys place ≡ Some x

-- a table that stays
pub stays : {X : Type 0} (P : X → Type 0) (xs : List X) → Each P xs → Distinct xs → Grows P xs xs
stays P xs g d = record { longer = omega arith; good = g; distinct = d; kept = λ i y e. e }

-- an element that is not there may come at the end
distinct_push : {X : Type 0} (xs : List X) (x : X) → Distinct xs → ((i : ℕ) → slice_get xs i ≡ Some x → ⊥) → Distinct (xs ++ x ∷ [])
distinct_push xs x d new i j y p q =
    elim (got_push xs i x y p) [
      | inr u ↦ elim (got_push xs j x y q) [ inr v ↦ d i j y u v | inl v ↦ absurd (new i (u ∙ ap Some v.1)) ]
      | inl u ↦ elim (got_push xs j x y q) [ inr v ↦ absurd (new j (v ∙ ap Some u.1)) | inl v ↦ u.0 ∙ sym v.0 ]
    ]

-- an element that comes to a table makes it grow
pub grown : {X : Type 0} (P : X → Type 0) (xs : List X) (x : X) (place : ℕ) (ys : List X) → Each P xs → Distinct xs → P x → Comes x place xs ys → Grown P xs x place ys
grown P xs x place ys g d k (inl h) =
    let within : place < length xs = slice_get_within xs place x h.0 in
    subst (λ zs. Grown P xs x place zs) (sym h.1)
    (record { grows = stays P xs g d; order = counted_old (length xs) place [] within; within = within; there = h.0 })
grown P xs x place ys g d k (inr h) =
    let more = length-append xs (x ∷ []) in
    subst (λ zs. Grown P xs x place zs) (sym h.1)
    (record {
      grows = record {
        longer = omega (arith, more);
        good = each_push P xs x g k;
        distinct = distinct_push xs x d h.2;
        kept = λ i y e. get_left xs (x ∷ []) i y e;
      };
      order = counted_next (length xs) place [] h.0 ∙ ap Some (omega (arith, more));
      within = omega (arith, more, h.0);
      there = rw h.0 (get_middle xs [] x);
    })
