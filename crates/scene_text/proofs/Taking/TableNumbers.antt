-- The elements of a table come in the order of their numbers.
use Rattle.std.proofs.Common.{List, None, Option, Some, [], add-one, ap, arith, inl, inr, length-take, refl, slice_get, subst, suc, sym, take, zero, ℕ, ◌++◌, ◌+◌, ◌<◌, ◌∙◌, ◌∷◌, ◌≡◌}
use Rattle.std.proofs.lemmas.Option.{none-some, same_Some, slice_get_within}
use Rattle.std.specs.Prelude.{option_and_then}
use Rattle.scene_text.proofs.Taking.TableGrows.{Comes, Distinct}
use Rattle.str_scene.proofs.Counts.{counted-append, counted_cases}
use Rattle.str_scene.specs.SceneLimits.{counted}

-- an element of the first m
get_take : {X : Type 0} (m : ℕ) (xs : List X) (i : ℕ) (x : X) → slice_get (take m xs) i ≡ Some x → (i < m) × (slice_get xs i ≡ Some x)
get_take zero xs i x e = absurd cc
get_take (suc m) [] i x e = absurd cc
get_take (suc m) (y ∷ xs) zero x e = (omega arith, e)
get_take (suc m) (y ∷ xs) (suc i) x e = let h = get_take m xs i x e in (omega (arith, h.0), h.1)

-- an element before m is one of the first m
take_get : {X : Type 0} (m : ℕ) (xs : List X) (i : ℕ) (x : X) → i < m → slice_get xs i ≡ Some x → slice_get (take m xs) i ≡ Some x
take_get zero xs i x l e = absurd (omega arith)
take_get (suc m) [] i x l e = absurd cc
take_get (suc m) (y ∷ xs) zero x l e = e
take_get (suc m) (y ∷ xs) (suc i) x l e = take_get m xs i x (omega arith) e

-- the first m and the next
take_next : {X : Type 0} (m : ℕ) (xs : List X) (x : X) → slice_get xs m ≡ Some x → take (suc m) xs ≡ take m xs ++ x ∷ []
take_next zero [] x e = absurd cc
take_next zero (y ∷ xs) x e = ap (λ z. z ∷ []) (same_Some y x e)
take_next (suc m) [] x e = absurd cc
take_next (suc m) (y ∷ xs) x e = ap (λ zs. y ∷ zs) (take_next m xs x e)

-- an element that comes after the first m of a table has its number there, and the first of the table are there then
pub record Found {X : Type 0} (xs : List X) (place : ℕ) (ys : List X) (i : ℕ) (ms : List ℕ) (end : ℕ) : Type 0 where
  pub next : ℕ
  pub number : place ≡ i
  pub first : ys ≡ take next xs
  pub rest : counted next ms ≡ Some end

-- one that has been seen
found_old : {X : Type 0} (xs : List X) (x : X) (place : ℕ) (ys : List X) (m i : ℕ) (ms : List ℕ) (end : ℕ) → Distinct xs → slice_get xs i ≡ Some x → i < m →
    counted m ms ≡ Some end → Comes x place (take m xs) ys → Found xs place ys i ms end
found_old xs x place ys m i ms end d e l c (inl h) = record { next = m; number = d _ _ x (get_take m xs _ x h.0).1 e; first = h.1; rest = c }
found_old xs x place ys m i ms end d e l c (inr h) = absurd (h.2 i (take_get m xs i x l e))

-- the next
found_new : {X : Type 0} (xs : List X) (x : X) (place : ℕ) (ys : List X) (m : ℕ) (ms : List ℕ) (end : ℕ) → Distinct xs → slice_get xs m ≡ Some x →
    counted (m + 1) ms ≡ Some end → Comes x place (take m xs) ys → Found xs place ys m ms end
found_new xs x place ys m ms end d e c (inl h) =
    let t = get_take m xs place x h.0 in
    let same : place ≡ m = d _ _ x t.1 e in
    absurd (omega (arith, t.0))
found_new xs x place ys m ms end d e c (inr h) =
    let within = slice_get_within xs m x e in
    record {
      next = m + 1;
      number = h.0 ∙ length-take m xs ∙ omega arith;
      first = h.1 ∙ (sym (take_next m xs x e) ∙ ap (λ n. take n xs) (sym (add-one m)));
      rest = c;
    }

-- each whose number comes in order
pub found : {X : Type 0} (xs : List X) (x : X) (place : ℕ) (ys : List X) (m i : ℕ) (ms : List ℕ) (end : ℕ) → Distinct xs → slice_get xs i ≡ Some x →
    counted m (i ∷ ms) ≡ Some end → Comes x place (take m xs) ys → Found xs place ys i ms end
found xs x place ys m i ms end d e c come =
    elim (counted_cases m i end ms c) [
      | inl h ↦ found_old xs x place ys m i ms end d e h.0 h.1 come
      | inr h ↦ (
          let at : slice_get xs m ≡ Some x = subst (λ j. slice_get xs j ≡ Some x) h.0 e in
          subst (λ j. Found xs place ys j ms end) (sym h.0) (found_new xs x place ys m ms end d at h.1 come))
    ]

-- numbers in two parts
pub record Parts (m : ℕ) (xs ys : List ℕ) (end : ℕ) : Type 0 where
  pub middle : ℕ
  pub first : counted m xs ≡ Some middle
  pub second : counted middle ys ≡ Some end

-- by what the first part counts to
parts_of : (o : Option ℕ) (m end : ℕ) (xs ys : List ℕ) → counted m xs ≡ o → option_and_then (λ k. counted k ys) o ≡ Some end → Parts m xs ys end
parts_of None m end xs ys p q = absurd (none-some _ q)
parts_of (Some k) m end xs ys p q = record { middle = k; first = p; second = q }

-- from both together
pub parts : (m end : ℕ) (xs ys : List ℕ) → counted m (xs ++ ys) ≡ Some end → Parts m xs ys end
parts m end xs ys e = parts_of (counted m xs) m end xs ys refl (sym (counted-append m xs ys) ∙ e)
