-- A list with an item, at its end where it is not there.
use Rattle.std.proofs.Common.{Bool, List, Some, [], arith, false, inl, inr, length, length-append, refl, slice_get, sym, true, ℕ, ◌++◌, ◌∷◌, ◌≡◌, ◌≤◌, ◌∙◌, ◌⊎◌}
use Rattle.str_base.proofs.Lists.{fails_at, got_push}
use Rattle.std.specs.List.{list_any}
use Rattle.indexmap.specs.IndexSet.{insert_key}

-- no item stands twice
abbrev pub IsUnique : {X : Type 0} → List X → Type 0
IsUnique {X} xs = (i j : ℕ) (x : X) → slice_get xs i ≡ Some x → slice_get xs j ≡ Some x → i ≡ j

-- after a push of a new item
pub unique_push : {X : Type 0} (xs : List X) (y : X) → IsUnique xs → ((i : ℕ) → slice_get xs i ≡ Some y → ⊥) → IsUnique (xs ++ y ∷ [])
unique_push {X = X} xs y u new i j x e f = places (got_push xs i y x e) (got_push xs j y x f)
  where
    places : ((i ≡ length xs) × (x ≡ y)) ⊎ (slice_get xs i ≡ Some x) → ((j ≡ length xs) × (x ≡ y)) ⊎ (slice_get xs j ≡ Some x) → i ≡ j
    places (inr g) (inr h) = u i j x g h
    places (inr g) (inl h) = absurd (new i (rw (sym h.1) g))
    places (inl g) (inr h) = absurd (new j (rw (sym g.1) h))
    places (inl g) (inl h) = g.0 ∙ sym h.0

module _ {X : Type 0} (eq : X → X → Bool) (self : (a : X) → eq a a ≡ true) (put : X → List X → List X) (is_put : (a : X) (bs : List X) → insert_key eq bs a ≡ put a bs) where
  -- the item is there, and the list stays, or it is new, and comes at the end
  abbrev Puts : X → List X → Type 0
  Puts a bs = (put a bs ≡ bs) ⊎ ((put a bs ≡ bs ++ a ∷ []) × ((i : ℕ) → slice_get bs i ≡ Some a → ⊥))

  pub puts : (a : X) (bs : List X) → Puts a bs
  puts a bs = cases (list_any (eq a) bs) refl
    where
      not_there : list_any (eq a) bs ≡ false → (i : ℕ) → slice_get bs i ≡ Some a → ⊥
      not_there e i g = let f : eq a a ≡ false = fails_at (eq a) bs i a e g in let t = self a in cc

      cases : (any : Bool) → list_any (eq a) bs ≡ any → Puts a bs
      cases true e = inl (sym (is_put a bs) ∙ rw e refl)
      cases false e = inr (sym (is_put a bs) ∙ rw e refl, not_there e)

  -- it is as long, or longer
  pub put_longer : (a : X) (bs : List X) → length bs ≤ length (put a bs)
  put_longer a bs = longer (puts a bs)
    where
      longer : Puts a bs → length bs ≤ length (put a bs)
      longer (inl e) = rw e (omega arith)
      longer (inr e) = rw (e.0, length-append) (omega arith)

  -- no item stands twice in it
  pub put_unique : (a : X) (bs : List X) → IsUnique bs → IsUnique (put a bs)
  put_unique a bs u = unique (puts a bs)
    where
      unique : Puts a bs → IsUnique (put a bs)
      unique (inl e) = rw e u
      unique (inr e) = rw e.0 (unique_push bs a u e.1)

  -- what holds of each item and of the new one holds of each
  pub put_each : (P : X → Type 0) (a : X) (bs : List X) → ((i : ℕ) (x : X) → slice_get bs i ≡ Some x → P x) → P a
      → (i : ℕ) (x : X) → slice_get (put a bs) i ≡ Some x → P x
  put_each P a bs h p i x g = each (puts a bs)
    where
      pushed : ((i ≡ length bs) × (x ≡ a)) ⊎ (slice_get bs i ≡ Some x) → P x
      pushed (inl f) = rw f.1 p
      pushed (inr f) = h i x f

      each : Puts a bs → P x
      each (inl e) = h i x (rw e at g)
      each (inr e) = pushed (got_push bs i a x (rw e.0 at g))
