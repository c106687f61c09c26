-- What was found at a place stands there in each longer list.
use Rattle.std.proofs.Common.{◌≡◌, ℕ, ◌+◌, ◌<◌, List, [], ◌∷◌, ◌++◌, length, None, Option, Some, refl, replicate, slice_index_or, slice_set, sym, subst, suc, zero, ◌∙◌, ap, arith}
use Rattle.std.proofs.lemmas.List.{get_or-set_other, get_or_default, length-replicate, length-set}
use Rattle.std.proofs.lemmas.Grind.{get_or-set_at}
use native.Mathlib.Decide.{ℕ_discrete}
use mathlib.Core.List.{IsPrefix}
use Rattle.answer_board.specs.declared.entries.Entry.{Entry}
use Rattle.answer_board.specs.Entries.{answer_at}
use Rattle.answer_board.proofs.Answering.{answer_grows}
use Rattle.str_model.specs.declared.messages.Answer.{Answer}
use Rattle.str_scene.specs.declared.names.TxPlace.{TxPlace}
use Rattle.door.specs.Searching.{FoundAt, FoundThere, Full, FullTo}

pub found_grows : (p : TxPlace) (o : Option Answer) (xs ys : List Entry) → IsPrefix xs ys → FoundThere p o xs → FoundThere p o ys
found_grows p o xs ys pre g = record { each = λ a e. answer_grows p xs ys a pre (g.each a e) }

pub found_looked : (p : TxPlace) (o : Option Answer) (ys : List Entry) → o ≡ answer_at p ys → FoundThere p o ys
found_looked p o ys is = record { each = λ a e. sym is ∙ e }

pub full_looked : (p : TxPlace) (o : Option Answer) (xs ys : List Entry) → IsPrefix xs ys → o ≡ answer_at p ys → Full p o xs
full_looked p o xs ys pre is = record { each = λ a e. is ∙ answer_grows p xs ys a pre e }

-- what was found before is all there is
pub full_found : (p : TxPlace) (b : Answer) (o : Option Answer) (xs : List Entry) → o ≡ Some b → FoundThere p o xs → Full p o xs
full_found p b o xs is g = record { each = λ a e. is ∙ (sym (g.each b is) ∙ e) }

pub all_found_grow : (ps : List TxPlace) (fs : List (Option Answer)) (xs ys : List Entry) → IsPrefix xs ys → FoundAt ps fs xs → FoundAt ps fs ys
all_found_grow ps fs xs ys pre f = record { wide = f.wide; each = λ i p o lt. found_grows (slice_index_or ps i p) (slice_index_or fs i o) xs ys pre (f.each i p o lt) }

pub full_before : (p : TxPlace) (o : Option Answer) (xs ys : List Entry) → IsPrefix xs ys → Full p o ys → Full p o xs
full_before p o xs ys pre f = record { each = λ a e. f.each a (answer_grows p xs ys a pre e) }

pub full_none : (ps : List TxPlace) (fs : List (Option Answer)) (xs : List Entry) → FullTo 0 ps fs xs
full_none ps fs xs = record { each = λ i p o lt. absurd (omega arith) }

set_found_at : (ps : List TxPlace) (fs : List (Option Answer)) (k : ℕ) (q : TxPlace) (new : Option Answer) (xs ys : List Entry) → k < length ps → IsPrefix xs ys → FoundAt ps fs xs → FoundThere (slice_index_or ps k q) new ys
    → (i : ℕ) (p : TxPlace) (o : Option Answer) → i < length ps → Dec (i ≡ k) → FoundThere (slice_index_or ps i p) (slice_index_or (slice_set fs k new) i o) ys
set_found_at ps fs k q new xs ys lk pre f good i p o lt (yes same) =
    let here : slice_index_or (slice_set fs k new) i o ≡ new = get_or-set_at fs k i new o same (omega (arith, f.wide)) in
    let place : slice_index_or ps i p ≡ slice_index_or ps k q = ap (λ (n : ℕ). slice_index_or ps n p) same ∙ get_or_default ps k p q lk in
    subst (λ (z : TxPlace). FoundThere z (slice_index_or (slice_set fs k new) i o) ys) (sym place) (subst (λ (z : Option Answer). FoundThere (slice_index_or ps k q) z ys) (sym here) good)
set_found_at ps fs k q new xs ys lk pre f good i p o lt (no other) =
    subst (λ (z : Option Answer). FoundThere (slice_index_or ps i p) z ys) (sym (get_or-set_other fs k i new o other)) (found_grows (slice_index_or ps i p) (slice_index_or fs i o) xs ys pre (f.each i p o lt))

pub set_found : (ps : List TxPlace) (fs : List (Option Answer)) (k : ℕ) (q : TxPlace) (new : Option Answer) (xs ys : List Entry) → k < length ps → IsPrefix xs ys → FoundAt ps fs xs → FoundThere (slice_index_or ps k q) new ys
    → FoundAt ps (slice_set fs k new) ys
set_found ps fs k q new xs ys lk pre f good = record { wide = length-set fs k new ∙ f.wide; each = λ i p o lt. set_found_at ps fs k q new xs ys lk pre f good i p o lt (ℕ_discrete i k) }

set_full_at : (ps : List TxPlace) (fs : List (Option Answer)) (k : ℕ) (q : TxPlace) (new : Option Answer) (xs : List Entry) → k < length ps → length fs ≡ length ps → FullTo k ps fs xs → Full (slice_index_or ps k q) new xs
    → (i : ℕ) (p : TxPlace) (o : Option Answer) → i < k + 1 → Dec (i ≡ k) → Full (slice_index_or ps i p) (slice_index_or (slice_set fs k new) i o) xs
set_full_at ps fs k q new xs lk wide f full i p o lt (yes same) =
    let here : slice_index_or (slice_set fs k new) i o ≡ new = get_or-set_at fs k i new o same (omega (arith, wide)) in
    let place : slice_index_or ps i p ≡ slice_index_or ps k q = ap (λ (n : ℕ). slice_index_or ps n p) same ∙ get_or_default ps k p q lk in
    subst (λ (z : TxPlace). Full z (slice_index_or (slice_set fs k new) i o) xs) (sym place) (subst (λ (z : Option Answer). Full (slice_index_or ps k q) z xs) (sym here) full)
set_full_at ps fs k q new xs lk wide f full i p o lt (no other) =
    subst (λ (z : Option Answer). Full (slice_index_or ps i p) z xs) (sym (get_or-set_other fs k i new o other)) (f.each i p o (omega (arith, lt, other)))

pub set_full : (ps : List TxPlace) (fs : List (Option Answer)) (k : ℕ) (q : TxPlace) (new : Option Answer) (xs : List Entry) → k < length ps → length fs ≡ length ps → FullTo k ps fs xs → Full (slice_index_or ps k q) new xs
    → FullTo (k + 1) ps (slice_set fs k new) xs
set_full ps fs k q new xs lk wide f full = record { each = λ i p o lt. set_full_at ps fs k q new xs lk wide f full i p o lt (ℕ_discrete i k) }

pub full_to_before : (n : ℕ) (ps : List TxPlace) (fs : List (Option Answer)) (xs ys : List Entry) → IsPrefix xs ys → FullTo n ps fs ys → FullTo n ps fs xs
full_to_before n ps fs xs ys pre f = record { each = λ i p o lt. full_before (slice_index_or ps i p) (slice_index_or fs i o) xs ys pre (f.each i p o lt) }

-- ---- nothing found

none_at : (n i : ℕ) (o : Option Answer) → i < n → slice_index_or (replicate n None) i o ≡ None
none_at zero i o lt = absurd (omega (arith, lt))
none_at (suc n) zero o lt = refl
none_at (suc n) (suc i) o lt = none_at n i o (omega (arith, lt))

pub nothing_at : (ps : List TxPlace) (fs : List (Option Answer)) (n : ℕ) → fs ≡ replicate n None → n ≡ length ps → FoundAt ps fs []
nothing_at ps fs n is wide = record {
  wide = ap length is ∙ (length-replicate n None ∙ wide);
  each = λ i p o lt. record { each = λ a q. absurd (cc (q, ap (λ (l : List (Option Answer)). slice_index_or l i o) is, none_at n i o (omega (arith, lt, wide)))) };
}
