-- Pieces of a text in a row.
use Rattle.std.proofs.Common.{◌≡◌, ℕ, ◌+◌, ◌≤◌, ◌-◌, List, ◌++◌, length, take, drop, Option, sym, ap, ◌∙◌, take-append-drop, drop-drop, arith, length-drop, length-take, subst, take-add}
use Rattle.std.proofs.lemmas.List.{take_at, take_rest}
use Rattle.std.proofs.KnownBytes.{Appends-trans}
use Rattle.std.specs.Io.KnownBytes.{Appends}

-- a first piece, and the n bytes behind it
pub wrote_more : (a b c : Option (List ℕ)) (at n : ℕ) (t : List ℕ) → Appends a b (take at t) → Appends b c (take n (take (length t - at) (drop at t))) → Appends a c (take (at + n) t)
wrote_more a b c at n t h k =
    rw take-add (Appends-trans a b c (take at t) (take n (drop at t)) h (subst (λ (xs : List ℕ). Appends b c (take n xs)) (take_rest t at) k))

-- what a read of n bytes gives, and what is left
pub read_piece : (at n : ℕ) (t buf piece : List ℕ) → at ≤ length t → n ≤ length t - at → n ≤ length buf → piece ≡ take n (drop at t)
    → drop at t ≡ take n (piece ++ drop n buf) ++ drop (at + n) t
read_piece at n t buf piece a b m e =
    let len : length piece ≡ n = rw e (length_take_drop at n t a b) in
    rw (take_at piece (drop n buf) n len, e) (sym (take-append-drop n (drop at t)) ∙ ap (λ (ys : List ℕ). take n (drop at t) ++ ys) (drop-drop n at t))
  where
    length_take_drop : (at n : ℕ) (t : List ℕ) → at ≤ length t → n ≤ length t - at → length (take n (drop at t)) ≡ n
    length_take_drop at n t a b = omega (arith, length-take n (drop at t), length-drop at t)
