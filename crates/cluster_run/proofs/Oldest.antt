-- The first flag that is down.
use Rattle.std.proofs.Common.{Bool, List, None, Some, [], ap, arith, false, length, refl, slice_get, suc, sym, true, zero, ℕ, ◌+◌, ◌<◌, ◌∙◌, ◌∷◌, ◌≡◌, ◌≤◌}
use Rattle.cluster_run.specs.Flags.{IsOldest}
use Rattle.str_base.proofs.Lists.{slice_get_there}
use Rattle.str_model.specs.Drains.{first_missing}

first_after : (i n : ℕ) (flags : List Bool) → ((k : ℕ) → k < n → slice_get flags k ≡ Some true) → slice_get flags n ≡ Some false → first_missing i flags ≡ Some (i + n)
first_after i n [] h e = absurd (cc e)
first_after i zero (true ∷ bs) h e = absurd (cc e)
first_after i zero (false ∷ bs) h e = let q : i ≡ i + 0 = omega arith in ap Some q
first_after i (suc n) (false ∷ bs) h e = absurd (cc (h 0 (omega arith)))
first_after i (suc n) (true ∷ bs) h e =
    let r = first_after (i + 1) n bs (λ k l. h (suc k) (omega (arith, l))) e in
    let q : (i + 1) + n ≡ i + suc n = omega arith in r ∙ ap Some q

none_after : (i : ℕ) (flags : List Bool) → ((k : ℕ) → k < length flags → slice_get flags k ≡ Some true) → first_missing i flags ≡ None
none_after i [] h = refl
none_after i (true ∷ bs) h = none_after (i + 1) bs (λ k l. h (suc k) (omega (arith, l)))
none_after i (false ∷ bs) h = absurd (cc (h 0 (omega arith)))

-- its number is that of the oldest message that was never given
pub oldest_some : (flags : List Bool) (n : ℕ) → IsOldest flags n → n < length flags → Some (n + 1) ≡ first_missing 1 flags
oldest_some flags n h l = by_flag there.0 there.1
  where
    there : (b : Bool) × (slice_get flags n ≡ Some b)
    there = slice_get_there flags n l

    by_flag : (b : Bool) → slice_get flags n ≡ Some b → Some (n + 1) ≡ first_missing 1 flags
    by_flag true e = absurd (h.down e)
    by_flag false e = let q : n + 1 ≡ 1 + n = omega arith in ap Some q ∙ sym (first_after 1 n flags h.before.up e)

pub oldest_none : (flags : List Bool) (n : ℕ) → IsOldest flags n → length flags ≤ n → None ≡ first_missing 1 flags
oldest_none flags n h l = sym (none_after 1 flags (λ k m. h.before.up k (omega (arith, m, l))))
