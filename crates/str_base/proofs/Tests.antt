-- Facts on tests that std states of both parts at once, or not at all.
use Rattle.std.proofs.Common.{Bool, Option, Some, None, ap, arith, eq-eqb, eqb-true, false, is_some, not, refl, true, ℕ, ◌&&◌, ◌==◌, ◌||◌, ◌≡◌, ◌≤◌}
use Rattle.std.proofs.lemmas.Bool.{and_parts, false_from_ne_true, ne_eqb, not_from_false, or_parts}

-- both of two tests pass: the first does
pub and_true_left : (p q : Bool) → (p && q) ≡ true → p ≡ true
and_true_left p q e = (and_parts p q e).0

-- and the second
pub and_true_right : (p q : Bool) → (p && q) ≡ true → q ≡ true
and_true_right p q e = (and_parts p q e).1

-- neither of two tests passes: the first does not
pub or_false_left : (p q : Bool) → (p || q) ≡ false → p ≡ false
or_false_left p q e = (or_parts p q e).0

-- nor the second
pub or_false_right : (p q : Bool) → (p || q) ≡ false → q ≡ false
or_false_right p q e = (or_parts p q e).1

-- a number is itself
pub eqb_self : (n : ℕ) → (n == n) ≡ true
eqb_self n = eq-eqb n n refl

-- a number is not another than itself
pub not_other_self : (n : ℕ) → not (n == n) ≡ true → ⊥
not_other_self n e = cc (e, eqb_self n)

-- a number that a test passes is not one that it does not pass
pub other_by_test : (test : ℕ → Bool) (m n : ℕ) → test m ≡ true → test n ≡ false → not (m == n) ≡ true
other_by_test test m n passes fails = not_from_false (m == n) (false_from_ne_true (m == n) (λ e. let same = eqb-true m n e in cc (passes, fails, ap test same)))

-- a number from 1 is not 0
pub not_zero : (n : ℕ) → 1 ≤ n → not (n == 0) ≡ true
not_zero n h = not_from_false (n == 0) (ne_eqb n 0 (λ e. omega (arith, h, e)))

-- there is a value
pub value_there : {A : Type 0} (o : Option A) → is_some o ≡ true → (x : A) × (o ≡ Some x)
value_there None e = absurd (cc e)
value_there (Some x) e = (x, refl)
