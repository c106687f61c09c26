-- Amounts of an opening, values that accounts hold, and their sums as numbers with a sign.
use Rattle.std.proofs.Common.{FitsSigned, List, [], ap, arith, inl, inr, length, ltb-true, map, neg_ℤ, negsuc, pos, refl, subst, suc, sym, true, zero, ℕ, ℤ, ◌*◌, ◌+◌, ◌+ℤ◌, ◌-◌, ◌<◌, ◌^◌, ◌∙◌, ◌∷◌, ◌≡◌, ◌≤◌}
use Rattle.std.specs.Int.{int_wrap, w64}
use Rattle.std.specs.Int.RustNames.{unsigned_abs}
use Rattle.std.specs.List.{fold, list_all, sum_by}
use Rattle.std.proofs.lemmas.Bool.{and_parts, or_cases, or_left, or_right}
use Rattle.std.proofs.lemmas.Int.{int_wrap_fits, ints, wrapping_add_is}
use Rattle.std.proofs.lemmas.List.Sums.{sum_by-cons}
use Rattle.str_base.proofs.SameNames.{is-same_key, same_key-is}
use Rattle.str_base.specs.declared.names.KeyId.{KeyId}
use Rattle.str_base.specs.declared.names.Value.{Value}
use Rattle.str_base.specs.declared.names.Value.TheVariants.{Num}
use Rattle.str_base.specs.Members.{In}
use Rattle.str_base.specs.Values.{number_or_zero, sum_with}
use Rattle.str_base.specs.Versions.{same_key}
use Rattle.str_scene.specs.declared.names.Op.{Op}
use Rattle.str_scene.specs.declared.names.Op.TheVariants.{Abort, Add, Del, Get, Need, Put, Puts}
use Rattle.si_laws.specs.Commits.{Member}
use Rattle.bank_book.specs.Balances.{holdings, value_after}
use Rattle.bank_book.specs.BankLaw.{total}
use Rattle.bank_book.specs.BankScenes.{account, amount, is_among, opens}

-- ---- the amounts of an opening

-- an amount is a number below 2^31
pub opens_amount : (op : Op) → opens op ≡ true → (n : ℕ) × (amount op ≡ pos n) × (n < 2 ^ 31)
opens_amount (Put k (pos n)) e = (n, refl, ltb-true n (2 ^ 31) e)
opens_amount (Put k (negsuc n)) e = absurd (cc e)
opens_amount (Get k) e = absurd (cc e)
opens_amount (Puts k t) e = absurd (cc e)
opens_amount (Add k n) e = absurd (cc e)
opens_amount (Del k) e = absurd (cc e)
opens_amount (Need k n) e = absurd (cc e)
opens_amount Abort e = absurd (cc e)

-- an amount as a number
abbrev pub deposit : Op → ℕ
deposit op = unsigned_abs (amount op)

pub amount_deposit : (op : Op) → opens op ≡ true → amount op ≡ pos (deposit op)
amount_deposit op e = let r = opens_amount op e in r.1 ∙ ap (λ (z : ℤ). pos (unsigned_abs z)) (sym r.1)

pub deposit_below : (op : Op) → opens op ≡ true → deposit op < 2 ^ 31
deposit_below op e = let r = opens_amount op e in let q : deposit op ≡ r.0 = ap unsigned_abs r.1 in subst (λ z. z < 2 ^ 31) (sym q) r.2

-- the sum of the amounts
abbrev pub deposits : List Op → ℕ
deposits ops = sum_by deposit ops

one_step : (s a r n : ℕ) → s ≡ a + r → a < 2 ^ 31 → r ≤ n * 2 ^ 31 → s ≤ suc n * 2 ^ 31
one_step s a r n e h l = omega arith

pub deposits_few : (ops : List Op) (n : ℕ) → list_all opens ops ≡ true → length ops ≤ n → deposits ops ≤ n * 2 ^ 31
deposits_few [] n a h = omega arith
deposits_few (op ∷ ops) zero a h = absurd (omega arith)
deposits_few (op ∷ ops) (suc n) a h =
    let p = and_parts (opens op) (list_all opens ops) a in
    one_step (deposits (op ∷ ops)) (deposit op) (deposits ops) n (sum_by-cons deposit op ops) (deposit_below op p.0) (deposits_few ops n p.1 (omega arith))

shift : (z n s t : ℕ) → t ≡ n + s → (z + n) + s ≡ z + t
shift z n s t e = omega arith

-- as a sum of numbers with a sign
deposits_from : (ops : List Op) (z : ℕ) → list_all opens ops ≡ true → fold (λ (sum n : ℤ). sum +ℤ n) (pos z) (map amount ops) ≡ pos (z + deposits ops)
deposits_from [] z a = ap pos (omega arith)
deposits_from (op ∷ ops) z a =
    let p = and_parts (opens op) (list_all opens ops) a in
    ap (λ (n : ℤ). fold (λ (sum m : ℤ). sum +ℤ m) (pos z +ℤ n) (map amount ops)) (amount_deposit op p.0)
    ∙ (deposits_from ops (z + deposit op) p.1 ∙ ap pos (shift z (deposit op) (deposits ops) (deposits (op ∷ ops)) (sum_by-cons deposit op ops)))

pub deposits_total : (ops : List Op) → list_all opens ops ≡ true → total (map amount ops) ≡ pos (deposits ops)
deposits_total ops a = deposits_from ops 0 a ∙ ap pos (omega arith)

-- ---- its accounts

pub account_among : (ops : List Op) (k : KeyId) → is_among (map account ops) k ≡ true → (op : Op) × (In op ops) × (account op ≡ k)
account_among [] k h = absurd (cc h)
account_among (op ∷ ops) k h = elim (or_cases (same_key (account op) k) (is_among (map account ops) k) h) [
  | inl e ↦ (op, inl refl, same_key-is (account op) k e)
  | inr e ↦ (let r = account_among ops k e in (r.0, inr r.1, r.2))
]

pub among_account : (ops : List Op) (op : Op) → In op ops → is_among (map account ops) (account op) ≡ true
among_account [] op h = absurd h
among_account (o ∷ ops) op (inl e) = or_left (same_key (account o) (account op)) (is_among (map account ops) (account op)) (is-same_key (account o) (account op) (ap account e))
among_account (o ∷ ops) op (inr h) = or_right (same_key (account o) (account op)) (is_among (map account ops) (account op)) (among_account ops op h)

alike : (s t a b r u : ℕ) → s ≡ a + r → t ≡ b + u → a ≡ b → r ≡ u → s ≡ t
alike s t a b r u p q e f = omega arith

pub opened_sum : (has : KeyId → ℕ) (ops : List Op) → ((op : Op) → In op ops → has (account op) ≡ deposit op) → sum_by has (map account ops) ≡ deposits ops
opened_sum has [] h = refl
opened_sum has (op ∷ ops) h =
    alike (sum_by has (map account (op ∷ ops))) (deposits (op ∷ ops)) (has (account op)) (deposit op) (sum_by has (map account ops)) (deposits ops)
    (sum_by-cons has (account op) (map account ops)) (sum_by-cons deposit op ops) (h op (inl refl)) (opened_sum has ops (λ o i. h o (inr i)))

-- ---- what accounts hold

-- they hold what the function says
abbrev pub Holds : List KeyId → List Member → (KeyId → ℕ) → Type 0
Holds accounts past has = (k : KeyId) → is_among accounts k ≡ true → value_after past k ≡ Num (pos (has k))

held_from : (accounts : List KeyId) (past : List Member) (has : KeyId → ℕ) (z : ℕ) → Holds accounts past has
    → fold (λ (sum n : ℤ). sum +ℤ n) (pos z) (map number_or_zero (map (value_after past) accounts)) ≡ pos (z + sum_by has accounts)
held_from [] past has z h = ap pos (omega arith)
held_from (k ∷ ks) past has z h =
    ap (λ (v : Value). fold (λ (sum m : ℤ). sum +ℤ m) (pos z +ℤ number_or_zero v) (map number_or_zero (map (value_after past) ks))) (h k (or_left (same_key k k) (is_among ks k) (is-same_key k k refl)))
    ∙ (held_from ks past has (z + has k) (λ l i. h l (or_right (same_key k l) (is_among ks l) i))
    ∙ ap pos (shift z (has k) (sum_by has ks) (sum_by has (k ∷ ks)) (sum_by-cons has k ks)))

pub held_total : (accounts : List KeyId) (past : List Member) (has : KeyId → ℕ) → Holds accounts past has → total (map number_or_zero (holdings accounts past)) ≡ pos (sum_by has accounts)
held_total accounts past has h = held_from accounts past has 0 h ∙ ap pos (omega arith)

pub held_numbers : (accounts : List KeyId) (past : List Member) (has : KeyId → ℕ) → Holds accounts past has → (v : Value) → In v (holdings accounts past) → (n : ℕ) × (v ≡ Num (pos n))
held_numbers [] past has h v i = absurd i
held_numbers (k ∷ ks) past has h v (inl e) = (has k, sym e ∙ h k (or_left (same_key k k) (is_among ks k) (is-same_key k k refl)))
held_numbers (k ∷ ks) past has h v (inr i) = held_numbers ks past has (λ l j. h l (or_right (same_key k l) (is_among ks l) j)) v i

-- ---- sums of 64 bits

natural_fits : (n : ℕ) → n < 2 ^ 63 → FitsSigned w64 (pos n)
natural_fits n h = record { sfits = h }

negative_fits : (v : ℕ) → v < 2 ^ 31 → FitsSigned w64 (neg_ℤ (pos v))
negative_fits zero h = record { sfits = omega arith }
negative_fits (suc u) h = record { sfits = omega arith }

pub wrap_natural : (n : ℕ) → n < 2 ^ 63 → int_wrap w64 (pos n) ≡ pos n
wrap_natural n h = int_wrap_fits w64 (pos n) (natural_fits n h)

less_is : (b v : ℕ) → v ≤ b → pos b +ℤ neg_ℤ (pos v) ≡ pos (b - v)
less_is b v h = omega (arith, ints)

-- v less, where there is as much
pub pays_less : (b v : ℕ) → v ≤ b → b < 2 ^ 63 → v < 2 ^ 31 → sum_with (Num (pos b)) (neg_ℤ (pos v)) ≡ Num (pos (b - v))
pays_less b v h l m =
    ap (λ (z : ℤ). Num z) (wrapping_add_is w64 (pos b) (neg_ℤ (pos v)) (natural_fits b l) (negative_fits v m)
    ∙ (ap (int_wrap w64) (less_is b v h) ∙ wrap_natural (b - v) (omega arith)))

-- v more
pub gets_more : (b v : ℕ) → b + v < 2 ^ 63 → sum_with (Num (pos b)) (pos v) ≡ Num (pos (b + v))
gets_more b v h = ap (λ (z : ℤ). Num z) (wrapping_add_is w64 (pos b) (pos v) (natural_fits b (omega arith)) (natural_fits v (omega arith)) ∙ wrap_natural (b + v) h)
