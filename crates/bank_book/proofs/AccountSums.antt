-- Sums over distinct accounts, of which a transfer changes two.
use Rattle.std.proofs.Common.{Bool, List, [], ap, arith, false, if◌then◌else◌, inl, inr, not, refl, subst, sym, true, ℕ, ◌+◌, ◌-◌, ◌∙◌, ◌∷◌, ◌≡◌, ◌≢◌, ◌≤◌, ◌⊎◌}
use Rattle.std.specs.List.{sum_by}
use Rattle.std.proofs.lemmas.Bool.{and_parts, not-true, or_cases, or_left, or_right}
use Rattle.std.proofs.lemmas.List.Sums.{sum_by-cons}
use Rattle.str_base.proofs.SameNames.{is-same_key, same_key-is}
use Rattle.str_base.specs.declared.names.KeyId.{KeyId}
use Rattle.str_base.specs.Versions.{same_key}
use Rattle.bank_book.specs.BankScenes.{are_distinct, is_among}

-- ---- keys

pub not_same : (a b : KeyId) → a ≢ b → same_key a b ≡ false
not_same a b n = by_test (same_key a b) refl
  where
    by_test : (t : Bool) → same_key a b ≡ t → same_key a b ≡ false
    by_test true e = absurd (n (same_key-is a b e))
    by_test false e = e

pub apart : (a b : KeyId) → same_key a b ≡ false → a ≢ b
apart a b e q = absurd (cc (is-same_key a b q, e))

-- ---- sums

add_same : (a b s t : ℕ) → a ≡ b → s ≡ t → a + s ≡ b + t
add_same a b s t p q = omega arith

pub sum_same : (f g : KeyId → ℕ) (ks : List KeyId) → ((l : KeyId) → is_among ks l ≡ true → f l ≡ g l) → sum_by f ks ≡ sum_by g ks
sum_same f g [] h = refl
sum_same f g (l ∷ ks) h =
    sum_by-cons f l ks
    ∙ (add_same (f l) (g l) (sum_by f ks) (sum_by g ks) (h l (or_left (same_key l l) (is_among ks l) (is-same_key l l refl))) (sum_same f g ks (λ m p. h m (or_right (same_key l m) (is_among ks m) p)))
    ∙ sym (sum_by-cons g l ks))

at_head : (sf sg fk gk fl gl rf rg : ℕ) → sf ≡ fl + rf → sg ≡ gl + rg → rf ≡ rg → fl ≡ fk → gl ≡ gk → sf + gk ≡ sg + fk
at_head sf sg fk gk fl gl rf rg a b c d e = omega arith

past_head : (sf sg fk gk fl gl rf rg : ℕ) → sf ≡ fl + rf → sg ≡ gl + rg → fl ≡ gl → rf + gk ≡ rg + fk → sf + gk ≡ sg + fk
past_head sf sg fk gk fl gl rf rg a b c d = omega arith

-- two sums that differ at one account
pub change_one : (f g : KeyId → ℕ) (k : KeyId) (ks : List KeyId) → are_distinct ks ≡ true → is_among ks k ≡ true → ((l : KeyId) → l ≢ k → f l ≡ g l)
    → sum_by f ks + g k ≡ sum_by g ks + f k
change_one f g k [] d h s = absurd (cc h)
change_one f g k (l ∷ ks) d h s = by_test (λ i. change_one f g k ks (and_parts (not (is_among ks l)) (are_distinct ks) d).1 i s) (same_key l k) refl
  where
    parts : (not (is_among ks l) ≡ true) × (are_distinct ks ≡ true)
    parts = and_parts (not (is_among ks l)) (are_distinct ks) d

    -- a later account is not the first one
    later : (m : KeyId) → is_among ks m ≡ true → l ≡ k → m ≢ k
    later m p q r = let t : is_among ks l ≡ true = subst (λ z. is_among ks z ≡ true) (r ∙ sym q) p in let u : is_among ks l ≡ false = not-true (is_among ks l) parts.0 in absurd (cc (t, u))

    rest : same_key l k ≡ false → (same_key l k ≡ true) ⊎ (is_among ks k ≡ true) → is_among ks k ≡ true
    rest e (inl p) = absurd (cc (p, e))
    rest e (inr p) = p

    by_test : (is_among ks k ≡ true → sum_by f ks + g k ≡ sum_by g ks + f k) → (t : Bool) → same_key l k ≡ t → sum_by f (l ∷ ks) + g k ≡ sum_by g (l ∷ ks) + f k
    by_test rec true e =
        let q : l ≡ k = same_key-is l k e in
        at_head (sum_by f (l ∷ ks)) (sum_by g (l ∷ ks)) (f k) (g k) (f l) (g l) (sum_by f ks) (sum_by g ks) (sum_by-cons f l ks) (sum_by-cons g l ks)
        (sum_same f g ks (λ m p. s m (later m p q))) (ap f q) (ap g q)
    by_test rec false e =
        past_head (sum_by f (l ∷ ks)) (sum_by g (l ∷ ks)) (f k) (g k) (f l) (g l) (sum_by f ks) (sum_by g ks) (sum_by-cons f l ks) (sum_by-cons g l ks)
        (s l (apart l k e)) (rec (rest e (or_cases (same_key l k) (is_among ks k) h)))

at_most_head : (s a r : ℕ) → s ≡ a + r → a ≤ s
at_most_head s a r e = omega arith

at_most_rest : (s a b r : ℕ) → s ≡ a + r → b ≤ r → b ≤ s
at_most_rest s a b r e h = omega arith

-- no account has more than the sum
pub at_most : (f : KeyId → ℕ) (k : KeyId) (ks : List KeyId) → is_among ks k ≡ true → f k ≤ sum_by f ks
at_most f k [] h = absurd (cc h)
at_most f k (l ∷ ks) h = elim (or_cases (same_key l k) (is_among ks k) h) [
  | inl e ↦ subst (λ z. f z ≤ sum_by f (l ∷ ks)) (same_key-is l k e) (at_most_head (sum_by f (l ∷ ks)) (f l) (sum_by f ks) (sum_by-cons f l ks))
  | inr e ↦ at_most_rest (sum_by f (l ∷ ks)) (f l) (f k) (sum_by f ks) (sum_by-cons f l ks) (at_most f k ks e)
]

-- ---- a transfer

-- what accounts have once v is paid by x to y
abbrev pub after : KeyId → KeyId → ℕ → (KeyId → ℕ) → KeyId → ℕ
after x y v has k = if same_key x k then has k - v else (if same_key y k then has k + v else has k)

-- once x has paid, and nobody has got it
abbrev between : KeyId → ℕ → (KeyId → ℕ) → KeyId → ℕ
between x v has k = if same_key x k then has k - v else has k

paid : (b m a bx mx my ay by v : ℕ) → v ≤ bx → b + mx ≡ m + bx → mx ≡ bx - v → m + ay ≡ a + my → ay ≡ by + v → my ≡ by → a ≡ b
paid b m a bx mx my ay by v h p q r s t = omega arith

pub after_sum : (x y : KeyId) (v : ℕ) (has : KeyId → ℕ) (ks : List KeyId) → are_distinct ks ≡ true → is_among ks x ≡ true → is_among ks y ≡ true → same_key x y ≡ false → v ≤ has x
    → sum_by (after x y v has) ks ≡ sum_by has ks
after_sum x y v has ks d hx hy e h =
    paid (sum_by has ks) (sum_by (between x v has) ks) (sum_by (after x y v has) ks) (has x) (between x v has x) (between x v has y) (after x y v has y) (has y) v h
    (change_one has (between x v has) x ks d hx (λ l n. rw (not_same x l (λ q. n (sym q))) refl))
    (rw (is-same_key x x refl) refl)
    (change_one (between x v has) (after x y v has) y ks d hy (λ l n. rw (not_same y l (λ q. n (sym q))) refl))
    (rw (e, is-same_key y y refl) refl)
    (rw e refl)
