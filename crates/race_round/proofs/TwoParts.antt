-- Two elements of a list, of which the second begins the back part where the list is split.
use Rattle.std.proofs.Common.{◌≡◌, ◌≢◌, ℕ, List, [], ◌++◌, ◌-◌, ◌<◌, ◌≤◌, length, sym, ◌∙◌, subst, arith, slice_index_or, ap, append-nil, drop, inl, inr, set, take, length-append, length-set, get_or-set_same}
use Rattle.std.proofs.Math.ListN.{drop_of_length-le}
use Rattle.std.proofs.Math.Seq.{take-length}
use Rattle.std.proofs.lemmas.List.{get_or_default, get_or_append_left, get_or-append_right, get_or-set_other}
use Rattle.std.proofs.lemmas.Bool.{cases_lt}

module _ {X : Type 0} (xs f b : List X) (low high : ℕ) (is : xs ≡ f ++ b) (len : length f ≡ high) (lt : low < high) (within : high < length xs) where
  front : (d e : X) → slice_index_or xs low d ≡ slice_index_or f low e
  front d e = ap (λ ys. slice_index_or ys low d) is ∙ (get_or_append_left f b d low (omega (arith, len, lt)) ∙ get_or_default f low d e (omega (arith, len, lt)))

  some_back : 0 < length b
  some_back = omega (arith, ap (λ (ys : List X). length ys) is, length-append f b, len, within)

  back : (d e : X) → slice_index_or xs high d ≡ slice_index_or b 0 e
  back d e =
      let none : high - high ≡ 0 = omega arith in
      let there : slice_index_or (f ++ b) high d ≡ slice_index_or b (high - high) d = get_or-append_right f b high high d len (omega arith) in
      ap (λ ys. slice_index_or ys high d) is ∙ (there ∙ (ap (λ n. slice_index_or b n d) none ∙ get_or_default b 0 d e some_back))

  -- what holds of two elements of a list holds of them in its two parts
  pub pair_read : (P : X → X → Type 0) → ((d : X) → P (slice_index_or xs low d) (slice_index_or xs high d)) → (d e : X) → P (slice_index_or f low d) (slice_index_or b 0 e)
  pair_read P h d e = subst (λ x. P x (slice_index_or b 0 e)) (front d d) (subst (λ y. P (slice_index_or xs low d) y) (back d e) (h d))

  module _ (x y : X) where
    abbrev written : List X
    written = set f low x ++ set b 0 y

    one : (d : X) → slice_index_or written low d ≡ x
    one d =
        let lens : length (set f low x) ≡ high = length-set f low x ∙ len in
        get_or_append_left (set f low x) (set b 0 y) d low (omega (arith, lens, lt)) ∙ get_or-set_same f low x d (omega (arith, len, lt))

    two : (d : X) → slice_index_or written high d ≡ y
    two d =
        let lens : length (set f low x) ≡ high = length-set f low x ∙ len in
        let none : high - high ≡ 0 = omega arith in
        let there : slice_index_or written high d ≡ slice_index_or (set b 0 y) (high - high) d = get_or-append_right (set f low x) (set b 0 y) high high d lens (omega arith) in
        there ∙ (ap (λ n. slice_index_or (set b 0 y) n d) none ∙ get_or-set_same b 0 y d some_back)

    -- the two elements, as they were left
    pub pair_left : (P : X → X → X → X → Type 0) (d1 d2 : X) → P (slice_index_or f low d1) (slice_index_or b 0 d2) x y → (d : X)
        → P (slice_index_or xs low d) (slice_index_or xs high d) (slice_index_or written low d) (slice_index_or written high d)
    pair_left P d1 d2 h d =
        let a = subst (λ u. P u (slice_index_or b 0 d2) x y) (sym (front d d1)) h in
        let c = subst (λ u. P (slice_index_or xs low d) u x y) (sym (back d d2)) a in
        let e = subst (λ u. P (slice_index_or xs low d) (slice_index_or xs high d) u y) (sym (one d)) c in
        subst (λ u. P (slice_index_or xs low d) (slice_index_or xs high d) (slice_index_or written low d) u) (sym (two d)) e

    pub count_left : length written ≡ length xs
    count_left =
        let a = length-append (set f low x) (set b 0 y) in
        let c = length-set f low x in
        let d = length-set b 0 y in
        let e = ap (λ (ys : List X). length ys) is ∙ length-append f b in
        omega (arith, a, c, d, e)

    -- any other element is as it was
    pub rest_left : (i : ℕ) (d : X) → i ≢ low → i ≢ high → slice_index_or written i d ≡ slice_index_or xs i d
    rest_left i d no_low no_high =
        let lens : length (set f low x) ≡ high = length-set f low x ∙ len in
        elim (cases_lt i high) [
          | inl h ↦
              get_or_append_left (set f low x) (set b 0 y) d i (omega (arith, lens, h))
              ∙ (get_or-set_other f low i x d no_low
              ∙ (sym (get_or_append_left f b d i (omega (arith, len, h))) ∙ sym (ap (λ ys. slice_index_or ys i d) is)))
          | inr h ↦
              get_or-append_right (set f low x) (set b 0 y) high i d lens (omega (arith, h))
              ∙ (get_or-set_other b 0 (i - high) y d (λ q. absurd (omega (arith, q, h, no_high)))
              ∙ (sym (get_or-append_right f b high i d len (omega (arith, h))) ∙ sym (ap (λ ys. slice_index_or ys i d) is)))
        ]

-- a part that is as long as the whole takes its place
pub refilled : {X : Type 0} (n : ℕ) (xs ws : List X) → n ≡ length xs → length ws ≡ length xs → take n (ws ++ drop (length ws) xs) ≡ ws
refilled n xs ws e l =
    let long : length xs ≤ length ws = omega (arith, l) in
    let gone : drop (length ws) xs ≡ [] = drop_of_length-le xs long in
    let same : n ≡ length ws = e ∙ sym l in
    ap (λ ys. take n (ws ++ ys)) gone ∙ (ap (take n) (append-nil ws) ∙ (ap (λ k. take k ws) same ∙ take-length ws))
