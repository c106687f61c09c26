-- When a gate gives each of its answers.
use Rattle.std.proofs.Common.{Bool, List, None, Option, Some, [], ap, arith, cond, false, find, inl, inr, map, max, refl, slice_get, subst, suc, sym, true, zero, ℕ, ◌∙◌, ◌∷◌, ◌≡◌, ◌≤◌, ◌<◌, ◌⊎◌}
use Rattle.std.specs.List.{AllByRecursion}
use Rattle.commit_gate.specs.Answers.{IsAcked, IsGreatest, IsLeast, IsUpwards}
use Rattle.dependency_set.specs.declared.names.Dep.{Dep}
use Rattle.dependency_set.specs.Snapshots.{IsRising}
use Rattle.partition_map.specs.declared.rows.Asked.{Asked}
use Rattle.str_base.specs.declared.names.Ts.{Ts}
use Rattle.str_model.specs.Gates.{ack_or_zero}
use Rattle.str_model.specs.Turns.{greatest}

-- ---- the least partition

-- what is found stands at or before each that passes
found_before : (test : Asked → Bool) (xs : List Asked) (i : ℕ) (x y : Asked) → find test xs ≡ Some x → slice_get xs i ≡ Some y → test y ≡ true
    → (j : ℕ) × (j ≤ i) × (slice_get xs j ≡ Some x)
found_before test [] i x y f g p = absurd (cc g)
found_before test (z ∷ zs) zero x y f g p = let q : z ≡ y = cc g in let e : Some y ≡ Some x = rw (q, p) at f in (0, omega arith, ap (λ w. Some w) q ∙ e)
found_before test (z ∷ zs) (suc i) x y f g p = by_test (test z) f (λ h. found_before test zs i x y h g p)
  where
    by_test : (b : Bool) → cond b (Some z) (find test zs) ≡ Some x → (find test zs ≡ Some x → (j : ℕ) × (j ≤ i) × (slice_get zs j ≡ Some x))
        → (j : ℕ) × (j ≤ suc i) × (slice_get (z ∷ zs) j ≡ Some x)
    by_test true e rec = (0, omega arith, e)
    by_test false e rec = let r = rec e in (suc r.0, omega (arith, r.1), r.2)

pub least_part : (test : Asked → Bool) (parts : List Asked) (a b : Asked) (i : ℕ) → find test parts ≡ Some a → IsUpwards parts → slice_get parts i ≡ Some b → test b ≡ true → a.part.0 ≤ b.part.0
least_part test parts a b i f up g p = let r = found_before test parts i a b f g p in up r.0 i a b r.1 r.2 g

-- ---- the least dependency

all_at : (P : Dep → Type 0) (ds : List Dep) (i : ℕ) (d : Dep) → AllByRecursion P ds → slice_get ds i ≡ Some d → P d
all_at P [] i d h e = absurd (cc e)
all_at P (x ∷ xs) zero d h e = let q : x ≡ d = cc e in subst P q h.0
all_at P (x ∷ xs) (suc i) d h e = all_at P xs i d h.1 e

pub first_least : (ds : List Dep) (d : Dep) → IsRising ds → slice_get ds 0 ≡ Some d → IsLeast ds d.seq
first_least [] d r g = absurd (cc g)
first_least (x ∷ xs) d r g = record { one = (0, d, g, refl); least = least_of }
  where
    least_of : (i : ℕ) (e : Dep) → slice_get (x ∷ xs) i ≡ Some e → d.seq ≤ e.seq
    least_of zero e h = let q : d ≡ e = cc (g, h) in rw q (omega arith)
    least_of (suc i) e h =
        let q : x ≡ d = cc g in
        let k = all_at (λ k. x.seq < k.seq) xs i e r.0 h in
        omega (arith, k, ap (λ (z : Dep). z.seq) q)

pub one_least : (ds : List Dep) (p q : ℕ) → IsLeast ds p → IsLeast ds q → p ≡ q
one_least ds p q h k =
    let a = h.least k.one.0 k.one.1 k.one.2 in
    let b = k.least h.one.0 h.one.1 h.one.2 in
    omega (arith, a, b, h.one.3, k.one.3)

-- ---- the greatest answer

max_cases : (m n : ℕ) → (max m n ≡ m) ⊎ (max m n ≡ n)
max_cases m n = grind arith

acked : (a : Asked) → (ack_or_zero a ≡ 0) ⊎ ((t : Ts) × (a.ack ≡ Some t) × (t.0 ≡ ack_or_zero a))
acked a = by_ack a.ack refl
  where
    by_ack : (o : Option Ts) → a.ack ≡ o → (ack_or_zero a ≡ 0) ⊎ ((t : Ts) × (a.ack ≡ Some t) × (t.0 ≡ ack_or_zero a))
    by_ack None e = inl (rw e refl)
    by_ack (Some t) e = inr (t, e, rw e refl)

greatest_one : (parts : List Asked) → (greatest (map ack_or_zero parts) ≡ 0) ⊎ IsAcked parts (greatest (map ack_or_zero parts))
greatest_one [] = inl refl
greatest_one (a ∷ others) = by_max (greatest_one others) (acked a) (max_cases (ack_or_zero a) (greatest (map ack_or_zero others)))
  where
    by_max : (greatest (map ack_or_zero others) ≡ 0) ⊎ IsAcked others (greatest (map ack_or_zero others)) → (ack_or_zero a ≡ 0) ⊎ ((t : Ts) × (a.ack ≡ Some t) × (t.0 ≡ ack_or_zero a))
        → (max (ack_or_zero a) (greatest (map ack_or_zero others)) ≡ ack_or_zero a) ⊎ (max (ack_or_zero a) (greatest (map ack_or_zero others)) ≡ greatest (map ack_or_zero others))
        → (max (ack_or_zero a) (greatest (map ack_or_zero others)) ≡ 0) ⊎ IsAcked (a ∷ others) (max (ack_or_zero a) (greatest (map ack_or_zero others)))
    by_max r (inl z) (inl m) = inl (m ∙ z)
    by_max r (inr k) (inl m) = inr (0, a, k.0, refl, k.1, k.2 ∙ sym m)
    by_max (inl z) k (inr m) = inl (m ∙ z)
    by_max (inr r) k (inr m) = inr (suc r.0, r.1, r.2, r.3, r.4, r.5 ∙ sym m)

answer_below : (parts : List Asked) (i : ℕ) (a : Asked) (t : Ts) → slice_get parts i ≡ Some a → a.ack ≡ Some t → t.0 ≤ greatest (map ack_or_zero parts)
answer_below [] i a t g e = absurd (cc g)
answer_below (x ∷ xs) zero a t g e =
    let q : x ≡ a = cc g in
    let is : ack_or_zero x ≡ t.0 = rw (q, e) refl in
    omega (arith, is)
answer_below (x ∷ xs) (suc i) a t g e = let h = answer_below xs i a t g e in omega (arith, h)

pub greatest_is : (lc : ℕ) (parts : List Asked) → IsGreatest lc parts (max lc (greatest (map ack_or_zero parts)))
greatest_is lc parts =
    record {
      from = omega arith;
      above = λ n k. let h = answer_below parts k.0 k.1 k.2 k.3 k.4 in omega (arith, h, k.5);
      one = by_max (greatest_one parts) (max_cases lc (greatest (map ack_or_zero parts)));
    }
  where
    by_max : (greatest (map ack_or_zero parts) ≡ 0) ⊎ IsAcked parts (greatest (map ack_or_zero parts))
        → (max lc (greatest (map ack_or_zero parts)) ≡ lc) ⊎ (max lc (greatest (map ack_or_zero parts)) ≡ greatest (map ack_or_zero parts))
        → (max lc (greatest (map ack_or_zero parts)) ≡ lc) ⊎ IsAcked parts (max lc (greatest (map ack_or_zero parts)))
    by_max r (inl m) = inl m
    by_max (inl z) (inr m) = inl (omega (arith, z))
    by_max (inr r) (inr m) = inr (r.0, r.1, r.2, r.3, r.4, r.5 ∙ sym m)

no_more : (lc : ℕ) (parts : List Asked) (m n : ℕ) → IsGreatest lc parts m → IsGreatest lc parts n → m ≤ n
no_more lc parts m n h k = elim h.one [ inl e ↦ omega (arith, e, k.from) | inr a ↦ k.above m a ]

pub one_greatest : (lc : ℕ) (parts : List Asked) (m n : ℕ) → IsGreatest lc parts m → IsGreatest lc parts n → m ≡ n
one_greatest lc parts m n h k = omega (arith, no_more lc parts m n h k, no_more lc parts n m k h)
