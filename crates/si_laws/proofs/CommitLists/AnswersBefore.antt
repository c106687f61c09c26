-- The order of answers in a list, and what the release of one more keeps.
use Rattle.std.proofs.Common.{Bool, List, [], ap, arith, false, if◌then◌else◌, inl, inr, ltb-true, nat_lt, refl, true, ◌++◌, ◌<◌, ◌∷◌, ◌≡◌, ◌⊎◌}
use Rattle.str_model.proofs.Changes.AnswerChanges.{Rising, r_more, r_none}
use Rattle.str_model.specs.Views.{release}
use Rattle.str_model.specs.declared.messages.Answer.{Answer}
use Rattle.str_base.proofs.Members.{in_append, in_left, in_right}
use Rattle.str_base.specs.Members.{In}

-- the one stands before the other
abbrev pub Precedes : List Answer → Answer → Answer → Type 0
Precedes [] b a = ⊥
Precedes (x ∷ xs) b a = ((x ≡ b) × In a xs) ⊎ Precedes xs b a

pub precedes_left : (xs ys : List Answer) (b a : Answer) → Precedes xs b a → Precedes (xs ++ ys) b a
precedes_left [] ys b a h = absurd h
precedes_left (x ∷ xs) ys b a (inl h) = inl (h.0, in_left xs ys a h.1)
precedes_left (x ∷ xs) ys b a (inr h) = inr (precedes_left xs ys b a h)

pub precedes_right : (xs ys : List Answer) (b a : Answer) → Precedes ys b a → Precedes (xs ++ ys) b a
precedes_right [] ys b a h = h
precedes_right (x ∷ xs) ys b a h = inr (precedes_right xs ys b a h)

pub precedes_across : (xs ys : List Answer) (b a : Answer) → In b xs → In a ys → Precedes (xs ++ ys) b a
precedes_across [] ys b a h k = absurd h
precedes_across (x ∷ xs) ys b a (inl e) k = inl (e, in_right xs ys a k)
precedes_across (x ∷ xs) ys b a (inr h) k = inr (precedes_across xs ys b a h k)

pub precedes_cases : (xs ys : List Answer) (b a : Answer) → Precedes (xs ++ ys) b a → Precedes xs b a ⊎ ((In b xs × In a ys) ⊎ Precedes ys b a)
precedes_cases [] ys b a h = inr (inr h)
precedes_cases (x ∷ xs) ys b a (inl h) = elim (in_append xs ys a h.1) [ inl k ↦ inl (inl (h.0, k)) | inr k ↦ inr (inl (inl h.0, k)) ]
precedes_cases (x ∷ xs) ys b a (inr h) = elim (precedes_cases xs ys b a h) as (λ z. Precedes (x ∷ xs) b a ⊎ ((In b (x ∷ xs) × In a ys) ⊎ Precedes ys b a)) [
  | inl k ↦ inl (inr k)
  | inr k ↦ (elim k [ inl j ↦ inr (inl (inr j.0, j.1)) | inr j ↦ inr (inr j) ])
]

pub in_released : (c : Answer) (ds : List Answer) (a : Answer) → In a ds → In a (release c ds)
in_released c [] a h = absurd h
in_released c (x ∷ xs) a h = by_test (nat_lt c.tx.seq x.tx.seq) h (in_released c xs a)
  where
    by_test : (t : Bool) → In a (x ∷ xs) → (In a xs → In a (release c xs)) → In a (if t then c ∷ x ∷ xs else x ∷ release c xs)
    by_test true k rec = inr k
    by_test false (inl e) rec = inl e
    by_test false (inr k) rec = inr (rec k)

pub new_released : (c : Answer) (ds : List Answer) → In c (release c ds)
new_released c [] = inl refl
new_released c (x ∷ xs) = by_test (nat_lt c.tx.seq x.tx.seq) (new_released c xs)
  where
    by_test : (t : Bool) → In c (release c xs) → In c (if t then c ∷ x ∷ xs else x ∷ release c xs)
    by_test true rec = inl refl
    by_test false rec = inr rec

pub precedes_released : (c : Answer) (ds : List Answer) (b a : Answer) → Precedes ds b a → Precedes (release c ds) b a
precedes_released c [] b a h = absurd h
precedes_released c (x ∷ xs) b a h = by_test (nat_lt c.tx.seq x.tx.seq) h (precedes_released c xs b a)
  where
    by_test : (t : Bool) → Precedes (x ∷ xs) b a → (Precedes xs b a → Precedes (release c xs) b a) → Precedes (if t then c ∷ x ∷ xs else x ∷ release c xs) b a
    by_test true k rec = inr k
    by_test false (inl k) rec = inl (k.0, in_released c xs a k.1)
    by_test false (inr k) rec = inr (rec k)

-- one of a lower number stands before the new one
pub lower_first : (c : Answer) (ds : List Answer) (b : Answer) → Rising ds → In b ds → b.tx.seq < c.tx.seq → Precedes (release c ds) b c
lower_first c ds b r_none h l = absurd h
lower_first c ds b (r_more x xs above r) h l = by_test (nat_lt c.tx.seq x.tx.seq) refl h (λ k. lower_first c xs b r k l)
  where
    by_test : (t : Bool) → nat_lt c.tx.seq x.tx.seq ≡ t → In b (x ∷ xs) → (In b xs → Precedes (release c xs) b c) → Precedes (if t then c ∷ x ∷ xs else x ∷ release c xs) b c
    by_test true q (inl e) rec = let m = ltb-true c.tx.seq x.tx.seq q in absurd (omega (arith, m, l, ap (λ (z : Answer). z.tx.seq) e))
    by_test true q (inr k) rec = let m = ltb-true c.tx.seq x.tx.seq q in let n = above b k in absurd (omega (arith, m, l, n))
    by_test false q (inl e) rec = inl (e, new_released c xs)
    by_test false q (inr k) rec = inr (rec k)

-- the list of one event grows
pub precedes_event : (old ds : List Answer) (c b a : Answer) → Precedes (old ++ ds) b a → Precedes (old ++ release c ds) b a
precedes_event old ds c b a h = elim (precedes_cases old ds b a h) [
  | inl k ↦ precedes_left old (release c ds) b a k
  | inr k ↦ (elim k [ inl j ↦ precedes_across old (release c ds) b a j.0 (in_released c ds a j.1) | inr j ↦ precedes_right old (release c ds) b a (precedes_released c ds b a j) ])
]

pub in_event : (old ds : List Answer) (c a : Answer) → In a (old ++ ds) → In a (old ++ release c ds)
in_event old ds c a h = elim (in_append old ds a h) [ inl k ↦ in_left old (release c ds) a k | inr k ↦ in_right old (release c ds) a (in_released c ds a k) ]
