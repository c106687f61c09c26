-- Lists whose places match, one by one.
use Rattle.std.proofs.Common.{List, None, Option, Some, [], ap, arith, inl, inr, length, length-append, refl, replicate, slice_get, subst₂, suc, zero, ℕ, ◌++◌, ◌-◌, ◌∷◌, ◌≡◌}
use Rattle.std.specs.List.{last_or}
use Rattle.str_base.specs.declared.names.TxId.{TxId}
use Rattle.str_base.specs.Members.{In}
use Rattle.str_model.specs.declared.messages.Message.{Message}
use Rattle.str_model.proofs.Pruning.Twins.{Alike, AllAlike, a_refuse, a_reply, a_same}

-- of the items at one place
abbrev pub Paired : {A B : Type 0} → (A → B → Type 0) → List A → List B → Type 0
Paired R [] [] = Unit {0}
Paired R [] (y ∷ ys) = ⊥
Paired R (x ∷ xs) [] = ⊥
Paired R (x ∷ xs) (y ∷ ys) = R x y × Paired R xs ys

pub paired_append : {A B : Type 0} (R : A → B → Type 0) (xs : List A) (ys : List B) (us : List A) (vs : List B) → Paired R xs ys → Paired R us vs → Paired R (xs ++ us) (ys ++ vs)
paired_append R [] [] us vs a b = b
paired_append R [] (y ∷ ys) us vs a b = absurd a
paired_append R (x ∷ xs) [] us vs a b = absurd a
paired_append R (x ∷ xs) (y ∷ ys) us vs a b = (a.0, paired_append R xs ys us vs a.1 b)

pub paired_weaker : {A B : Type 0} (R S : A → B → Type 0) → ((x : A) (y : B) → R x y → S x y) → (xs : List A) (ys : List B) → Paired R xs ys → Paired S xs ys
paired_weaker R S f [] [] a = tt
paired_weaker R S f [] (y ∷ ys) a = absurd a
paired_weaker R S f (x ∷ xs) [] a = absurd a
paired_weaker R S f (x ∷ xs) (y ∷ ys) a = (f x y a.0, paired_weaker R S f xs ys a.1)

pub paired_replicate : {A B : Type 0} (R : A → B → Type 0) (xs : List A) (y : B) → ((x : A) → In x xs → R x y) → Paired R xs (replicate (length xs) y)
paired_replicate R [] y f = tt
paired_replicate R (x ∷ xs) y f = (f x (inl refl), paired_replicate R xs y (λ z i. f z (inr i)))

pub paired_at : {A B : Type 0} (R : A → B → Type 0) (xs : List A) (ys : List B) (k : ℕ) (x : A) (y : B) → Paired R xs ys → slice_get xs k ≡ Some x → slice_get ys k ≡ Some y → R x y
paired_at R [] ys k x y a e f = absurd (cc e)
paired_at R (z ∷ xs) [] k x y a e f = absurd a
paired_at R (z ∷ xs) (u ∷ ys) zero x y a e f = let p : z ≡ x = cc e in let q : u ≡ y = cc f in subst₂ R p q a.0
paired_at R (z ∷ xs) (u ∷ ys) (suc k) x y a e f = paired_at R xs ys k x y a.1 e f

-- how many are new
pub new_length : {A : Type 0} (xs ys : List A) → length ys ≡ length (xs ++ ys) - length xs
new_length xs ys = let n = length-append xs ys in omega (arith, n)

pub last_push : {A : Type 0} (o : Option A) (xs : List A) (x : A) → last_or o (xs ++ x ∷ []) ≡ Some x
last_push o [] x = refl
last_push o (y ∷ ys) x = last_push (Some y) ys x

-- ---- messages alike

pub alike_weaker : (Dec Now : TxId → Type 0) → ((t : TxId) → Dec t → Now t) → (xs ys : List Message) → AllAlike Dec xs ys → AllAlike Now xs ys
alike_weaker Dec Now f [] [] a = tt
alike_weaker Dec Now f [] (y ∷ ys) a = absurd a
alike_weaker Dec Now f (x ∷ xs) [] a = absurd a
alike_weaker Dec Now f (x ∷ xs) (y ∷ ys) a = (one_weaker x y a.0, alike_weaker Dec Now f xs ys a.1)
  where
    one_weaker : (m n : Message) → Alike Dec m n → Alike Now m n
    one_weaker m n (a_same u v q) = a_same m n q
    one_weaker m n (a_reply from to tx k v v' by by' fc fc' d) = a_reply from to tx k v v' by by' fc fc' (f tx d)
    one_weaker m n (a_refuse from to tx p by by' k d) = a_refuse from to tx p by by' k (f tx d)

pub alike_length : (Dec : TxId → Type 0) (xs ys : List Message) → AllAlike Dec xs ys → length xs ≡ length ys
alike_length Dec [] [] a = refl
alike_length Dec [] (y ∷ ys) a = absurd a
alike_length Dec (x ∷ xs) [] a = absurd a
alike_length Dec (x ∷ xs) (y ∷ ys) a = ap (λ (n : ℕ). suc n) (alike_length Dec xs ys a.1)

-- at one place there is a message in both, or in neither
abbrev pub BothAlike : (TxId → Type 0) → Option Message → Option Message → Type 0
BothAlike Dec None None = Unit {0}
BothAlike Dec None (Some n) = ⊥
BothAlike Dec (Some m) None = ⊥
BothAlike Dec (Some m) (Some n) = Alike Dec m n

pub alike_at : (Dec : TxId → Type 0) (xs ys : List Message) (k : ℕ) → AllAlike Dec xs ys → BothAlike Dec (slice_get xs k) (slice_get ys k)
alike_at Dec [] [] k a = tt
alike_at Dec [] (y ∷ ys) k a = absurd a
alike_at Dec (x ∷ xs) [] k a = absurd a
alike_at Dec (x ∷ xs) (y ∷ ys) zero a = a.0
alike_at Dec (x ∷ xs) (y ∷ ys) (suc k) a = alike_at Dec xs ys k a.1
