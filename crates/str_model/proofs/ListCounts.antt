-- How many of a list pass a test.
pub use Rattle.str_model.specs.NodeFacts.{one_if, one_if, one_if, how_many, how_many, how_many}
use Rattle.str_model.proofs.Changes.PairWords.{Has}
use Rattle.str_model.proofs.Changes.SnapshotsGain.{if_elim}
use Rattle.std.proofs.Common.{Bool, List, [], ap, arith, false, if◌then◌else◌, inl, inr, refl, true, ◌++◌, ◌+◌, ◌∙◌, ◌∷◌, ◌≡◌, ◌≤◌}
use Rattle.std.specs.List.{list_any}
use Rattle.str_base.specs.declared.names.PartId.{PartId}
use Rattle.str_base.specs.declared.names.TxId.{TxId}
use Rattle.str_model.specs.Proposals.{holds_pair}
use Rattle.str_model.specs.Steps.{drop_held}
use Rattle.str_model.specs.declared.messages.Waiter.{Waiter}
use Rattle.str_base.proofs.Tests.{or_false_left, or_false_right}
use Rattle.str_base.specs.Members.{In}

pub many_append : {A : Type 0} (test : A → Bool) (xs ys : List A) → how_many test (xs ++ ys) ≡ how_many test xs + how_many test ys
many_append test [] ys = omega arith
many_append test (x ∷ xs) ys = let rec = many_append test xs ys in omega (arith, rec)

pub many_has : {A : Type 0} (test : A → Bool) (xs : List A) (x : A) → In x xs → test x ≡ true → 1 ≤ how_many test xs
many_has test [] x h e = absurd h
many_has test (y ∷ xs) x (inl q) e = let is : one_if (test y) ≡ 1 = ap (λ z. one_if (test z)) q ∙ ap one_if e in omega (arith, is)
many_has test (y ∷ xs) x (inr h) e = let rec = many_has test xs x h e in omega (arith, rec)

pub many_some : {A : Type 0} (test : A → Bool) (xs : List A) → 1 ≤ how_many test xs → Has test xs
many_some test [] le = absurd (omega (arith, le))
many_some {A = A} test (y ∷ xs) le = by_test (test y) refl (many_some test xs) le
  where
    by_test : (b : Bool) → test y ≡ b → (1 ≤ how_many test xs → Has test xs) → 1 ≤ one_if b + how_many test xs → Has test (y ∷ xs)
    by_test true q rec k = (y, inl refl, q)
    by_test false q rec k = let r = rec (omega (arith, k)) in (r.0, inr r.1, r.2)

pub many_none : {A : Type 0} (test : A → Bool) (xs : List A) → list_any test xs ≡ false → how_many test xs ≡ 0
many_none test [] e = refl
many_none test (x ∷ xs) e =
    let rec : how_many test xs ≡ 0 = many_none test xs (or_false_right (test x) (list_any test xs) e) in
    let is : one_if (test x) ≡ 0 = ap one_if (or_false_left (test x) (list_any test xs) e) in omega (arith, rec, is)

-- one who leaves
pub many_left : {A : Type 0} (test : A → Bool) (xs ys : List A) (y : A) → one_if (test y) + how_many test (xs ++ ys) ≡ how_many test (xs ++ y ∷ ys)
many_left test xs ys y = let a = many_append test xs ys in let b = many_append test xs (y ∷ ys) in omega (arith, a, b)

pub many_dropped : (t : TxId) (q : PartId) (test : Waiter → Bool) (ws : List Waiter) → how_many test (drop_held t q ws) ≤ how_many test ws
many_dropped t q test [] = omega arith
many_dropped t q test (w ∷ ws) =
    if_elim (λ zs. how_many test zs ≤ one_if (test w) + how_many test ws) (holds_pair t q w) ws (w ∷ drop_held t q ws)
    (λ e. omega arith) (λ e. let rec = many_dropped t q test ws in omega (arith, rec))

-- of a pair of which one waits, none is left
pub many_dropped_own : (t : TxId) (q : PartId) (ws : List Waiter) → how_many (holds_pair t q) ws ≤ 1 → how_many (holds_pair t q) (drop_held t q ws) ≡ 0
many_dropped_own t q [] le = refl
many_dropped_own t q (w ∷ ws) le = by_test (holds_pair t q w) refl le (many_dropped_own t q ws)
  where
    by_test : (b : Bool) → holds_pair t q w ≡ b → one_if b + how_many (holds_pair t q) ws ≤ 1 → (how_many (holds_pair t q) ws ≤ 1 → how_many (holds_pair t q) (drop_held t q ws) ≡ 0)
        → how_many (holds_pair t q) (if b then ws else w ∷ drop_held t q ws) ≡ 0
    by_test true e k rec = omega (arith, k)
    by_test false e k rec = let is : one_if (holds_pair t q w) ≡ 0 = ap one_if e in let z = rec (omega (arith, k)) in omega (arith, is, z)
