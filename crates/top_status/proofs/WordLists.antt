-- The words behind a program's name.
use Rattle.std.proofs.Common.{Bool, IsTrue, List, MatchBool, [], arith, false, get_or, length, map, nat_eq, refl, true, ℕ, ◌<◌, ◌∷◌, ◌≡◌, ◌≢◌, ◌≤◌}
use Rattle.std.specs.Cmp.Lexicographic.{pointwise, told_text}

-- a word list is this one word
pub one_word : {A : Type 0} (f : A → List ℕ) (words : List A) (word : A) (bytes : List ℕ) (same : Bool) → 1 ≤ length words → length words < 2
    → word ≡ get_or words 0 word → same ≡ pointwise nat_eq (f word) bytes → (IsTrue same → map f words ≡ bytes ∷ []) × (map f words ≡ bytes ∷ [] → IsTrue same)
one_word f [] word bytes same a b e h = absurd (omega arith)
one_word f (x ∷ y ∷ ys) word bytes same a b e h = absurd (omega arith)
one_word f (x ∷ []) word bytes same a b e h = by_test same (told_text (f word) bytes same h)
  where
    by_test : (r : Bool) → MatchBool r (f word ≡ bytes) (f word ≢ bytes) → (IsTrue r → map f (x ∷ []) ≡ bytes ∷ []) × (map f (x ∷ []) ≡ bytes ∷ [] → IsTrue r)
    by_test true k = (λ _. rw (← e, k) refl, λ _. refl)
    by_test false k = (λ n. absurd (cc n), λ q. let s : f x ≡ bytes = cc q in absurd (k (rw e s)))
