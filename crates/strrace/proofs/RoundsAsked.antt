-- A word that spells no number of rounds asks for none.
use Rattle.std.proofs.Common.{List, [], ap, arith, map, slice_index_or, subst, sym, ℕ, ◌<◌, ◌^◌, ◌∙◌, ◌∷◌, ◌≡◌, ◌≤◌}
use Rattle.std.proofs.lemmas.Fmt.{decimal_injective}
use Rattle.std.specs.Prelude.{decimal}
use Rattle.strrace.specs.RaceWords.{AskRace}

pub none_asked : {A : Type 0} (f : A → List ℕ) (words : List A) (word : A) (count : ℕ) → word ≡ slice_index_or words 0 word → decimal count ≡ f word → count < 2 ^ 64
    → (1 ≤ count → count ≤ 256 → ⊥) → AskRace (map f words) → ⊥
none_asked f [] word count first spelled small out a = let e = a.1.same in absurd cc
none_asked f (w ∷ ws) word count first spelled small out a =
    let e = a.1.same in
    let head : f w ≡ decimal a.0 = cc e in
    let most = a.1.most in
    let n : count ≡ a.0 = decimal_injective count a.0 small (omega (arith, most)) (spelled ∙ (ap f first ∙ head)) in
    out (subst (λ (k : ℕ). 1 ≤ k) (sym n) a.1.least) (subst (λ (k : ℕ). k ≤ 256) (sym n) most)
