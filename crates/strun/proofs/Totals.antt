-- A total that is added up balance by balance, wrapped to 64 bits.
use Rattle.bank_book.proofs.WrappedSums.{wrapped_more}
use Rattle.std.proofs.Common.{FitsSigned, List, ap, get_or, length, of_z, pos, sym, take, to_z, ℕ, ℤ, ◌%◌, ◌+◌, ◌+ℤ◌, ◌<◌, ◌^◌, ◌∙◌, ◌≡◌}
use Rattle.std.proofs.lemmas.List.Folds.{fold-map}
use Rattle.std.specs.Int.{int_wrap, w64}
use Rattle.std.specs.List.{fold}
use Rattle.str_base.specs.Values.{number_or_zero}
use Rattle.str_model.specs.declared.names.Got.{Got}
use Rattle.strun.specs.Banks.{total_of}

-- the sum of the numbers of balances, over the balances
total_is : (gots : List Got) → total_of gots ≡ fold (λ (sum : ℤ) (g : Got). sum +ℤ number_or_zero g.value) (pos 0) gots
total_is gots = fold-map (λ (sum n : ℤ). sum +ℤ n) (λ (g : Got). number_or_zero g.value) (pos 0) gots

-- one more is added
pub total_more : (gots : List Got) (i : ℕ) (d : Got) (m : ℕ) (b : ℤ) → i < length gots → m < 2 ^ 64 → FitsSigned w64 b → to_z w64 m ≡ int_wrap w64 (total_of (take i gots))
    → b ≡ number_or_zero (get_or gots i d).value → to_z w64 ((m + of_z w64 b) % 2 ^ 64) ≡ int_wrap w64 (total_of (take (i + 1) gots))
total_more gots i d m b l p f e h =
    wrapped_more (λ (g : Got). number_or_zero g.value) gots i d m b l p f (e ∙ ap (int_wrap w64) (total_is (take i gots))) (ap (int_wrap w64) h)
    ∙ ap (int_wrap w64) (sym (total_is (take (i + 1) gots)))
