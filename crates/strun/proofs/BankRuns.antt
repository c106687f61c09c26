-- The accounts of a bank's scene after its run, and their total.
use Rattle.bank_book.proofs.Amounts.{deposits, deposits_few, deposits_total}
use Rattle.bank_book.proofs.Law.{bank_law, nothing_or_more}
use Rattle.bank_book.proofs.Walk.{opening_parts}
use Rattle.bank_book.specs.Balances.{balances_of, holdings, value_after}
use Rattle.bank_book.specs.BankLaw.{AddUp, Bank, total}
use Rattle.bank_book.specs.BankScenes.{IsBank, opening_place}
use Rattle.si_laws.specs.Commits.{Member, members}
use Rattle.si_laws.specs.SnapshotIsolation.{SIRun}
use Rattle.std.proofs.Common.{FitsSigned, List, [], ap, arith, inl, inr, length, map, pos, refl, subst, sym, take, take_all, ℕ, ℤ, ◌*◌, ◌+ℤ◌, ◌^◌, ◌∙◌, ◌∷◌, ◌≡◌, ◌≢◌, ◌≤◌, ◌⊎◌}
use Rattle.std.specs.Int.{w64}
use Rattle.std.specs.List.{fold}
use Rattle.str_base.specs.Values.{number_or_zero}
use Rattle.str_base.specs.declared.names.KeyId.{KeyId}
use Rattle.str_model.proofs.Room.SmallNumbers.{script_few}
use Rattle.str_model.specs.Drains.{cluster_run}
use Rattle.str_model.specs.Runs.{World}
use Rattle.str_model.specs.declared.messages.Answer.{Answer}
use Rattle.str_model.specs.declared.names.Got.{Got}
use Rattle.str_scene.specs.SceneLimits.{IsScene}
use Rattle.str_scene.specs.Scenes.{Scene, script_at}
use Rattle.strun.proofs.WholeRun.{run_holds}
use Rattle.strun.specs.Banks.{BankRunHolds, IsBankScene, accounts_of, amounts_of, balances_after, run_answers, total_of}

-- a bank's accounts and amounts are those of the opening
pub bank_scene : (scene : Scene) (accounts : List KeyId) (amounts : List ℤ) → IsBank scene accounts amounts → IsBankScene scene
bank_scene scene accounts amounts b = subst (λ (ks : List KeyId). IsBank scene ks (amounts_of scene)) b.opened (subst (IsBank scene accounts) b.deposits b)

-- the answers that a cluster shows after the run are a run of the machine
pub run_isolated : (scene s t : Scene) (w : World) (answers : List Answer) → IsScene s → s ≡ scene → t ≡ s → answers ≡ w.answers → w ≡ cluster_run scene → SIRun t answers
run_isolated scene s t w answers ok q r a k =
    let run : SIRun scene (run_answers scene) = (run_holds scene (subst IsScene q ok)).isolation in
    subst (λ (z : Scene). SIRun z answers) (sym (r ∙ q)) (subst (SIRun scene) (sym (a ∙ ap (λ (z : World). z.answers) k)) run)

-- the balances that are computed of them are those of the scene
pub balances_are : (scene s t : Scene) (w : World) (answers : List Answer) (accounts : List KeyId) (gots : List Got) → gots ≡ balances_of t answers accounts → s ≡ scene → t ≡ s
    → answers ≡ w.answers → w ≡ cluster_run scene → accounts ≡ accounts_of scene → gots ≡ balances_after scene
balances_are scene s t w answers accounts gots e q r a k o =
    let now : answers ≡ run_answers scene = a ∙ ap (λ (z : World). z.answers) k in
    e ∙ (λ i. balances_of ((r ∙ q) i) (now i) (o i))

-- ---- the total

-- the numbers of balances are those of what the accounts hold
balance_numbers : (accounts : List KeyId) (ms : List Member)
    → map (λ (g : Got). number_or_zero g.value) (map (λ (k : KeyId). record { key = k; value = value_after ms k }) accounts) ≡ map number_or_zero (holdings accounts ms)
balance_numbers [] ms = refl
balance_numbers (k ∷ ks) ms = ap (λ (ns : List ℤ). number_or_zero (value_after ms k) ∷ ns) (balance_numbers ks ms)

-- before any commit they are 0
no_numbers : (accounts : List KeyId) → fold (λ (sum n : ℤ). sum +ℤ n) (pos 0) (map number_or_zero (holdings accounts [])) ≡ pos 0
no_numbers [] = refl
no_numbers (k ∷ ks) = no_numbers ks

-- where the law holds the total after all commits is that of the amounts
total_kept : (scene : Scene) (accounts : List KeyId) (amounts : List ℤ) (all : List Answer) → Bank scene accounts amounts all → members scene all ≢ []
    → total_of (balances_of scene all accounts) ≡ total amounts
total_kept scene accounts amounts all law some =
    let ms : List Member = members scene all in
    let whole : take (length ms) ms ≡ ms = take_all (length ms) ms (omega arith) in
    let adds : AddUp amounts (holdings accounts (take (length ms) ms)) = law.prefixes (length ms) (λ e. some (sym whole ∙ e)) in
    ap total (balance_numbers accounts ms) ∙ (ap (λ (past : List Member). total (map number_or_zero (holdings accounts past))) (sym whole) ∙ adds.sum)

-- and 0 where there are none
total_empty : (scene : Scene) (accounts : List KeyId) (all : List Answer) → members scene all ≡ [] → total_of (balances_of scene all accounts) ≡ pos 0
total_empty scene accounts all none =
    ap total (balance_numbers accounts (members scene all)) ∙ (ap (λ (past : List Member). total (map number_or_zero (holdings accounts past))) none ∙ no_numbers accounts)

-- all that is promised of the accounts holds
pub bank_run_holds : (scene : Scene) → IsScene scene → IsBankScene scene → BankRunHolds scene
bank_run_holds scene ok bank =
    let law : Bank scene (accounts_of scene) (amounts_of scene) (run_answers scene) =
    bank_law scene ok (accounts_of scene) (amounts_of scene) bank (run_answers scene) (run_holds scene ok).isolation in
    record {
      law = law;
      kept = total_kept scene (accounts_of scene) (amounts_of scene) (run_answers scene) law;
      empty = total_empty scene (accounts_of scene) (run_answers scene);
    }

-- ---- the total has 64 bits

few_fit : (n : ℕ) → n ≤ 16 * 2 ^ 31 → FitsSigned w64 (pos n)
few_fit n h = record { sfits = omega arith }

amounts_fit : (scene : Scene) → IsScene scene → IsBankScene scene → FitsSigned w64 (total (amounts_of scene))
amounts_fit scene ok bank =
    let open_ops = (opening_parts (script_at scene opening_place) bank.opening).0 in
    subst (FitsSigned w64) (sym (deposits_total (script_at scene opening_place) open_ops))
    (few_fit (deposits (script_at scene opening_place)) (deposits_few (script_at scene opening_place) 16 open_ops (script_few scene ok opening_place)))

pub total_fits : (scene : Scene) → IsScene scene → IsBankScene scene → FitsSigned w64 (total_of (balances_after scene))
total_fits scene ok bank = by_members (nothing_or_more (members scene (run_answers scene)))
  where
    holds : BankRunHolds scene
    holds = bank_run_holds scene ok bank

    by_members : (members scene (run_answers scene) ≡ []) ⊎ (members scene (run_answers scene) ≢ []) → FitsSigned w64 (total_of (balances_after scene))
    by_members (inl none) = subst (FitsSigned w64) (sym (holds.empty none)) (few_fit 0 (omega arith))
    by_members (inr some) = subst (FitsSigned w64) (sym (holds.kept some)) (amounts_fit scene ok bank)
