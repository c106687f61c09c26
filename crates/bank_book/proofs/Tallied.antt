-- The balances of a bank's accounts, by their tallies.
use Rattle.std.proofs.Common.{List, [], ap, arith, get_or, inl, inr, length, map, refl, subst, suc, sym, take, ℕ, ℤ, ◌++◌, ◌+◌, ◌<◌, ◌∙◌, ◌∷◌, ◌≡◌}
use Rattle.std.proofs.lemmas.List.{length-take-le, take_more}
use Rattle.str_base.specs.declared.names.KeyId.{KeyId}
use Rattle.str_base.specs.declared.names.Value.{Value}
use Rattle.str_base.specs.Members.{In}
use Rattle.str_model.specs.declared.messages.Answer.{Answer}
use Rattle.str_model.specs.declared.names.Got.{Got}
use Rattle.str_scene.specs.declared.names.Op.{Op}
use Rattle.str_scene.specs.SceneLimits.{IsScene}
use Rattle.str_scene.specs.Scenes.{Scene, script_at}
use Rattle.si_laws.specs.Commits.{members}
use Rattle.si_laws.specs.SnapshotIsolation.{SIRun}
use Rattle.bank_book.specs.Balances.{balances_of, value_after}
use Rattle.bank_book.specs.BankScenes.{IsBank, account, amount, opening_place}
use Rattle.bank_book.specs.Tallies.{tallied, tallies}
use Rattle.bank_book.proofs.Law.{tallied_is}

map_lengths : (ops : List Op) → length (map account ops) ≡ length (map amount ops)
map_lengths [] = refl
map_lengths (op ∷ ops) = ap suc (map_lengths ops)

-- each account has an amount
pub same_length : (scene : Scene) (accounts : List KeyId) (amounts : List ℤ) → IsBank scene accounts amounts → length accounts ≡ length amounts
same_length scene accounts amounts bank = ap length bank.opened ∙ (map_lengths (script_at scene opening_place) ∙ ap length (sym bank.deposits))

each_tallied : (scene : Scene) (all : List Answer) (ops : List Op)
    → ((op : Op) → In op ops → tallied scene (account op) (amount op) all ≡ value_after (members scene all) (account op))
    → tallies scene all (map account ops) (map amount ops) ≡ balances_of scene all (map account ops)
each_tallied scene all [] h = refl
each_tallied scene all (op ∷ ops) h = λ j. record { key = account op; value = h op (inl refl) j } ∷ each_tallied scene all ops (λ o i. h o (inr i)) j

-- the tallies are the balances
pub tallies_are : (scene : Scene) (accounts : List KeyId) (amounts : List ℤ) (all : List Answer) → IsScene scene → IsBank scene accounts amounts → SIRun scene all
    → tallies scene all accounts amounts ≡ balances_of scene all accounts
tallies_are scene accounts amounts all limits bank run =
    (λ j. tallies scene all (bank.opened j) (bank.deposits j))
    ∙ (each_tallied scene all (script_at scene opening_place) (tallied_is scene accounts amounts all limits bank run) ∙ ap (balances_of scene all) (sym bank.opened))

-- of lists that the code holds
pub tallies_of : (scene : Scene) (accounts : List KeyId) (amounts : List ℤ) (all : List Answer) → IsScene scene → IsBank scene accounts amounts → SIRun scene all
    → (ks : List KeyId) (ns : List ℤ) (given : List Answer) → ks ≡ accounts → ns ≡ amounts → given ≡ all → tallies scene given ks ns ≡ balances_of scene all accounts
tallies_of scene accounts amounts all limits bank run ks ns given p q r = (λ j. tallies scene (r j) (p j) (q j)) ∙ tallies_are scene accounts amounts all limits bank run

-- ---- one more

tallies_push : (scene : Scene) (all : List Answer) (ks : List KeyId) (ns : List ℤ) (k : KeyId) (n : ℤ) → length ks ≡ length ns
    → tallies scene all (ks ++ k ∷ []) (ns ++ n ∷ []) ≡ tallies scene all ks ns ++ record { key = k; value = tallied scene k n all } ∷ []
tallies_push scene all [] [] k n e = refl
tallies_push scene all [] (m ∷ ns) k n e = absurd (omega arith)
tallies_push scene all (l ∷ ks) [] k n e = absurd (omega arith)
tallies_push scene all (l ∷ ks) (m ∷ ns) k n e = ap (λ gs. record { key = l; value = tallied scene l m all } ∷ gs) (tallies_push scene all ks ns k n (omega arith))

pub tallies_more : (scene : Scene) (all : List Answer) (ks : List KeyId) (ns : List ℤ) (i : ℕ) (d : KeyId) (e : ℤ) → i < length ks → i < length ns
    → tallies scene all (take (i + 1) ks) (take (i + 1) ns) ≡ tallies scene all (take i ks) (take i ns) ++ record { key = get_or ks i d; value = tallied scene (get_or ks i d) (get_or ns i e) all } ∷ []
tallies_more scene all ks ns i d e p q =
    (λ j. tallies scene all (take_more ks i d p j) (take_more ns i e q j))
    ∙ tallies_push scene all (take i ks) (take i ns) (get_or ks i d) (get_or ns i e) (length-take-le i ks (omega arith) ∙ sym (length-take-le i ns (omega arith)))

-- in the list that the code makes
pub tallies_pushed : (scene : Scene) (all : List Answer) (ks : List KeyId) (ns : List ℤ) (i : ℕ) (d : KeyId) (e number : ℤ) (v : Value) (had have : List Got) → i < length ks → length ks ≡ length ns
    → had ≡ tallies scene all (take i ks) (take i ns) → number ≡ get_or ns i e → v ≡ tallied scene (get_or ks i d) number all → have ≡ had ++ record { key = get_or ks i d; value = v } ∷ []
    → have ≡ tallies scene all (take (i + 1) ks) (take (i + 1) ns)
tallies_pushed scene all ks ns i d e number v had have l same p n q r =
    r ∙ ((λ j. p j ++ record { key = get_or ks i d; value = (q ∙ ap (λ z. tallied scene (get_or ks i d) z all) n) j } ∷ []) ∙ sym (tallies_more scene all ks ns i d e l (subst (λ m. i < m) same l)))
