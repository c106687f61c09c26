-- What `bank` writes behind the run of a bank's scene, and what is promised of it.
use Rattle.bank_book.specs.Balances.{balances_of}
use Rattle.bank_book.specs.BankLaw.{Bank, total}
use Rattle.bank_book.specs.BankScenes.{IsBank, account, amount, opening_place}
use Rattle.si_laws.specs.Commits.{members}
use Rattle.std.specs.Fmt.{signed_decimal}
use Rattle.std.specs.Prelude.{List, [], codes, flat_map, map, pos, ℕ, ℤ, ◌++◌, ◌≡◌, ◌≢◌}
use Rattle.str_base.specs.Values.{number_or_zero}
use Rattle.str_base.specs.declared.names.KeyId.{KeyId}
use Rattle.str_model.specs.Drains.{cluster_run}
use Rattle.str_model.specs.Lines.{value_spelled}
use Rattle.str_model.specs.declared.messages.Answer.{Answer}
use Rattle.str_model.specs.declared.names.Got.{Got}
use Rattle.str_scene.specs.Scenes.{KeyTable, Scene, script_at}
use Rattle.str_scene.specs.Spelling.{key_spelled}

-- the accounts that the opening names, in its order, and what it gives them
abbrev pub accounts_of : Scene → List KeyId
accounts_of scene = map account (script_at scene opening_place)

abbrev pub amounts_of : Scene → List ℤ
amounts_of scene = map amount (script_at scene opening_place)

-- the scene is a bank's: the first transaction opens accounts, and every other one is a transfer or a statement
abbrev pub IsBankScene : Scene → Type 0
IsBankScene scene = IsBank scene (accounts_of scene) (amounts_of scene)

-- a key with its value
abbrev pub pair_spelled : KeyTable → Got → List ℕ
pair_spelled keys g = key_spelled keys g.key ++ codes "=" ++ value_spelled keys g.value

-- the line of a balance
abbrev pub balance_line : KeyTable → Got → List ℕ
balance_line keys g = codes "balance " ++ pair_spelled keys g ++ codes "\n"

-- the sum of balances; no value counts as 0
abbrev pub total_of : List Got → ℤ
total_of gots = total (map (λ g. number_or_zero g.value) gots)

-- the line of their sum
abbrev pub total_line : ℤ → List ℕ
total_line sum = codes "bank total=" ++ signed_decimal sum ++ codes "\n"

-- the lines of all balances, and of their sum
abbrev pub bank_lines : KeyTable → List Got → List ℕ
bank_lines keys gots = flat_map (balance_line keys) gots ++ total_line (total_of gots)

-- the answers of the run of a scene, and the balance of each account then: its value in the commit list of those answers
abbrev pub run_answers : Scene → List Answer
run_answers scene = (cluster_run scene).answers

abbrev pub balances_after : Scene → List Got
balances_after scene = balances_of scene (run_answers scene) (accounts_of scene)

-- what is promised of the accounts of a bank's scene after its run
pub record BankRunHolds (scene : Scene) : Type 0 where
  -- in each prefix of the commit list the accounts add up to what they were opened with and none is below 0; each committed statement sees that
  pub law : Bank scene (accounts_of scene) (amounts_of scene) (run_answers scene)
  -- the total is what the accounts were opened with
  pub kept : members scene (run_answers scene) ≢ [] → total_of (balances_after scene) ≡ total (amounts_of scene)
  -- or 0, where nothing has committed
  pub empty : members scene (run_answers scene) ≡ [] → total_of (balances_after scene) ≡ pos 0
