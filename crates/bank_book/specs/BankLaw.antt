-- The law Bank: no transfer makes or loses anything, no account falls below 0, and every statement sees it so.
use Rattle.std.specs.List.{fold}
use Rattle.std.specs.Prelude.{List, Option, Some, [], map, pos, slice_get, take, ℕ, ℤ, ◌+ℤ◌, ◌≡◌, ◌≢◌, ◌⊎◌}
use Rattle.bank_book.specs.Balances.{holdings}
use Rattle.bank_book.specs.BankScenes.{IsBank, IsStatement, opening_place}
use Rattle.str_base.specs.declared.names.KeyId.{KeyId}
use Rattle.str_base.specs.declared.names.Ts.{Ts}
use Rattle.str_base.specs.declared.names.Value.{Value}
use Rattle.str_base.specs.declared.names.Value.TheVariants.{Absent, Num}
use Rattle.str_base.specs.Members.{In}
use Rattle.str_base.specs.Values.{number_or_zero}
use Rattle.str_model.specs.declared.messages.Answer.{Answer}
use Rattle.str_model.specs.declared.messages.Outcome.TheVariants.{Committed}
use Rattle.str_model.specs.declared.names.Got.{Got}
use Rattle.str_scene.specs.SceneLimits.{IsScene}
use Rattle.str_scene.specs.Scenes.{Scene, script_at}
use Rattle.si_laws.specs.Commits.{Commit, commits, members}
use Rattle.si_laws.specs.SnapshotIsolation.{SIRun}

-- a sum of numbers with a sign
abbrev pub total : List ℤ → ℤ
total ns = fold (λ sum n. sum +ℤ n) (pos 0) ns

-- each value is a number that is not below 0, and they add up to the sum of the amounts
pub record AddUp (amounts : List ℤ) (values : List Value) : Type 0 where
  pub sum : total (map number_or_zero values) ≡ total amounts
  pub each : (v : Value) → In v values → (n : ℕ) × (v ≡ Num (pos n))

-- there is no value
abbrev pub AllAbsent : List Value → Type 0
AllAbsent values = (v : Value) → In v values → v ≡ Absent

-- the accounts of a bank that is run under snapshot isolation
pub record Bank (scene : Scene) (accounts : List KeyId) (amounts : List ℤ) (all : List Answer) : Type 0 where
  pub begins : (c : Commit) → slice_get (commits all) 0 ≡ Some c → c.answer.place ≡ opening_place
  pub prefixes : (n : ℕ) → take n (members scene all) ≢ [] → AddUp amounts (holdings accounts (take n (members scene all)))
  pub statements : (a : Answer) (fc : Option Ts) (gets : List Got) → In a all → a.outcome ≡ Committed fc gets → IsStatement accounts (script_at scene a.place)
      → AddUp amounts (map (λ g. g.value) gets) ⊎ AllAbsent (map (λ g. g.value) gets)

-- the law
abbrev pub BankHolds : Type 0
BankHolds =
    (scene : Scene) → IsScene scene → (accounts : List KeyId) (amounts : List ℤ) → IsBank scene accounts amounts → (all : List Answer) → SIRun scene all
    → Bank scene accounts amounts all
