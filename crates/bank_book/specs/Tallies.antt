-- What transfers do to an account, as a tally of the committed ones.
use Rattle.std.specs.Int.{int_wrap, w64}
use Rattle.std.specs.List.{fold, list_any}
use Rattle.std.specs.Prelude.{Bool, List, None, Some, [], false, if◌then◌else◌, pos, true, ℤ, ◌+ℤ◌, ◌∷◌}
use Rattle.str_base.specs.declared.names.KeyId.{KeyId}
use Rattle.str_base.specs.declared.names.Value.{Value}
use Rattle.str_base.specs.declared.names.Value.TheVariants.{Absent, Num}
use Rattle.str_base.specs.Versions.{same_key}
use Rattle.str_model.specs.declared.messages.Answer.{Answer}
use Rattle.str_model.specs.declared.names.Got.{Got}
use Rattle.str_model.specs.declared.messages.Outcome.{Outcome}
use Rattle.str_model.specs.declared.messages.Outcome.TheVariants.{Aborted, Committed}
use Rattle.str_scene.specs.declared.names.Op.{Op}
use Rattle.str_scene.specs.declared.names.Op.TheVariants.{Abort, Add, Del, Get, Need, Put, Puts}
use Rattle.str_scene.specs.Scenes.{Scene, script_at}

-- what an operation adds to a key
abbrev pub adds : KeyId → Op → ℤ
adds k (Add l n) = if same_key l k then n else pos 0
adds k (Get l) = pos 0
adds k (Put l n) = pos 0
adds k (Puts l t) = pos 0
adds k (Del l) = pos 0
adds k (Need l n) = pos 0
adds k Abort = pos 0

-- what a script adds to a key
abbrev pub added : KeyId → List Op → ℤ
added k ops = fold (λ sum op. sum +ℤ adds k op) (pos 0) ops

-- the answer is in the commit list
abbrev pub has_committed : Outcome → Bool
has_committed (Committed (Some fc) gets) = true
has_committed (Committed None gets) = false
has_committed (Aborted cause) = false

-- what an answer in the commit list adds to a key
abbrev pub moved : Scene → KeyId → Answer → ℤ
moved scene k a = if has_committed a.outcome then added k (script_at scene a.place) else pos 0

-- what the answers add to a key
abbrev pub gained : Scene → KeyId → List Answer → ℤ
gained scene k all = fold (λ sum a. sum +ℤ moved scene k a) (pos 0) all

-- the value of an account that is opened with the amount: none before anything has committed
abbrev pub tallied : Scene → KeyId → ℤ → List Answer → Value
tallied scene k amount all =
    if list_any (λ a. has_committed a.outcome) all then Num (int_wrap w64 (amount +ℤ int_wrap w64 (gained scene k all))) else Absent

-- each account with its value, where they are opened with these amounts
abbrev pub tallies : Scene → List Answer → List KeyId → List ℤ → List Got
tallies scene all [] ns = []
tallies scene all (k ∷ ks) [] = []
tallies scene all (k ∷ ks) (n ∷ ns) = record { key = k; value = tallied scene k n all } ∷ tallies scene all ks ns
