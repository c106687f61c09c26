-- How far a script comes by its turns, and what look a transaction has by its reads.
use Rattle.std.specs.Prelude.{List, Option, Some, [], find, ◌++◌, ◌∷◌, ◌≡◌}
use Rattle.str_base.specs.declared.names.KeyId.{KeyId}
use Rattle.str_base.specs.declared.names.TxId.{TxId}
use Rattle.str_base.specs.declared.names.Value.{Value}
use Rattle.str_base.specs.Versions.{same_key}
use Rattle.str_model.specs.declared.names.Got.{Got}
use Rattle.str_model.specs.declared.names.ReadDone.{ReadDone}
use Rattle.str_model.specs.Evaluation.{Stop, eval}
use Rattle.str_model.specs.Scripts.{found_read}
use Rattle.str_scene.specs.declared.names.Op.{Op}
use Rattle.tx_script.specs.declared.turns.Turn.{Turn}
use Rattle.tx_script.specs.declared.turns.Turn.TheVariants.{Got as GotIt, Moved}
use Rattle.tx_script.specs.Turns.{ScriptRun, fresh, given, turn_of}

-- the look gives the value of each read
abbrev pub Agrees : (KeyId → Value) → List ReadDone → Type 0
Agrees look reads = (k : KeyId) (v : Value) → found_read (find (λ r. same_key r.key k) reads) ≡ Some v → look k ≡ v

-- turns and kept reads bring a script so far, with these gets
pub data Reached (ops : List Op) : ScriptRun → List Got → Type 0 where
  starts : Reached ops fresh []
  by_get : (run : ScriptRun) (gets : List Got) (k : KeyId) (v : Value) → Reached ops run gets → (turn_of ops run).turn ≡ GotIt k v
      → Reached ops (turn_of ops run).run (gets ++ record { key = k; value = v } ∷ [])
  by_move : (run : ScriptRun) (gets : List Got) → Reached ops run gets → (turn_of ops run).turn ≡ Moved → Reached ops (turn_of ops run).run gets
  by_read : (run : ScriptRun) (gets : List Got) (k : KeyId) (v : Value) (by : Option TxId) → Reached ops run gets → Reached ops (given k v by run) gets

-- a script that turns and kept reads bring to this turn has the gets and the writes of its evaluation, which stops so
abbrev pub StopsAs : Turn → Stop → Type 0
StopsAs turn stop =
    (look : KeyId → Value) (ops : List Op) (run : ScriptRun) (gets : List Got) → Reached ops run gets → Agrees look run.reads → (turn_of ops run).turn ≡ turn
    → eval ops look ≡ record { gets = gets; writes = (turn_of ops run).run.writes; stop = stop }
