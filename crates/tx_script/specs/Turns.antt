-- What the next operation of a script comes to.
use Rattle.std.specs.Prelude.{List, None, Option, Some, [], find, if◌then◌else◌, slice_get, ℕ, ℤ, ◌++◌, ◌+◌, ◌∷◌}
use Rattle.str_base.specs.declared.names.KeyId.{KeyId}
use Rattle.str_base.specs.declared.names.TxId.{TxId}
use Rattle.str_base.specs.declared.names.Value.{Value}
use Rattle.str_base.specs.declared.names.Value.TheVariants.{Absent, Num, Text}
use Rattle.str_base.specs.declared.names.Write.{Write}
use Rattle.str_base.specs.Values.{is_below, set_write, sum_with}
use Rattle.str_base.specs.Versions.{same_key}
use Rattle.str_model.specs.declared.names.ReadDone.{ReadDone}
use Rattle.str_model.specs.Scripts.{found_read, found_write, or_else}
use Rattle.str_scene.specs.declared.names.Op.{Op}
use Rattle.str_scene.specs.declared.names.Op.TheVariants.{Abort, Add, Del, Get, Need, Put, Puts}
use Rattle.tx_script.specs.declared.turns.Turn.{Turn}
use Rattle.tx_script.specs.declared.turns.Turn.TheVariants.{Ask, End, Got, Moved, Unmet, Wished}

-- how far a script has come: the operations that are done, the write buffer, and what was read
pub record ScriptRun : Type 0 where
  pub next : ℕ
  pub writes : List Write
  pub reads : List ReadDone

-- a script at its start
abbrev pub fresh : ScriptRun
fresh = record { next = 0; writes = []; reads = [] }

-- what a turn came to, and how far the script has come then
pub record Turned : Type 0 where
  pub turn : Turn
  pub run : ScriptRun

-- what the transaction knows of a key: what it wrote, else what it has read
abbrev pub known : ScriptRun → KeyId → Option Value
known run k =
    or_else (found_write (find (λ w. same_key w.key k) run.writes)) (found_read (find (λ r. same_key r.key k) run.reads))

-- one more operation is done
abbrev pub moved : ScriptRun → ScriptRun
moved run = record run { next = run.next + 1 }

-- an operation that sets the key in the write buffer is done
abbrev pub wrote : KeyId → Value → ScriptRun → ScriptRun
wrote k v run = record run { writes = set_write (record { key = k; value = v }) run.writes; next = run.next + 1 }

-- a read is kept
abbrev pub given : KeyId → Value → Option TxId → ScriptRun → ScriptRun
given k v by run = record run { reads = run.reads ++ record { key = k; value = v; by = by } ∷ [] }

-- nothing changes
abbrev pub stays : Turn → ScriptRun → Turned
stays turn run = record { turn = turn; run = run }

-- a get with a value
abbrev pub get_turn : KeyId → Option Value → ScriptRun → Turned
get_turn k None run = stays (Ask k) run
get_turn k (Some v) run = record { turn = Got k v; run = moved run }

-- an addition to a value
abbrev pub add_turn : KeyId → ℤ → Option Value → ScriptRun → Turned
add_turn k n None run = stays (Ask k) run
add_turn k n (Some v) run = record { turn = Moved; run = wrote k (sum_with v n) run }

-- a need of a value
abbrev pub need_turn : KeyId → ℤ → Option Value → ScriptRun → Turned
need_turn k n None run = stays (Ask k) run
need_turn k n (Some v) run =
    if is_below v n then stays Unmet run else record { turn = Moved; run = moved run }

-- an operation
abbrev pub op_turn : Op → ScriptRun → Turned
op_turn (Get k) run = get_turn k (known run k) run
op_turn (Put k n) run = record { turn = Moved; run = wrote k (Num n) run }
op_turn (Puts k t) run = record { turn = Moved; run = wrote k (Text t) run }
op_turn (Add k n) run = add_turn k n (known run k) run
op_turn (Del k) run = record { turn = Moved; run = wrote k Absent run }
op_turn (Need k n) run = need_turn k n (known run k) run
op_turn Abort run = stays Wished run

-- the next operation, where there is one
abbrev pub turn_at : Option Op → ScriptRun → Turned
turn_at None run = stays End run
turn_at (Some op) run = op_turn op run

-- the next operation of a script, the end past the last one
abbrev pub turn_of : List Op → ScriptRun → Turned
turn_of ops run = turn_at (slice_get ops run.next) run
