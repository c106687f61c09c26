-- What a node does with the turn of a script of one of its own transactions.
use Rattle.std.specs.Prelude.{None, Option, Some, [], true, ℕ, ◌++◌, ◌∷◌, ◌≡◌}
use Rattle.dependency_set.specs.Snapshots.{Snap}
use Rattle.str_base.specs.declared.names.Cause.TheVariants.{Wish}
use Rattle.str_base.specs.declared.names.KeyId.{KeyId}
use Rattle.str_base.specs.declared.names.TxId.{TxId}
use Rattle.str_base.specs.declared.names.Value.{Value}
use Rattle.str_model.specs.Acts.{aborted, in_phase}
use Rattle.str_model.specs.Scripts.{ask_commit, noted, op_or_commit, own_op, read_now, with_value}
use Rattle.str_model.specs.Views.{Active, Closing, Doing, Own, put}
use Rattle.str_scene.specs.declared.names.Op.{Op}
use Rattle.str_scene.specs.declared.names.Op.TheVariants.{Add, Get, Need}
use Rattle.str_scene.specs.Scenes.{Here, script_at}
use Rattle.tx_script.specs.declared.turns.Turn.{Turn}
use Rattle.tx_script.specs.declared.turns.Turn.TheVariants.{Ask, End, Got, Moved, Unmet, Wished}
use Rattle.tx_script.specs.Turns.{ScriptRun, Turned, given, known, turn_of}

-- how far the script of a transaction has come
abbrev pub run_of : Own → ScriptRun
run_of x = record { next = x.next; writes = x.writes; reads = x.reads }

-- the transaction, whose script has come so far
abbrev pub with_run : ScriptRun → Own → Own
with_run run x = record x { next = run.next; writes = run.writes; reads = run.reads }

-- a key is read, a get is kept, the transaction goes on, it closes with a wish, it aborts, or it asks to commit
abbrev pub by_turn : Here → ℕ → Own → Turn → ScriptRun → Doing → Doing
by_turn here i x (Ask k) run d = read_now here i k x d
by_turn here i x (Got k v) run d =
    put i (record (with_run run x) { gets = x.gets ++ record { key = k; value = v } ∷ []; phase = Active }) d
by_turn here i x Moved run d = put i (in_phase Active (with_run run x)) d
by_turn here i x Unmet run d = put i (in_phase (Closing true) x) d
by_turn here i x Wished run d = aborted here i Wish x d
by_turn here i x End run d = ask_commit here i x x.writes d

-- what is done with a turn
abbrev pub done : Here → ℕ → Own → Turned → Doing → Doing
done here i x t d = by_turn here i x t.turn t.run d

-- the key whose value an operation needs
abbrev pub needed : Op → Option KeyId
needed (Get k) = Some k
needed (Add k n) = Some k
needed (Need k n) = Some k
needed _ = None

-- ---- laws

-- the next operation of an own transaction, or its request to commit, is done by the turn of its script
abbrev pub TurnsDone : Type 0
TurnsDone =
    (here : Here) (i : ℕ) (x : Own) (d : Doing)
    → op_or_commit here i x (own_op here x) d ≡ done here i x (turn_of (script_at here.scene x.place) (run_of x)) d

-- a value that has come for the key that the next operation needs: the read is kept, and the turn is done
abbrev pub ReadsDone : Type 0
ReadsDone =
    (here : Here) (i : ℕ) (op : Op) (k : KeyId) (v : Value) (by : Option TxId) (snap : Snap) (x : Own) (d : Doing)
    → own_op here x ≡ Some op → needed op ≡ Some k → known (run_of x) k ≡ None
    → with_value here i k v by snap x d ≡ done here i (noted k v by snap x) (turn_of (script_at here.scene x.place) (given k v by (run_of x))) d
