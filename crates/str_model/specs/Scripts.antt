-- The operations of a script, and what a transaction does with a value that has come.
use Rattle.std.specs.Prelude.{Bool, List, None, Option, Some, [], false, find, if◌then◌else◌, slice_get, true, ℕ, ◌++◌, ◌+◌, ◌∷◌}
use Rattle.str_base.specs.declared.names.Cause.TheVariants.{Conflict as ByConflict, Wish}
use Rattle.str_base.specs.declared.names.KeyId.{KeyId}
use Rattle.str_scene.specs.declared.names.Op.{Op}
use Rattle.str_scene.specs.declared.names.Op.TheVariants.{Abort as Stop, Add, Del, Get, Need, Put, Puts}
use Rattle.str_model.specs.declared.names.ReadDone.{ReadDone}
use Rattle.str_base.specs.declared.names.TxId.{TxId}
use Rattle.str_base.specs.declared.names.Value.{Value}
use Rattle.str_base.specs.declared.names.Value.TheVariants.{Absent, Num, Text}
use Rattle.str_base.specs.declared.names.Write.{Write}
use Rattle.str_model.specs.Acts.{aborted, certified, in_phase, marked, requested}
use Rattle.str_scene.specs.Scenes.{Here, script_at}
use Rattle.dependency_set.specs.Snapshots.{Snap}
use Rattle.str_model.specs.Turns.{Away, CertTurn, Certified, Conflict, Plain, ReadTurn, Speculative, Wait, WaitGate, cert_turn, read_turn}
use Rattle.str_base.specs.Values.{is_below, set_write, sum_with}
use Rattle.str_base.specs.Versions.{same_key}
use Rattle.str_model.specs.Views.{Active, CertWait, Closing, Doing, Own, ReadWait, is_decided, put}

-- ---- changes of an own transaction as it stands

-- nothing changes where it is decided
abbrev pub unless_decided : Bool → (Doing → Doing) → Doing → Doing
unless_decided true f d = d
unless_decided false f d = f d

-- nothing changes where there is none, or it is decided
abbrev pub of_own : (Own → Doing → Doing) → Option Own → Doing → Doing
of_own f None d = d
of_own f (Some x) d = unless_decided (is_decided x.phase) (f x) d

-- f of the i-th own transaction, where it is undecided
abbrev pub at_own : ℕ → (Own → Doing → Doing) → Doing → Doing
at_own i f d = of_own f (slice_get d.view.own i) d

-- the key is set in the write buffer
abbrev pub wrote : KeyId → Value → Own → Own
wrote k v x = record x { writes = set_write (record { key = k; value = v }) x.writes; next = x.next + 1; phase = Active }

-- the operation is finished with the value of its key
abbrev pub finish : Op → Value → Own → Own
finish (Get k) v x = record x { gets = x.gets ++ record { key = k; value = v } ∷ []; next = x.next + 1; phase = Active }
finish (Put k n) v x = wrote k (Num n) x
finish (Puts k t) v x = wrote k (Text t) x
finish (Add k n) v x = wrote k (sum_with v n) x
finish (Del k) v x = wrote k Absent x
finish (Need k n) v x =
    if is_below v n then record x { phase = Closing true } else record x { next = x.next + 1; phase = Active }
finish Stop v x = x

-- a read is kept, and the candidate becomes the snapshot
abbrev pub noted : KeyId → Value → Option TxId → Snap → Own → Own
noted k v by snap x = record x { reads = x.reads ++ record { key = k; value = v; by = by } ∷ []; snap = snap }

-- ---- operations

-- the value of a write, where there is one
abbrev pub found_write : Option Write → Option Value
found_write None = None
found_write (Some w) = Some w.value

-- the value of a read, where there is one
abbrev pub found_read : Option ReadDone → Option Value
found_read None = None
found_read (Some r) = Some r.value

-- the first of two that is there
abbrev pub or_else : Option Value → Option Value → Option Value
or_else (Some v) o = Some v
or_else None o = o

-- what the transaction knows of a key: what it wrote, else what it has read
abbrev pub known : Own → KeyId → Option Value
known x k = or_else (found_write (find (λ w. same_key w.key k) x.writes)) (found_read (find (λ r. same_key r.key k) x.reads))

-- the next operation
abbrev pub own_op : Here → Own → Option Op
own_op here x = slice_get (script_at here.scene x.place) x.next

-- the next operation is finished with the value of its key
abbrev pub finish_next : Option Op → Value → Own → Own
finish_next None v x = x
finish_next (Some op) v x = finish op v x

-- a value has come for the key that the next operation needs
abbrev pub with_value : Here → ℕ → KeyId → Value → Option TxId → Snap → Own → Doing → Doing
with_value here i k v by snap x d = put i (finish_next (own_op here x) v (noted k v by snap x)) d

-- what a read came to is done
abbrev pub read_done : Here → ℕ → KeyId → Own → ReadTurn → Doing → Doing
read_done here i k x (Plain v by fc snap) d = with_value here i k v by snap x d
read_done here i k x (Speculative v by snap) d = with_value here i k v (Some by) snap x d
read_done here i k x (Wait by) d = put i (in_phase (ReadWait k) x) d
read_done here i k x (Away master) d = requested here i k master x d

-- the mark rises, then the key is read
unfoldable pub read_now : Here → ℕ → KeyId → Own → Doing → Doing
read_now here i k x d =
    read_done here i k x (read_turn here d.view x.snap k) (marked k x.snap.rs d)

-- an operation that needs the value of a key: it is known, or it is read
abbrev pub need_value : Here → ℕ → Op → KeyId → Own → Option Value → Doing → Doing
need_value here i op k x (Some v) d = put i (finish op v x) d
need_value here i op k x None d = read_now here i k x d

-- an operation is done
abbrev pub do_op : Here → ℕ → Own → Op → Doing → Doing
do_op here i x (Get k) d = need_value here i (Get k) k x (known x k) d
do_op here i x (Put k n) d = put i (wrote k (Num n) x) d
do_op here i x (Puts k t) d = put i (wrote k (Text t) x) d
do_op here i x (Add k n) d = need_value here i (Add k n) k x (known x k) d
do_op here i x (Del k) d = put i (wrote k Absent x) d
do_op here i x (Need k n) d = need_value here i (Need k n) k x (known x k) d
do_op here i x Stop d = aborted here i Wish x d

-- what the certification came to is done
abbrev pub cert_done : Here → ℕ → Own → CertTurn → Doing → Doing
cert_done here i x (Certified lc snap) d = certified here i lc snap x d
cert_done here i x (Conflict by k) d = aborted here i (ByConflict by k here.node) x d
cert_done here i x (WaitGate by) d = put i (in_phase CertWait x) d

-- a transaction is certified
unfoldable pub certify_now : Here → ℕ → Own → Doing → Doing
certify_now here i x d = cert_done here i x (cert_turn here d.view x.snap x.writes) d

-- it asks to commit: without writes it closes, else it is certified
abbrev pub ask_commit : Here → ℕ → Own → List Write → Doing → Doing
ask_commit here i x [] d = put i (in_phase (Closing false) x) d
ask_commit here i x (w ∷ ws) d = certify_now here i x d

-- the next operation, or past the last one the request to commit
abbrev pub op_or_commit : Here → ℕ → Own → Option Op → Doing → Doing
op_or_commit here i x (Some op) d = do_op here i x op d
op_or_commit here i x None d = ask_commit here i x x.writes d
