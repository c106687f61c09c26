-- Tests of one more answer against those before it.
use Rattle.std.specs.List.{count_by, list_all, list_any}
use Rattle.std.specs.Prelude.{Bool, List, None, Option, Some, false, length, nat_le, not, true, ℕ, ◌&&◌, ◌+◌, ◌==◌, ◌||◌}
use Rattle.history_audit.specs.Ledgers.{look_in}
use Rattle.history_audit.specs.declared.ledgers.Stamped.{Stamped}
use Rattle.si_laws.specs.SnapshotIsolation.{IsCommittedSnapshot, IsWish, of_one_session}
use Rattle.str_base.specs.declared.names.KeyId.{KeyId}
use Rattle.str_base.specs.Versions.{same_key, same_node, same_tx}
use Rattle.str_scene.specs.Places.{same_place}
use Rattle.str_base.specs.declared.names.Ts.{Ts}
use Rattle.str_model.specs.Evaluation.{Evaluated, eval}
use Rattle.str_model.specs.declared.messages.Answer.{Answer}
use Rattle.str_model.specs.declared.messages.Outcome.{Outcome}
use Rattle.str_model.specs.declared.messages.Outcome.TheVariants.{Aborted, Committed}
use Rattle.str_scene.specs.declared.names.Op.{Op}
use Rattle.str_scene.specs.declared.names.Op.TheVariants.{Abort, Add, Del, Get, Need, Put, Puts}
use Rattle.str_scene.specs.declared.names.TxPlace.{TxPlace}
use Rattle.str_scene.specs.Scenes.{Scene, Session, nth, script_at}

-- the transaction is of the session's node, and the session has so many transactions
abbrev pub is_of_session : Answer → Option Session → Bool
is_of_session a None = false
is_of_session a (Some s) = same_node a.tx.node s.node && (nat_le 1 a.place.index && nat_le a.place.index (length s.txs))

-- an earlier answer has neither the place nor the name
abbrev pub is_other : Answer → Answer → Bool
is_other a b = not (same_place b.place a.place) && not (same_tx b.tx a.tx)

-- the answer is the next one of its session
abbrev pub is_placed : Scene → List Answer → Answer → Bool
is_placed scene past a =
    is_of_session a (nth scene.sessions a.place.session.0) && (list_all (is_other a) past && (a.place.index == 1 + count_by (of_one_session a) past))

-- a number is at most another one, where there is one
abbrev pub is_final_below : Outcome → ℕ → Bool
is_final_below (Committed None gets) r = true
is_final_below (Committed (Some fc) gets) r = nat_le fc.0 r
is_final_below (Aborted cause) r = true

-- in one session the snapshot is at least all that was answered before
abbrev pub is_after_in_session : Answer → Answer → Bool
is_after_in_session a b = not (of_one_session a b) || (nat_le b.rs.0 a.rs.0 && is_final_below b.outcome a.rs.0)

-- at one node the snapshots do not fall with the number
abbrev pub is_after_at_node : Answer → Answer → Bool
is_after_at_node a b =
    not (same_node b.tx.node a.tx.node) || ((nat_le a.tx.seq b.tx.seq || nat_le b.rs.0 a.rs.0) && (nat_le b.tx.seq a.tx.seq || nat_le a.rs.0 b.rs.0))

-- both
abbrev pub is_after : Answer → Answer → Bool
is_after a b = is_after_in_session a b && is_after_at_node a b

-- the key that an operation writes
abbrev pub written_key : Op → Option KeyId
written_key (Get k) = None
written_key (Put k n) = Some k
written_key (Puts k t) = Some k
written_key (Add k n) = Some k
written_key (Del k) = Some k
written_key (Need k n) = None
written_key Abort = None

-- the operation writes the key
abbrev pub is_key : KeyId → Option KeyId → Bool
is_key k None = false
is_key k (Some l) = same_key l k

-- an operation of the script writes the key
abbrev pub is_written : KeyId → List Op → Bool
is_written k ops = list_any (λ op. is_key k (written_key op)) ops

-- one of the operations writes this key
abbrev pub is_written_in : List Op → Option KeyId → Bool
is_written_in ops None = false
is_written_in ops (Some k) = is_written k ops

-- both scripts write a key
abbrev pub share_key : List Op → List Op → Bool
share_key ops others = list_any (λ op. is_written_in others (written_key op)) ops

-- the final timestamp of a commit that has one
abbrev pub final_time : Outcome → Option Ts
final_time (Committed fc gets) = fc
final_time (Aborted cause) = None

-- one of two final timestamps is at or below the other's snapshot
abbrev pub is_one_below : ℕ → Option Ts → ℕ → Option Ts → Bool
is_one_below r None s g = true
is_one_below r (Some f) s None = true
is_one_below r (Some f) s (Some g) = nat_le f.0 s || nat_le g.0 r

-- one is final at or below the other's snapshot, where both are final
abbrev pub are_ordered : ℕ → Outcome → ℕ → Outcome → Bool
are_ordered r o s q = is_one_below r (final_time o) s (final_time q)

-- they are ordered, or no key is written by both
abbrev pub are_apart : Scene → Answer → Answer → Bool
are_apart scene a b = are_ordered a.rs.0 a.outcome b.rs.0 b.outcome || not (share_key (script_at scene a.place) (script_at scene b.place))

-- what an answer's script gives on a ledger at its snapshot
abbrev pub evaluated_on : Scene → List (List Stamped) → Answer → Evaluated
evaluated_on scene chains a = eval (script_at scene a.place) (look_in chains a.rs.0)

-- the answer is what its script gives on the ledger, where it is committed
abbrev pub IsSnapshotOn : Scene → List (List Stamped) → Answer → Type 0
IsSnapshotOn scene chains a = IsCommittedSnapshot (evaluated_on scene chains a) a.rs.0 a.outcome

-- the script does not come to its end, where the answer is a wish
abbrev pub IsWishOn : Scene → List (List Stamped) → Answer → Type 0
IsWishOn scene chains a = IsWish (evaluated_on scene chains a) a.outcome
