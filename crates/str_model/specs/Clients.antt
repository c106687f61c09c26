-- A client step.
use Rattle.std.specs.Prelude.{Bool, List, None, Option, Some, [], if◌then◌else◌, max, min, slice_get, suc, ℕ, ◌+◌, ◌-◌, ◌==◌, ◌^◌, ◌∷◌}
use Rattle.str_scene.specs.declared.names.Op.{Op}
use Rattle.str_base.specs.declared.names.SessionId.{SessionId}
use Rattle.str_scene.specs.declared.names.TxPlace.{TxPlace}
use Rattle.str_model.specs.Acts.{begun}
use Rattle.str_scene.specs.Scenes.{Here, Session, nth}
use Rattle.str_model.specs.Scripts.{op_or_commit, own_op}
use Rattle.str_base.specs.Versions.{same_node}
use Rattle.str_model.specs.Views.{Aborted, Active, Committed, Doing, Own, Phase}

-- a reading is cut to this
abbrev pub reading_limit : ℕ
reading_limit = 2 ^ 62 - 1

-- the next transaction begins, where there is one
abbrev pub begin : Here → TxPlace → ℕ → Option (List Op) → Doing → Option Doing
begin here place t None d = None
begin here place t (Some ops) d = Some (begun place (max (min t reading_limit) d.view.floor) d)

-- the n-th transaction of a session
abbrev pub place_in : SessionId → ℕ → TxPlace
place_in s n = record { session = s; index = n }

-- the session's last transaction goes on, or the next one begins
abbrev pub go_on : Here → SessionId → ℕ → Session → ℕ → Own → Phase → Doing → Option Doing
go_on here s t text i x Active d = Some (op_or_commit here i x (own_op here x) d)
go_on here s t text i x (Committed lc fc) d =
    begin here (place_in s (x.place.index + 1)) t (nth text.txs (x.place.index + 1)) d
go_on here s t text i x (Aborted lc cause) d =
    begin here (place_in s (x.place.index + 1)) t (nth text.txs (x.place.index + 1)) d
go_on here s t text i x _ d = None

-- the last place whose item passes the test
abbrev pub last_index : {X : Type 0} → (X → Bool) → List X → Option ℕ
last_index p [] = None
last_index p (x ∷ xs) = elim (last_index p xs) [ Some i ↦ Some (suc i) | None ↦ (if p x then Some 0 else None) ]

-- the transaction is of this session
abbrev pub of_session : SessionId → Own → Bool
of_session s x = x.place.session.0 == s.0

-- the same of the i-th own transaction
abbrev pub go_on_at : Here → SessionId → ℕ → Session → ℕ → Option Own → Doing → Option Doing
go_on_at here s t text i None d = None
go_on_at here s t text i (Some x) d = go_on here s t text i x x.phase d

-- the same of the session's last transaction; where none has begun, the first one begins
abbrev pub go_on_last : Here → SessionId → ℕ → Session → Option ℕ → Doing → Option Doing
go_on_last here s t text None d = begin here (place_in s 1) t (nth text.txs 1) d
go_on_last here s t text (Some i) d = go_on_at here s t text i (slice_get d.view.own i) d

-- the same, where the session is one of this node
abbrev pub in_session : Here → SessionId → ℕ → Option Session → Doing → Option Doing
in_session here s t None d = None
in_session here s t (Some text) d =
    if same_node text.node here.node then go_on_last here s t text (last_index (of_session s) d.view.own) d else None

-- a client step
unfoldable pub client_rule : Here → SessionId → ℕ → Doing → Option Doing
client_rule here s t d = in_session here s t (nth here.scene.sessions s.0) d
