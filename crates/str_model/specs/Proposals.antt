-- What a replica decides of a Prepare and of a Replicate.
use Rattle.std.specs.List.{list_any}
use Rattle.std.specs.Prelude.{Bool, None, Option, Some, false, find, if◌then◌else◌, max, nat_lt, not, ℕ, ◌&&◌, ◌+◌, ◌^◌, ◌||◌}
use Rattle.str_base.specs.declared.names.KeyId.{KeyId}
use Rattle.str_base.specs.declared.names.PartId.{PartId}
use Rattle.str_base.specs.declared.names.TxId.{TxId}
use Rattle.str_base.specs.declared.names.Version.{Version}
use Rattle.str_model.specs.declared.messages.Arrived.{Arrived}
use Rattle.str_model.specs.declared.messages.Waiter.{Waiter}
use Rattle.str_model.specs.declared.messages.Waiter.TheVariants.{Held, Read}
use Rattle.str_scene.specs.Scenes.{Here, hosts, is_master}
use Rattle.str_model.specs.Turns.{met, passed}
use Rattle.str_base.specs.Versions.{is_undecided, of_pair, same_node, same_part, same_tx}
use Rattle.str_model.specs.Views.{View}

-- what a Prepare comes to
pub data MasterTurn : Type 0 where
  Accept : ℕ → MasterTurn
  Refuse : TxId → KeyId → MasterTurn
  Park : TxId → MasterTurn
  Ignore : MasterTurn

-- no timestamp of a run reaches this
abbrev pub ts_limit : ℕ
ts_limit = 2 ^ 62 + 2 ^ 20

-- a reason to refuse: undecided and of another origin, or final above the snapshot
abbrev pub refuses : Arrived → Version → Bool
refuses a v =
    (is_undecided v.kind && not (same_node v.tx.node a.tx.node)) || (not (is_undecided v.kind) && nat_lt a.rs.0 v.ts.0)

-- a reason to park: undecided and of the same origin
abbrev pub parks : Arrived → Version → Bool
parks a v = is_undecided v.kind && same_node v.tx.node a.tx.node

-- the timestamp that is proposed for what arrived
abbrev pub proposed : View → Arrived → ℕ
proposed view a = max a.lc.0 (1 + passed view a.writes)

-- accepted below the limit
abbrev pub accepts : ℕ → MasterTurn
accepts ts = if nat_lt ts ts_limit then Accept ts else Ignore

-- the first reason to park, else the proposal
abbrev pub master_parks : View → Arrived → Option Version → MasterTurn
master_parks view a (Some v) = Park v.tx
master_parks view a None = accepts (proposed view a)

-- the first reason to refuse, else the reasons to park
abbrev pub master_refuses : View → Arrived → Option Version → MasterTurn
master_refuses view a (Some v) = Refuse v.tx v.key
master_refuses view a None = master_parks view a (find (parks a) (met a.writes view.versions))

-- a Prepare that is judged, for the first time or again
unfoldable pub master_turn : View → Arrived → MasterTurn
master_turn view a = master_refuses view a (find (refuses a) (met a.writes view.versions))

-- it is this pair
abbrev pub is_pair : TxId → PartId → TxId × PartId → Bool
is_pair tx part p = same_tx p.0 tx && same_part p.1 part

-- it is a parked Prepare of the pair
abbrev pub holds_pair : TxId → PartId → Waiter → Bool
holds_pair tx part (Read t k rs) = false
holds_pair tx part (Held a) = same_tx a.tx tx && same_part a.part part

-- the pair is in the done list
abbrev pub is_done : View → TxId → PartId → Bool
is_done view tx part = list_any (is_pair tx part) view.done

-- the pair was decided here, or stands here
abbrev pub is_known : View → TxId → PartId → Bool
is_known view tx part = is_done view tx part || list_any (of_pair tx part) view.versions

-- a Prepare of the pair is parked
abbrev pub is_parked : View → TxId → PartId → Bool
is_parked view tx part = list_any (holds_pair tx part) view.waiters

-- a Prepare that comes
unfoldable pub prepare_turn : Here → View → Arrived → MasterTurn
prepare_turn here view a =
    if is_master here.scene here.node a.part && (not (same_node a.tx.node here.node) && not (is_known view a.tx a.part || is_parked view a.tx a.part))
    then master_turn view a
    else Ignore

-- whether a Replicate is taken
unfoldable pub takes : Here → View → Arrived → Bool
takes here view a =
    hosts here.scene here.node a.part && (not (is_master here.scene here.node a.part) && (not (same_node a.tx.node here.node) && not (is_known view a.tx a.part)))
