-- The stages of a pair of a transaction and a partition at a node that did not begin the transaction.
use Rattle.std.specs.List.{list_any}
use Rattle.std.specs.Prelude.{Bool, List, Some, false, slice_get, true, ℕ, ◌++◌, ◌+◌, ◌≡◌, ◌≢◌, ◌≤◌}
use Rattle.str_scene.specs.declared.names.Event.{Event}
use Rattle.str_base.specs.declared.names.PartId.{PartId}
use Rattle.str_base.specs.declared.names.Ts.{Ts}
use Rattle.str_base.specs.declared.names.TxId.{TxId}
use Rattle.str_model.specs.declared.messages.Body.TheVariants.{Ack}
use Rattle.str_model.specs.declared.messages.Message.{Message}
use Rattle.str_model.specs.Owned.{IsView}
use Rattle.str_model.specs.Proposals.{is_done, is_parked}
use Rattle.str_model.specs.Runs.{run}
use Rattle.str_scene.specs.SceneLimits.{IsScene}
use Rattle.str_scene.specs.Scenes.{Scene}
use Rattle.str_base.specs.Versions.{of_pair}
use Rattle.str_model.specs.Views.{View}

-- a pair is untouched, its Prepare is parked, its versions stand here, or it is done
pub data PairStage : Type 0 where
  Untouched : PairStage
  Parked : PairStage
  Standing : PairStage
  Ended : PairStage

-- from the three tests: done, versions, parked
abbrev pub stage_by : Bool → Bool → Bool → PairStage
stage_by true versions parked = Ended
stage_by false true parked = Standing
stage_by false false true = Parked
stage_by false false false = Untouched

-- the stage of a pair
abbrev pub pair_stage : View → TxId → PartId → PairStage
pair_stage v tx p = stage_by (is_done v tx p) (list_any (of_pair tx p) v.versions) (is_parked v tx p)

-- the order of the stages
abbrev pub rank : PairStage → ℕ
rank Untouched = 0
rank Parked = 1
rank Standing = 2
rank Ended = 3

-- the law: a pair of another node's transaction moves only forward
abbrev pub StagesForward : Type 0
StagesForward =
    (scene : Scene) → IsScene scene → (early late : List Event) (n : ℕ) (v w : View) → IsView scene early n v → IsView scene (early ++ late) n w
    → (tx : TxId) (p : PartId) → tx.node.0 ≢ n + 1 → rank (pair_stage v tx p) ≤ rank (pair_stage w tx p)

-- the law: where a node sent an Ack of a pair of another node's transaction, the pair's versions stand there, or it is done
abbrev pub AcksKnown : Type 0
AcksKnown =
    (scene : Scene) → IsScene scene → (events : List Event) (n k : ℕ) (v : View) (m : Message) → IsView scene events n v → slice_get (run scene events).sent k ≡ Some m
    → m.sender.0 ≡ n + 1 → (tx : TxId) (p : PartId) (ts : Ts) → m.body ≡ Ack tx p ts → tx.node.0 ≢ n + 1 → 2 ≤ rank (pair_stage v tx p)
