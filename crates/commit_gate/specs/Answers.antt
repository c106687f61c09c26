-- What a gate says, and when it says so.
use Rattle.std.specs.List.{list_any}
use Rattle.std.specs.Prelude.{Bool, IsTrue, List, None, Some, find, is_some, map, not, slice_get, ℕ, ◌≡◌, ◌≤◌, ◌⊎◌}
use Rattle.commit_gate.specs.declared.gates.GateTurn.{GateTurn}
use Rattle.commit_gate.specs.declared.gates.GateTurn.TheVariants.{Ask, Commit, Missing, Shut}
use Rattle.dependency_set.specs.declared.names.Dep.{Dep}
use Rattle.dependency_set.specs.Snapshots.{Snap}
use Rattle.partition_map.specs.declared.rows.Asked.{Asked}
use Rattle.partition_map.specs.Maps.{PartitionMap, participants}
use Rattle.str_base.specs.declared.names.NodeId.{NodeId}
use Rattle.str_base.specs.declared.names.PartId.{PartId}
use Rattle.str_base.specs.declared.names.Ts.{Ts}
use Rattle.str_base.specs.declared.names.Write.{Write}
use Rattle.str_base.specs.Versions.{same_part}
use Rattle.str_model.specs.Gates.{DepParts, dep_parts, may_ask}
use Rattle.str_model.specs.Gates
use Rattle.str_model.specs.Views.{Own, View}
use Rattle.str_scene.specs.Scenes.{Here}

-- ---- the turn of the model

-- what a gate says, in the words of the model
abbrev pub turn_of : GateTurn → Gates.GateTurn
turn_of (Ask p) = Gates.Ask p
turn_of (Shut q) = Gates.Shut q
turn_of (Missing p n) = Gates.Missing p n
turn_of (Commit fc) = Gates.CommitAt fc.0

-- the two dependencies are of one number and wrote in the same partitions
abbrev pub IsSame : DepParts → DepParts → Type 0
IsSame w v = (w.seq ≡ v.seq) × ((p : PartId) → list_any (same_part p) w.parts ≡ list_any (same_part p) v.parts)

-- these are the dependencies, in any order, each with the partitions that its write buffer names
pub record Tells (here : Here) (own : List Own) (deps : List Dep) (wrote : List DepParts) : Type 0 where
  pub each : (k : ℕ) (w : DepParts) → slice_get wrote k ≡ Some w
      → (i : ℕ) × (d : Dep) × (slice_get deps i ≡ Some d) × IsSame w (dep_parts here own d)
  pub all : (i : ℕ) (d : Dep) → slice_get deps i ≡ Some d
      → (k : ℕ) × (w : DepParts) × (slice_get wrote k ≡ Some w) × IsSame w (dep_parts here own d)

-- this holds of each own transaction with this snapshot and these participants, in each view with these dependencies
abbrev pub InGatedViews : Snap → List Asked → List DepParts → (Here → View → Own → Type 0) → Type 0
InGatedViews snap parts wrote P =
    (here : Here) (view : View) (x : Own) → x.snap ≡ snap → x.parts ≡ parts → Tells here view.own snap.deps wrote → P here view x

-- ---- causes

-- the first partition that is not asked and in which none of these wrote
abbrev pub FirstFree : List DepParts → List Asked → PartId → Type 0
FirstFree wrote parts p = (a : Asked) × (find (may_ask wrote) parts ≡ Some a) × (a.part ≡ p)

-- there is no such partition
abbrev pub NoneFree : List DepParts → List Asked → Type 0
NoneFree wrote parts = find (may_ask wrote) parts ≡ None

-- no such partition is below this one
abbrev pub IsLeastFree : List DepParts → List Asked → PartId → Type 0
IsLeastFree wrote parts p = (i : ℕ) (a : Asked) → slice_get parts i ≡ Some a → IsTrue (may_ask wrote a) → p.0 ≤ a.part.0

-- the participants stand by rising partition
abbrev pub IsUpwards : List Asked → Type 0
IsUpwards parts =
    (i j : ℕ) (a b : Asked) → i ≤ j → slice_get parts i ≡ Some a → slice_get parts j ≡ Some b → a.part.0 ≤ b.part.0

-- those that a map gives do
abbrev pub ParticipantsRise : Type 0
ParticipantsRise = (all : PartitionMap) (origin : NodeId) (ws : List Write) → IsUpwards (participants all origin ws)

-- and still do after a change of each that keeps its partition
abbrev pub ChangesKeepOrder : Type 0
ChangesKeepOrder = (f : Asked → Asked) → ((a : Asked) → (f a).part ≡ a.part) → (parts : List Asked) → IsUpwards parts → IsUpwards (map f parts)

-- the least number of a dependency
pub record IsLeast (deps : List Dep) (q : ℕ) : Type 0 where
  pub one : (i : ℕ) × (d : Dep) × (slice_get deps i ≡ Some d) × (d.seq ≡ q)
  pub least : (i : ℕ) (d : Dep) → slice_get deps i ≡ Some d → q ≤ d.seq

-- the participant has not answered
abbrev pub is_missing : Asked → Bool
is_missing a = not (is_some a.ack)

-- the first participant that has not answered
abbrev pub FirstMissing : List Asked → PartId → NodeId → Type 0
FirstMissing parts p n = (a : Asked) × (find is_missing parts ≡ Some a) × (a.part ≡ p) × (a.node ≡ n)

-- each participant has answered
abbrev pub NoneMissing : List Asked → Type 0
NoneMissing parts = find is_missing parts ≡ None

-- a participant answered this
abbrev pub IsAcked : List Asked → ℕ → Type 0
IsAcked parts n = (i : ℕ) × (a : Asked) × (t : Ts) × (slice_get parts i ≡ Some a) × (a.ack ≡ Some t) × (t.0 ≡ n)

-- the greatest of the local commit timestamp and all answers
pub record IsGreatest (lc : ℕ) (parts : List Asked) (fc : ℕ) : Type 0 where
  pub from : lc ≤ fc
  pub above : (n : ℕ) → IsAcked parts n → n ≤ fc
  pub one : (fc ≡ lc) ⊎ IsAcked parts fc
