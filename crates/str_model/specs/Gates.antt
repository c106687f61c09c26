-- The gate of a certified transaction: which partition it asks next, what it waits for, or that it commits.
use Rattle.std.specs.List.{list_any}
use Rattle.std.specs.Prelude.{Bool, List, None, Option, Some, [], find, is_some, map, max, not, slice_get, ℕ, ◌&&◌, ◌-◌, ◌∷◌}
use Rattle.partition_map.specs.declared.rows.Asked.{Asked}
use Rattle.dependency_set.specs.declared.names.Dep.{Dep}
use Rattle.str_base.specs.declared.names.NodeId.{NodeId}
use Rattle.str_base.specs.declared.names.PartId.{PartId}
use Rattle.str_scene.specs.Scenes.{Here, written_parts}
use Rattle.dependency_set.specs.Snapshots.{Snap}
use Rattle.str_model.specs.Turns.{greatest}
use Rattle.str_base.specs.Versions.{same_part}
use Rattle.str_model.specs.Views.{Own, View}

-- what a gate says
pub data GateTurn : Type 0 where
  Ask : PartId → GateTurn
  Shut : ℕ → GateTurn
  Missing : PartId → NodeId → GateTurn
  CommitAt : ℕ → GateTurn

-- a dependency, and the partitions that it wrote in
pub record DepParts : Type 0 where
  pub seq : ℕ
  pub parts : List PartId

-- one of the dependencies wrote in the partition
abbrev pub dependency_wrote : List DepParts → PartId → Bool
dependency_wrote wrote p = list_any (λ d. list_any (same_part p) d.parts) wrote

-- the partition is not asked, and no dependency wrote in it
abbrev pub may_ask : List DepParts → Asked → Bool
may_ask wrote a = not a.asked && not (dependency_wrote wrote a.part)

-- the timestamp of an answer, 0 where there is none
abbrev pub ack_or_zero : Asked → ℕ
ack_or_zero a = elim a.ack [ None ↦ 0 | Some t ↦ t.0 ]

-- the first participant without an answer, else the commit
abbrev pub gate_acks : ℕ → List Asked → Option Asked → GateTurn
gate_acks lc parts (Some a) = Missing a.part a.node
gate_acks lc parts None = CommitAt (max lc (greatest (map ack_or_zero parts)))

-- the least dependency, else the answers
abbrev pub gate_deps : ℕ → List Asked → List Dep → GateTurn
gate_deps lc parts (d ∷ ds) = Shut d.seq
gate_deps lc parts [] = gate_acks lc parts (find (λ a. not (is_some a.ack)) parts)

-- the partition to be asked, else the dependencies
abbrev pub gate_asks : Snap → ℕ → List Asked → Option Asked → GateTurn
gate_asks snap lc parts (Some a) = Ask a.part
gate_asks snap lc parts None = gate_deps lc parts snap.deps

-- the least partition that is not asked and in which no dependency wrote, else the least dependency, else the first
-- participant without an answer, else the greatest of the local commit timestamp and all answers
unfoldable pub gate_turn : Snap → ℕ → List Asked → List DepParts → GateTurn
gate_turn snap lc parts wrote = gate_asks snap lc parts (find (may_ask wrote) parts)

-- the partitions that an own transaction wrote in
abbrev pub parts_of : Here → Option Own → List PartId
parts_of here None = []
parts_of here (Some x) = written_parts here.scene x.writes

-- the partitions that a dependency wrote in come from its write buffer
abbrev pub dep_parts : Here → List Own → Dep → DepParts
dep_parts here own d = record { seq = d.seq; parts = parts_of here (slice_get own (d.seq - 1)) }

-- the gate of an own transaction as it stands
abbrev pub gate_of : Here → View → ℕ → Own → GateTurn
gate_of here view lc x = gate_turn x.snap lc x.parts (map (dep_parts here view.own) x.snap.deps)
