-- What contracts see of a cluster that prunes.
use Rattle.cluster_run.specs.Clusters.{ArePlaced, events_of, world_of}
use Rattle.cluster_run.specs.declared.marks.Told.{Told}
use Rattle.cluster_run.specs.declared.pruned_parts.PrunedParts.{PrunedParts}
use Rattle.cluster_run.specs.Marks.{hearing}
use Rattle.prune_laws.specs.PrunedClusters.{pruned_drain_events}
use Rattle.std.specs.List.{sum_by}
use Rattle.std.specs.Prelude.{List, None, Option, Some, length, replicate, slice_get, slice_set, take, ℕ, ◌++◌, ◌-◌, ◌≡◌}
use Rattle.str_model.specs.PrunedRuns.{PrunedWorld, bound, pruned_from, pruned_run, row_or}
use Rattle.str_model.specs.Pruning.{low, pruned}
use Rattle.str_model.specs.Runs.{World}
use Rattle.str_model.specs.Views.{View}
use Rattle.str_model.specs.Work.{left}
use Rattle.str_scene.specs.declared.names.Event.{Event}
use Rattle.str_scene.specs.SceneLimits.{IsScene}
use Rattle.str_scene.specs.Scenes.{Scene}

-- a cluster that prunes: its scene, and all that has happened
pub record PrunedState : Type 0 where
  pub scene : Scene
  pub state : PrunedWorld

-- the state is the pruned run of its journal
abbrev pub IsPrunedRun : Scene → PrunedWorld → Type 0
IsPrunedRun scene p = p ≡ pruned_run scene (events_of p.world.journal)

-- how many versions all nodes have
abbrev pub kept_versions : World → ℕ
kept_versions w = sum_by (λ (v : View). length v.versions) w.nodes

-- ---- parts

-- the pruned world that these parts show
abbrev pub pruned_of : PrunedParts → PrunedWorld
pruned_of p = record { world = world_of p.cluster; carried = p.carried.marks; heard = p.heard.items }

-- what a cluster that prunes keeps of its parts: the scene's limits, the nodes at their places, and that what has happened is the pruned run of the journal
pub record IsPrunedCluster (p : PrunedParts) : Type 0 where
  pub limits : IsScene p.cluster.scene
  pub placed : ArePlaced p.cluster.scene p.cluster.nodes.items
  pub run_ : IsPrunedRun p.cluster.scene (pruned_of p)

-- the scene is the same, the nodes are at its places, and the state is q
pub record PrunedComes (q : PrunedWorld) (old new : PrunedParts) : Type 0 where
  pub scene_ : new.cluster.scene ≡ old.cluster.scene
  pub placed : ArePlaced new.cluster.scene new.cluster.nodes.items
  pub state : pruned_of new ≡ q

-- the node at a place hears what it was told and prunes; the messages beyond the first so many carry its low mark
abbrev pub settled_at : ℕ → Option Told → ℕ → PrunedWorld → Option View → PrunedWorld
settled_at i told sent p None = p
settled_at i told sent p (Some v) =
    let row = hearing told (row_or (slice_get p.heard i)) in
    record {
      world = record p.world { nodes = slice_set p.world.nodes i (pruned (bound (low v) i row) v) };
      carried = p.carried ++ replicate (length p.world.sent - sent) (low v);
      heard = slice_set p.heard i row;
    }

-- so it is where there is such a place
abbrev pub settled : Option ℕ → Option Told → ℕ → PrunedWorld → PrunedWorld
settled None told sent p = p
settled (Some i) told sent p = settled_at i told sent p (slice_get p.world.nodes i)

-- ---- the schedule and the drain

-- the first of the schedule's events have happened
pub record PartOfSchedule (scene : Scene) (old new : PrunedWorld) : Type 0 where
  pub count : ℕ
  pub ran : new ≡ pruned_from scene old (take count scene.schedule)

-- the drain's events, from a state on
abbrev pub pruned_drain_from : Scene → PrunedWorld → List Event
pruned_drain_from scene p = pruned_drain_events scene (left scene p.world) p

-- the state after the whole drain of a state
abbrev pub pruned_drained_from : Scene → PrunedWorld → PrunedWorld
pruned_drained_from scene p = pruned_from scene p (pruned_drain_from scene p)

-- the first of the drain's events have happened
pub record PartOfDrain (scene : Scene) (old new : PrunedWorld) : Type 0 where
  pub done : List Event
  pub ran : new ≡ pruned_from scene old done
  pub rest : done ++ pruned_drain_from scene new ≡ pruned_drain_from scene old
