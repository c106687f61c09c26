-- The run of a scene in a cluster that prunes, with its drain.
use Rattle.std.specs.Prelude.{List, [], if◌then◌else◌, suc, zero, ℕ, ◌++◌, ◌∷◌}
use Rattle.str_scene.specs.declared.names.Event.{Event}
use Rattle.str_scene.specs.Scenes.{Scene}
use Rattle.str_model.specs.Drains.{and_on, next_event}
use Rattle.str_model.specs.PrunedRuns.{PrunedWorld, pruned_happens, pruned_run}
use Rattle.str_model.specs.Work.{left}

-- the events of the drain, n at most
abbrev pub pruned_drain_events : Scene → ℕ → PrunedWorld → List Event
pruned_drain_events scene zero p = []
pruned_drain_events scene (suc n) p = and_on (λ e. e ∷ pruned_drain_events scene n (pruned_happens scene p e)) (next_event scene p.world)

-- the drain's events, where the scene has a drain
abbrev pub pruned_drained : Scene → PrunedWorld → List Event
pruned_drained scene p = if scene.drain then pruned_drain_events scene (left scene p.world) p else []

-- the schedule, and then the events of the drain
unfoldable pub pruned_cluster_events : Scene → List Event
pruned_cluster_events scene = scene.schedule ++ pruned_drained scene (pruned_run scene scene.schedule)

-- the one pruned run of a scene
unfoldable pub pruned_cluster_run : Scene → PrunedWorld
pruned_cluster_run scene = pruned_run scene (pruned_cluster_events scene)
