-- What the program writes.
use Rattle.cluster_run.specs.Clusters.{events_of}
use Rattle.spsi_laws.specs.Headline.{Headline}
use Rattle.spsi_laws.specs.Laws.Ends.{Ended}
use Rattle.std.specs.Prelude.{List, None, codes, ℕ, ◌≡◌}
use Rattle.str_model.specs.Drains.{next_event}
use Rattle.str_model.specs.Runs.{run}
use Rattle.str_scene.specs.Scenes.{Scene}
use Rattle.str_scene.specs.declared.names.Event.{Event}

-- the program's name
abbrev pub door_name : List ℕ
door_name = codes "door"

-- a run that the program writes
pub record IsDoorRun (scene : Scene) (events : List Event) : Type 0 where
  -- its journal has these events, in this order
  pub spelled : events_of (run scene events).journal ≡ events
  -- after them the drain's rule names no event
  pub stop : next_event scene (run scene events) ≡ None
  -- so nothing is left to do, every transaction is answered, and the last line has `held=0` and `unbegun=0`
  pub ended : Ended scene (run scene events)
  -- its answers are a run of the snapshot isolation machine; what undecided transactions have read meets speculative snapshot isolation after each
  -- event; nothing commits before what it depends on; each abort names its true cause
  pub headline : Headline scene events
