-- The run of a race: the merge of what its nodes did in their rounds, and then the drain.
use Rattle.cluster_run.specs.Clusters.{events_of as journal_events}
use Rattle.lamport_log.specs.Closed.{Closed}
use Rattle.lamport_log.specs.Logs.{Log}
use Rattle.lamport_log.specs.Merge.{events_of, merge_of}
use Rattle.lamport_log.specs.Replays.{AllReplay, AreLogs}
use Rattle.lamport_log.specs.Rounds.{Rounds}
use Rattle.spsi_laws.specs.Headline.{Headline}
use Rattle.spsi_laws.specs.Laws.Drain.{drain_from}
use Rattle.spsi_laws.specs.Laws.Ends.{Ended}
use Rattle.std.specs.Prelude.{List, None, ℕ, ◌++◌, ◌≡◌}
use Rattle.str_model.specs.Drains.{next_event}
use Rattle.str_model.specs.Runs.{World, run}
use Rattle.str_model.specs.Views.{View}
use Rattle.str_scene.specs.Scenes.{Scene}
use Rattle.str_scene.specs.declared.names.Event.{Event}
use Rattle.strrace.specs.RaceWords.{AskRounds}

-- the events of these logs, in order of stamp and then of node
abbrev pub merged_events : List Log → List Event
merged_events logs = events_of (merge_of logs)

-- these are the logs of so many rounds of a scene's nodes: one for each node, which replays; the logs are closed
pub record AreRaceLogs (scene : Scene) (count : ℕ) (logs : List Log) : Type 0 where
  pub are : AreLogs scene logs
  pub views : List View
  pub replay : AllReplay scene logs views
  pub closed : Closed logs
  pub rounds : Rounds scene logs count

-- the events are those of a race of so many rounds: the merge of its logs, and then the drain, to where its rule stops
pub record IsRaceOf (scene : Scene) (count : ℕ) (events : List Event) : Type 0 where
  pub logs : List Log
  pub are : AreRaceLogs scene count logs
  pub whole : events ≡ merged_events logs ++ drain_from scene (run scene (merged_events logs))
  pub stop : next_event scene (run scene events) ≡ None

-- the state is the one after such a race
pub record IsRaced (scene : Scene) (count : ℕ) (w : World) : Type 0 where
  pub events : List Event
  pub race : IsRaceOf scene count events
  pub ran : w ≡ run scene events

-- a run that the program writes for these words
pub record IsRaceRun (words : List (List ℕ)) (scene : Scene) (events : List Event) : Type 0 where
  -- it is a race of as many rounds as the words ask for
  pub count : ℕ
  pub asked : AskRounds words count
  pub race : IsRaceOf scene count events
  -- its journal has these events, in this order
  pub spelled : journal_events (run scene events).journal ≡ events
  -- its answers are a run of the snapshot isolation machine; what undecided transactions have read meets speculative snapshot isolation after each
  -- event; nothing commits before what it depends on; each abort names its true cause
  pub headline : Headline scene events
  -- at its end nothing is left to do, every transaction is answered, and the last line has `held=0` and `unbegun=0`
  pub ended : Ended scene (run scene events)
