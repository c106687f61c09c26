-- What is promised of the one run of a scene.
use Rattle.std.specs.Prelude.{List, take, ℕ}
use Rattle.str_scene.specs.declared.names.Event.{Event}
use Rattle.si_laws.specs.GateLaw.{GateLaw}
use Rattle.si_laws.specs.Laws.Answers.{AbortsAnswered, CommitsAnswered}
use Rattle.str_model.specs.Runs.{run}
use Rattle.str_scene.specs.SceneLimits.{IsScene}
use Rattle.str_scene.specs.Scenes.{Scene}
use Rattle.si_laws.specs.SnapshotIsolation.{SIRun}
use Rattle.si_laws.specs.SpeculativeIsolation.{SPSI}
use Rattle.str_model.specs.Traces.{trace}
use Rattle.si_laws.specs.TrueCause.{TrueCause}

-- snapshot isolation of the answers, speculative snapshot isolation after each event, the gate law, true causes, and each answer was given where
-- its transaction was decided so
pub record Headline (scene : Scene) (events : List Event) : Type 0 where
  pub isolation : SIRun scene (run scene events).answers
  pub speculation : (n : ℕ) → SPSI (run scene (take n events))
  pub gate : GateLaw (trace scene events)
  pub causes : TrueCause scene (run scene events) (trace scene events)
  pub aborts : AbortsAnswered scene (run scene events) (trace scene events)
  pub commits : CommitsAnswered (run scene events) (trace scene events)

-- for every scene, of its one run and of every other list of events
abbrev pub HeadlineHolds : Type 0
HeadlineHolds = (scene : Scene) → IsScene scene → (events : List Event) → Headline scene events
