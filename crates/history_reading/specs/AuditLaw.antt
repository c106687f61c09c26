-- The law of the audit: what a run writes is a history of its scene and its answers and of no others, and the machine runs on them.
use Rattle.history_reading.specs.Histories.{IsHistoryText}
use Rattle.si_laws.specs.SnapshotIsolation.{SIRun}
use Rattle.std.specs.Prelude.{List, length, ℕ, ◌++◌, ◌<◌, ◌^◌, ◌≡◌}
use Rattle.str_model.specs.Lines.{render}
use Rattle.str_model.specs.Runs.{run}
use Rattle.str_model.specs.declared.messages.Answer.{Answer}
use Rattle.str_scene.specs.SceneLimits.{IsScene}
use Rattle.str_scene.specs.Scenes.{Scene}
use Rattle.str_scene.specs.Spelling.{spelling}
use Rattle.str_scene.specs.declared.names.Event.{Event}

-- the scene's text, and what its run writes
abbrev pub printed : Scene → List Event → List ℕ
printed scene events = spelling scene ++ render scene (run scene events)

-- of a run that sent fewer than 2^64 messages
pub record Audited (scene : Scene) (events : List Event) : Type 0 where
  pub isolated : SIRun scene (run scene events).answers
  pub spelled : IsHistoryText (printed scene events) scene (run scene events).answers
  pub alone : (other : Scene) (answers : List Answer) → IsHistoryText (printed scene events) other answers → (other ≡ scene) × (answers ≡ (run scene events).answers)

-- of every scene and every list of events
abbrev pub AuditHolds : Type 0
AuditHolds = (scene : Scene) → IsScene scene → (events : List Event) → length (run scene events).sent < 2 ^ 64 → Audited scene events
