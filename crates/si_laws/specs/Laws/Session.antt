-- The law Session: places and session order.
use Rattle.str_model.specs.Owned.{OfEachState}
use Rattle.str_model.specs.Runs.{World}
use Rattle.str_scene.specs.Scenes.{Scene}
use Rattle.si_laws.specs.SnapshotIsolation.{AnswersPlaced, SessionOrder}

-- places and session order of the answers so far
pub record SessionsOrdered (scene : Scene) (w : World) : Type 0 where
  pub placed : AnswersPlaced scene w.answers
  pub order : SessionOrder w.answers

-- the law
abbrev pub SessionHolds : Type 0
SessionHolds = OfEachState SessionsOrdered
