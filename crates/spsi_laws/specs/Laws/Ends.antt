-- The law Ends: where nothing is left to do nothing is held and everything has begun, and a run with a drain ends there.
use Rattle.std.specs.Prelude.{true, ◌≡◌}
use Rattle.spsi_laws.specs.Laws.Rest.{AllAnswered}
use Rattle.str_model.specs.Drains.{AtRest, cluster_run}
use Rattle.str_model.specs.Lines.{counts}
use Rattle.str_model.specs.Owned.{OfEachState}
use Rattle.str_model.specs.Runs.{World}
use Rattle.str_scene.specs.SceneLimits.{IsScene}
use Rattle.str_scene.specs.Scenes.{Scene}

-- no transaction is begun and undecided, and none has still to begin
pub record NoneOpen (scene : Scene) (w : World) : Type 0 where
  pub held : (counts scene w).held ≡ 0
  pub unbegun : (counts scene w).unbegun ≡ 0

-- at rest no transaction is open
abbrev pub RestClosed : Type 0
RestClosed = OfEachState (λ scene w. AtRest scene w → NoneOpen scene w)

-- at rest, with every transaction answered and none open
pub record Ended (scene : Scene) (w : World) : Type 0 where
  pub rest : AtRest scene w
  pub answered : AllAnswered scene w
  pub closed : NoneOpen scene w

-- the run of a scene with a drain ends so
abbrev pub EndsAtRest : Type 0
EndsAtRest = (scene : Scene) → IsScene scene → scene.drain ≡ true → Ended scene (cluster_run scene)
