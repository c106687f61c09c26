-- The law Cut: a run that is cut off has a beginning of the journal and of the answers.
use Rattle.std.specs.Prelude.{List, take, ℕ, ◌++◌, ◌≡◌}
use Rattle.str_model.specs.Runs.{World, run}
use Rattle.str_scene.specs.SceneLimits.{IsScene}
use Rattle.str_scene.specs.Scenes.{Scene}
use Rattle.str_scene.specs.declared.names.Event.{Event}

-- the list begins with the other one
abbrev pub BeginsWith : {X : Type 0} → List X → List X → Type 0
BeginsWith {X} ys xs = (rest : List X) × (xs ++ rest ≡ ys)

-- the journal and the answers of the one state begin with those of the other
pub record GoesOnFrom (early late : World) : Type 0 where
  pub journal : BeginsWith late.journal early.journal
  pub answers : BeginsWith late.answers early.answers

-- the law
abbrev pub CutHolds : Type 0
CutHolds =
    (scene : Scene) → IsScene scene → (events : List Event) (i : ℕ) → GoesOnFrom (run scene (take i events)) (run scene events)
