-- What stays: decided transactions, and answers.
use Rattle.std.specs.Prelude.{List, true, ℕ, ◌++◌, ◌≡◌}
use Rattle.str_scene.specs.declared.names.Event.{Event}
use Rattle.str_model.specs.declared.messages.Answer.{Answer}
use Rattle.str_model.specs.Owned.{IsView, Owns}
use Rattle.str_model.specs.Runs.{run}
use Rattle.str_scene.specs.SceneLimits.{IsScene}
use Rattle.str_scene.specs.Scenes.{Scene}
use Rattle.str_model.specs.Views.{Own, View, is_decided}

-- a decided transaction stays as it is, whatever comes later
abbrev pub DecidedStay : Type 0
DecidedStay =
    (scene : Scene) → IsScene scene → (early late : List Event) (n i : ℕ) (v : View) (x : Own)
    → IsView scene early n v → Owns v i x → is_decided x.phase ≡ true
    → (w : View) × IsView scene (early ++ late) n w × Owns w i x

-- the list begins with the other one
abbrev pub IsPrefixOf : List Answer → List Answer → Type 0
IsPrefixOf xs ys = (rest : List Answer) × (xs ++ rest ≡ ys)

-- the answers so far are a prefix of the answers later
abbrev pub AnswersGrow : Type 0
AnswersGrow =
    (scene : Scene) → IsScene scene → (early late : List Event)
    → IsPrefixOf (run scene early).answers (run scene (early ++ late)).answers
