-- The law Times.
use Rattle.str_model.specs.Owned.{AreTimed}
use Rattle.std.specs.Prelude.{List, Some, slice_get, ℕ, ◌*◌, ◌+◌, ◌<◌, ◌^◌, ◌≡◌, ◌≤◌}
use Rattle.dependency_set.specs.declared.names.Dep.{Dep}
use Rattle.str_scene.specs.declared.names.Event.{Event}
use Rattle.si_laws.specs.Numbers.{all_times, proposals}
use Rattle.str_model.specs.Owned.{Always, Owns}
use Rattle.str_model.specs.Runs.{run}
use Rattle.str_scene.specs.SceneLimits.{IsScene}
use Rattle.str_scene.specs.Scenes.{Scene}
use Rattle.str_model.specs.Views.{Own}

-- the law
abbrev pub TimesHold : Type 0
TimesHold = Always (λ scene events n v. AreTimed v)

-- a dependency has a smaller number, of a decided transaction too
abbrev pub DependenciesEarlier : Type 0
DependenciesEarlier =
    Always (λ scene events n v. (i k : ℕ) (x : Own) (dep : Dep) → Owns v i x → slice_get x.snap.deps k ≡ Some dep → dep.seq < i + 1)

-- every timestamp is below 2 ^ 62 and the number of proposals, of which there are 1024 * 113 at most
abbrev pub TimesBounded : Type 0
TimesBounded =
    (scene : Scene) → IsScene scene → (events : List Event)
    → ((i t : ℕ) → slice_get (all_times (run scene events)) i ≡ Some t → t < 2 ^ 62 + proposals (run scene events))
    × (proposals (run scene events) ≤ 1024 * 113)
