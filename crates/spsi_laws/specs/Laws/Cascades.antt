-- The law Cascades.
use Rattle.std.specs.Prelude.{Some, false, slice_get, ℕ, ◌+◌, ◌<◌, ◌≡◌}
use Rattle.dependency_set.specs.declared.names.Dep.{Dep}
use Rattle.spsi_laws.specs.Laws.Dependencies.{StandsFor}
use Rattle.str_model.specs.declared.messages.Input.{Input}
use Rattle.str_model.specs.Owned.{Always, Owns}
use Rattle.str_model.specs.Pass.{pass_to}
use Rattle.str_model.specs.Steps.{rule}
use Rattle.str_model.specs.Views.{Doing, Own, is_decided, starts}
use Rattle.str_scene.specs.Scenes.{Here, Scene}

-- the n-th node of a scene, counted from 0
abbrev pub node_at : Scene → ℕ → Here
node_at scene n = record { scene = scene; node = record { 0 = n + 1 } }

-- one pass by rising number ends every cascade: whatever the rule of an input did, after the turns of the first m own
-- transactions each dependency of an undecided one among them stands, so none of them depends on one that aborted
abbrev pub CascadesEnd : Type 0
CascadesEnd =
    Always (λ scene events n v. (input : Input) (ruled : Doing) (m i k : ℕ) (x : Own) (dep : Dep) → rule (node_at scene n) input (starts v) ≡ Some ruled
    → i < m → Owns (pass_to (node_at scene n) m ruled).view i x → is_decided x.phase ≡ false → slice_get x.snap.deps k ≡ Some dep
    → StandsFor (pass_to (node_at scene n) m ruled).view x dep)
