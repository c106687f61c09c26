-- The nodes of a race as they are made.
use Rattle.race_round.specs.declared.nodes.RaceNode.{RaceNode}
use Rattle.std.specs.Prelude.{List, Some, slice_get, ℕ, ◌≡◌}
use Rattle.str_scene.specs.Scenes.{Scene}

-- the nodes are of the scene
pub record AreOfScene {C G : Type 0} (scene : Scene) (ns : List (RaceNode C G)) : Type 0 where
  pub scene_ : (i : ℕ) (n : RaceNode C G) → slice_get ns i ≡ Some n → n.node.scene ≡ scene
