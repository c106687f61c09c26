-- What a node knows of its scene.
use Rattle.std.specs.Prelude.{Bool, None, Option, Some, false, is_some, true, ◌≡◌}
use Rattle.partition_map.specs.Maps.{PartitionMap}
use Rattle.str_base.specs.declared.names.NodeId.{NodeId}
use Rattle.str_base.specs.Versions.{same_node}
use Rattle.str_model.specs.Strange.{has_node}
use Rattle.str_scene.specs.declared.names.TxPlace.{TxPlace}
use Rattle.str_scene.specs.SceneLimits.{IsScene}
use Rattle.str_scene.specs.Scenes.{Here, Scene, Session, map_of, nth}

-- the session is one of the node
abbrev pub is_at : Here → Option Session → Bool
is_at here None = false
is_at here (Some text) = same_node text.node here.node

-- there is a script at the place
abbrev pub has_script : Option Session → TxPlace → Bool
has_script None place = false
has_script (Some text) place = is_some (nth text.txs place.index)

-- what the type of a site keeps: a scene, one of its nodes, and its map
pub record IsSite (scene : Scene) (node : NodeId) (map : PartitionMap) : Type 0 where
  pub limits : IsScene scene
  pub exists : has_node (record { scene = scene; node = node }) node ≡ true
  pub map_is : map_of scene ≡ map
