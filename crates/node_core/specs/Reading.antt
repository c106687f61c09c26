-- When an own transaction may read a key, when its script may go on, and when it may be certified.
use Rattle.std.specs.Prelude.{None, [], ◌-◌, ◌≡◌, ◌≢◌, ◌⊎◌}
use Rattle.node_parts.specs.Owning.{HasPlace, IsFree}
use Rattle.str_base.specs.declared.names.KeyId.{KeyId}
use Rattle.str_model.specs.NodeFacts.{AtNeed, PlacedIn}
use Rattle.str_model.specs.Owned.{WaitsFor}
use Rattle.str_model.specs.Scripts.{own_op}
use Rattle.str_model.specs.Views.{Active, CertWait, Own}
use Rattle.str_scene.specs.Scenes.{Here, script_at}

-- it is Active or waits for the key, and its script stands at an operation that needs the key, of which nothing is known
abbrev pub MayRead : Here → KeyId → Own → Type 0
MayRead here k x = ((x.phase ≡ Active) ⊎ WaitsFor x.phase k) × AtNeed here x k

-- it is undecided and was not certified, its script is one of the scene, and there is room for what a get gives
pub record CanTurn (here : Here) (x : Own) : Type 0 where
  pub free : IsFree x
  pub placed : PlacedIn here.scene (here.node.0 - 1) x.place
  pub place : HasPlace (script_at here.scene x.place) x

-- it has written, and asks to commit for the first time or waits for its certification
abbrev pub AsksToCommit : Here → Own → Type 0
AsksToCommit here x = ((x.phase ≡ Active) × (own_op here x ≡ None) × (x.writes ≢ [])) ⊎ (x.phase ≡ CertWait)
