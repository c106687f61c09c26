-- When a transaction may begin.
use Rattle.std.specs.Prelude.{List, None, Option, Some, slice_get, true, ℕ, ◌+◌, ◌≡◌}
use Rattle.node_core.specs.Working.{WorkState}
use Rattle.str_base.specs.Versions.{same_node}
use Rattle.str_model.specs.Clients.{last_index, of_session}
use Rattle.str_model.specs.Views.{Own, is_decided}
use Rattle.str_scene.specs.declared.names.Op.{Op}
use Rattle.str_scene.specs.declared.names.TxPlace.{TxPlace}
use Rattle.str_scene.specs.Scenes.{Here, Session, nth}

-- the script of a session at a place
abbrev pub script_in : Option Session → TxPlace → Option (List Op)
script_in None place = None
script_in (Some text) place = nth text.txs place.index

-- the script at a place
abbrev pub script_of : Here → TxPlace → Option (List Op)
script_of here place = script_in (nth here.scene.sessions place.session.0) place

-- the place is that of the session's next transaction: the first one, or the one after the last that began, which is decided
pub data IsNext (own : List Own) (place : TxPlace) : Type 0 where
  at_first : last_index (of_session place.session) own ≡ None → place.index ≡ 1 → IsNext own place
  at_next : (i : ℕ) (x : Own) → last_index (of_session place.session) own ≡ Some i → slice_get own i ≡ Some x → is_decided x.phase ≡ true
      → place.index ≡ x.place.index + 1 → IsNext own place

-- the session is one of the node, and the place is its next one
pub record MayBegin (w : WorkState) (place : TxPlace) : Type 0 where
  pub text : Session
  pub session : nth w.here.scene.sessions place.session.0 ≡ Some text
  pub node : same_node text.node w.here.node ≡ true
  pub next : IsNext w.doing.view.own place
