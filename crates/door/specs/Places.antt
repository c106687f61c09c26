-- The places of a node's transactions, and their order.
use Rattle.std.specs.List.{range_with_len}
use Rattle.std.specs.Prelude.{List, Some, [], if◌then◌else◌, length, map, ℕ, ⊤, ◌++◌, ◌+◌, ◌<◌, ◌∷◌, ◌≡◌, ◌⊎◌}
use Rattle.str_base.specs.Members.{In}
use Rattle.str_base.specs.Versions.{same_node}
use Rattle.str_base.specs.declared.names.NodeId.{NodeId}
use Rattle.str_scene.specs.SceneLimits.{Exists}
use Rattle.str_scene.specs.Scenes.{Scene, Session, nth}
use Rattle.str_scene.specs.declared.names.TxPlace.{TxPlace}

-- the place is of a transaction of a session of the node
pub record IsPlaceOf (scene : Scene) (node : NodeId) (p : TxPlace) : Type 0 where
  pub text : Session
  pub there : nth scene.sessions p.session.0 ≡ Some text
  pub node_ : text.node ≡ node
  pub index : Exists p.index (length text.txs)

-- the one place comes before the other: by session, then by number
abbrev pub ComesBefore : TxPlace → TxPlace → Type 0
ComesBefore p q = (p.session.0 < q.session.0) ⊎ ((p.session.0 ≡ q.session.0) × (p.index < q.index))

-- each place comes before all that follow it, so none stands twice
abbrev pub PlacesRise : List TxPlace → Type 0
PlacesRise [] = ⊤
PlacesRise (p ∷ ps) = ((q : TxPlace) → In q ps → ComesBefore p q) × PlacesRise ps

-- the place with a number, counted from 1, in a session
abbrev pub numbered_place : ℕ → ℕ → TxPlace
numbered_place session i = record { session = record { 0 = session }; index = i }

-- the first places of a session
abbrev pub places_in : ℕ → ℕ → List TxPlace
places_in session count = map (numbered_place session) (range_with_len 1 count)

-- the places of a session, where it is of the node
abbrev pub places_at : NodeId → ℕ → Session → List TxPlace
places_at node session text = if same_node text.node node then places_in session (length text.txs) else []

-- those of these sessions, of which the first has this number
abbrev pub places_from : NodeId → ℕ → List Session → List TxPlace
places_from node session [] = []
places_from node session (t ∷ ts) = places_at node session t ++ places_from node (session + 1) ts

-- the places of a node, upwards
abbrev pub own_places : Scene → NodeId → List TxPlace
own_places scene node = places_from node 1 scene.sessions
