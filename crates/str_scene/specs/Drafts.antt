-- A scene that is being built: what has been given so far, item by item, and where each item may stand.
use Rattle.std.specs.Prelude.{Bool, List, [], false, not, true, ℕ, ◌&&◌, ◌++◌, ◌==◌, ◌∷◌}
use Rattle.str_base.specs.declared.names.NodeId.{NodeId}
use Rattle.str_base.specs.declared.names.PartId.{PartId}
use Rattle.str_scene.specs.declared.names.Event.{Event}
use Rattle.str_scene.specs.declared.names.Op.{Op}
use Rattle.str_scene.specs.Keys.{with_pair, with_string}
use Rattle.str_scene.specs.Scenes.{Scene, Session}

-- before the first item; the number of nodes is 0 until it is given
abbrev pub empty_draft : ℕ → Scene
empty_draft version =
    record { version = version; nodes = 0; parts = []; keys = record { names = []; texts = [] }; sessions = []; schedule = []; drain = false }

-- the list is empty
abbrev pub is_none_yet : {X : Type 0} → List X → Bool
is_none_yet [] = true
is_none_yet (x ∷ xs) = false

-- the schedule has not begun
abbrev pub is_before_schedule : Scene → Bool
is_before_schedule d = is_none_yet d.schedule && not d.drain

-- the number of nodes comes first
abbrev pub may_have_nodes : Scene → Bool
may_have_nodes d = d.nodes == 0

-- partitions come after it, before sessions
abbrev pub may_have_part : Scene → Bool
may_have_part d = not (d.nodes == 0) && (is_none_yet d.sessions && is_before_schedule d)

-- sessions come after a partition
abbrev pub may_have_session : Scene → Bool
may_have_session d = not (is_none_yet d.parts) && is_before_schedule d

-- transactions, keys and byte strings come after a session
abbrev pub may_have_tx : Scene → Bool
may_have_tx d = not (is_none_yet d.sessions) && is_before_schedule d

-- entries and the drain come after a partition, and nothing comes after the drain
abbrev pub may_have_entry : Scene → Bool
may_have_entry d = not (is_none_yet d.parts) && not d.drain

-- with the number of nodes
abbrev pub with_nodes : ℕ → Scene → Scene
with_nodes n d = record d { nodes = n }

-- with one more partition
abbrev pub with_row : List NodeId → Scene → Scene
with_row row d = record d { parts = d.parts ++ row ∷ [] }

-- with one more session
abbrev pub with_session : NodeId → Scene → Scene
with_session node d = record d { sessions = d.sessions ++ (record { node = node; txs = [] }) ∷ [] }

-- the last session with one more transaction
abbrev pub add_tx : List Op → List Session → List Session
add_tx ops [] = []
add_tx ops (s ∷ []) = (record s { txs = s.txs ++ ops ∷ [] }) ∷ []
add_tx ops (s ∷ t ∷ ss) = s ∷ add_tx ops (t ∷ ss)

-- with one more transaction
abbrev pub with_tx : List Op → Scene → Scene
with_tx ops d = record d { sessions = add_tx ops d.sessions }

-- with one more entry
abbrev pub with_entry : Event → Scene → Scene
with_entry e d = record d { schedule = d.schedule ++ e ∷ [] }

-- with the drain
abbrev pub with_drain : Scene → Scene
with_drain d = record d { drain = true }

-- with a key, at the end of the table where it is not there
abbrev pub with_key : List ℕ × PartId → Scene → Scene
with_key key d = record d { keys = record d.keys { names = with_pair key d.keys.names } }

-- with a byte string, at the end of the list where it is not there
abbrev pub with_text : List ℕ → Scene → Scene
with_text text d = record d { keys = record d.keys { texts = with_string text d.keys.texts } }
