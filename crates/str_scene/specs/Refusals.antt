-- Why an item of a draft is refused, other than for want of memory: each cause, and their order.
use Rattle.std.specs.List.{count_by, list_all, list_any, sum_by}
use Rattle.str_base.specs.declared.limits.TheConstants.{KEYS, NODES, NODE_SESSIONS, PARTITIONS, SCHEDULE_ENTRIES, SESSIONS, TEXT_BYTES, TRANSACTIONS}
use Rattle.std.specs.Prelude.{Bool, List, None, Option, Some, [], false, flat_map, length, nat_le, nat_lt, not, true, ℕ, ◌&&◌, ◌==◌, ◌||◌, ◌∷◌, ◌≡◌, ◌⊎◌}
use Rattle.str_base.specs.Versions.{same_node}
use Rattle.str_base.specs.declared.names.NodeId.{NodeId}
use Rattle.str_base.specs.declared.names.PartId.{PartId}
use Rattle.str_scene.specs.Drafts.{is_none_yet, may_have_entry, may_have_nodes, may_have_part, may_have_session, may_have_tx}
use Rattle.str_scene.specs.Keys.{with_pair, with_string}
use Rattle.str_scene.specs.SceneLimits.{all_ops, counted, is_name, key_of, text_of}
use Rattle.str_scene.specs.Scenes.{KeyTable, Scene, Session}
use Rattle.str_scene.specs.declared.faults.SceneFault.{SceneFault}
use Rattle.str_scene.specs.declared.faults.SceneFault.TheVariants.{Count, Form, Memory, Range}
use Rattle.str_scene.specs.declared.names.Event.{Event}
use Rattle.str_scene.specs.declared.names.Event.TheVariants.{Client, Deliver}
use Rattle.str_scene.specs.declared.names.Op.{Op}
use Rattle.str_scene.specs.declared.names.Op.TheVariants.{Abort, Add, Del, Get, Need, Put, Puts}

-- the first that fails: the item may stand here and is of the form, all that it names is in range, and there is room for it
abbrev pub first_fault : Bool → Bool → Bool → Option SceneFault
first_fault false in_range has_room = Some Form
first_fault true false has_room = Some Range
first_fault true true false = Some Count
first_fault true true true = None

-- an item is refused by the rules, or for want of memory where the rules have nothing against it
abbrev pub IsRefused : Option SceneFault → SceneFault → Type 0
IsRefused rule fault = (rule ≡ Some fault) ⊎ ((rule ≡ None) × (fault ≡ Memory))

-- a number from 1 to the last
abbrev pub is_up_to : ℕ → ℕ → Bool
is_up_to last n = nat_le 1 n && nat_le n last

-- no node stands twice
abbrev pub are_distinct : List NodeId → Bool
are_distinct [] = true
are_distinct (n ∷ ns) = not (list_any (same_node n) ns) && are_distinct ns

-- nodes of the scene, none twice
abbrev pub is_row : ℕ → List NodeId → Bool
is_row nodes row = list_all (λ n. is_up_to nodes n.0) row && are_distinct row

-- the transactions of the sessions
abbrev pub transaction_count : List Session → ℕ
transaction_count sessions = sum_by (λ s. length s.txs) sessions

-- the sessions at a node
abbrev pub sessions_at : NodeId → List Session → ℕ
sessions_at n sessions = count_by (λ s. same_node s.node n) sessions

-- the operation writes a byte string
abbrev pub is_puts : Op → Bool
is_puts (Puts k t) = true
is_puts _ = false

-- the keys and byte strings that the operation names are in the table
abbrev pub is_known : KeyTable → Op → Bool
is_known table (Get k) = nat_lt k.0 (length table.names)
is_known table (Put k n) = nat_lt k.0 (length table.names)
is_known table (Puts k t) = nat_lt k.0 (length table.names) && nat_lt t.0 (length table.texts)
is_known table (Add k n) = nat_lt k.0 (length table.names)
is_known table (Del k) = nat_lt k.0 (length table.names)
is_known table (Need k n) = nat_lt k.0 (length table.names)
is_known table Abort = true

-- what the entry names is in range: a session of so many, or a message number
abbrev pub is_entry : ℕ → Event → Bool
is_entry sessions (Client s t) = is_up_to sessions s.0
is_entry sessions (Deliver i) = nat_le 1 i

-- of a number of nodes
abbrev pub nodes_fault : ℕ → Scene → Option SceneFault
nodes_fault n d = first_fault (may_have_nodes d) (is_up_to NODES n) true

-- of a partition
abbrev pub part_fault : List NodeId → Scene → Option SceneFault
part_fault row d = first_fault (may_have_part d && not (is_none_yet row)) (is_row d.nodes row) (nat_lt (length d.parts) PARTITIONS)

-- of a session
abbrev pub session_fault : NodeId → Scene → Option SceneFault
session_fault node d = first_fault (may_have_session d) (is_up_to d.nodes node.0) (nat_lt (length d.sessions) SESSIONS && nat_lt (sessions_at node d.sessions) NODE_SESSIONS)

-- the operations are some, and byte strings are written in version 2 alone
abbrev pub is_script : ℕ → List Op → Bool
is_script version ops = not (is_none_yet ops) && (version == 2 || not (list_any is_puts ops))

-- of a transaction
abbrev pub tx_fault : List Op → Scene → Option SceneFault
tx_fault ops d = first_fault (may_have_tx d && is_script d.version ops) (list_all (is_known d.keys) ops) (nat_lt (transaction_count d.sessions) TRANSACTIONS)

-- of an entry
abbrev pub entry_fault : Event → Scene → Option SceneFault
entry_fault e d = first_fault (may_have_entry d) (is_entry (length d.sessions) e) (nat_lt (length d.schedule) SCHEDULE_ENTRIES)

-- of the drain
abbrev pub drain_fault : Scene → Option SceneFault
drain_fault d = first_fault (may_have_entry d) true true

-- of a key: a table with it has at most 16,384
abbrev pub key_fault : List ℕ × PartId → Scene → Option SceneFault
key_fault key d = first_fault (may_have_tx d) (is_name key.0 && is_up_to (length d.parts) key.1.0) (nat_le (length (with_pair key d.keys.names)) KEYS)

-- of a byte string: a list with it has at most 16,384
abbrev pub text_fault : List ℕ → Scene → Option SceneFault
text_fault text d = first_fault (may_have_tx d) (nat_le (length text) TEXT_BYTES) (nat_le (length (with_string text d.keys.texts)) KEYS)

-- the numbers first appear in the order 0, 1, 2 and so on, and are so many
abbrev pub counts_to : Option ℕ → ℕ → Bool
counts_to None n = false
counts_to (Some m) n = m == n

-- the operations first name the keys of the table in their order, and all of them
abbrev pub keys_in_order : Scene → Bool
keys_in_order d = counts_to (counted 0 (flat_map key_of (all_ops d))) (length d.keys.names)

-- the same of the byte strings
abbrev pub texts_in_order : Scene → Bool
texts_in_order d = counts_to (counted 0 (flat_map text_of (all_ops d))) (length d.keys.texts)

-- of the end
abbrev pub finish_fault : Scene → Option SceneFault
finish_fault d = first_fault ((not (d.nodes == 0) && not (is_none_yet d.parts)) && (keys_in_order d && texts_in_order d)) true true
