-- How the lines of a text build a scene, one by one.
use Rattle.std.specs.List.{count_by, list_all, list_any, sum_by}
use Rattle.str_base.specs.declared.limits.TheConstants.{NODES, NODE_SESSIONS, OPERATIONS, PARTITIONS, REPLICAS, SCHEDULE_ENTRIES, SESSIONS, TEXT_BYTES, TRANSACTIONS}
use Rattle.std.specs.Prelude.{Bool, List, None, Option, Some, [], false, length, nat_le, nat_lt, negsuc, not, pos, true, ℕ, ℤ, ◌&&◌, ◌++◌, ◌+◌, ◌==◌, ◌^◌, ◌∷◌}
use Rattle.scene_text.specs.declared.lines.Line.{Line}
use Rattle.scene_text.specs.declared.lines.Line.TheVariants.{Abort as LAbort, Add as LAdd, Client as LClient, Del as LDel, Deliver as LDeliver, Drain as LDrain, End as LEnd, Get as LGet, Need as LNeed, Nodes as LNodes, Part as LPart, Put as LPut, Puts as LPuts, Schedule as LSchedule, Session as LSession, Tx as LTx, Version as LVersion}
use Rattle.scene_text.specs.LineOrder.{Place, follows}
use Rattle.str_base.specs.declared.names.KeyId.{KeyId}
use Rattle.str_base.specs.declared.names.NodeId.{NodeId}
use Rattle.str_base.specs.declared.names.PartId.{PartId}
use Rattle.str_base.specs.declared.names.TextId.{TextId}
use Rattle.str_base.specs.Versions.{same_node}
use Rattle.str_scene.specs.declared.faults.Why.{Why}
use Rattle.str_scene.specs.declared.faults.Why.TheVariants.{Count, Form, Range}
use Rattle.str_scene.specs.declared.names.Event.TheVariants.{Client, Deliver}
use Rattle.str_scene.specs.declared.names.Op.{Op}
use Rattle.str_scene.specs.declared.names.Op.TheVariants.{Abort, Add, Del, Get, Need, Put, Puts}
use Rattle.str_scene.specs.Drafts.{with_drain, empty_draft, with_entry, with_key, with_nodes, with_row, with_session, with_text, with_tx}
use Rattle.str_scene.specs.Keys.{place_of, string_place}
use Rattle.str_scene.specs.Scenes.{Scene, Session}

-- how many of each there may be: partitions, sessions in all and at one node, transactions in all, operations in one, entries
pub record Limits : Type 0 where
  pub parts : ℕ
  pub sessions : ℕ
  pub at_node : ℕ
  pub txs : ℕ
  pub ops : ℕ
  pub entries : ℕ

-- how many of each a scene may have
abbrev pub scene_limits : Limits
scene_limits = record { parts = PARTITIONS; sessions = SESSIONS; at_node = NODE_SESSIONS; txs = TRANSACTIONS; ops = OPERATIONS; entries = SCHEDULE_ENTRIES }

-- what the lines so far have given: where they end, the scene without the open transaction, and the operations of that one
pub record State : Type 0 where
  pub place : Place
  pub draft : Scene
  pub ops : List Op

-- before the first line; the version is 0 until it is given
abbrev pub at_start : State
at_start = record { place = Place.AtStart; draft = empty_draft 0; ops = [] }

-- what a line comes to: the state after it, or why it is refused
pub data Taken : Type 0 where
  Now : State → Taken
  Refused : Why → Taken

-- the operations become the last transaction, where there are some
abbrev pub settle : List Op → Scene → Scene
settle [] d = d
settle (op ∷ ops) d = with_tx (op ∷ ops) d

-- the scene so far
abbrev pub settled : State → Scene
settled s = settle s.ops s.draft

-- a number from 1 to the last
abbrev pub is_up_to : ℕ → ℕ → Bool
is_up_to last n = nat_le 1 n && nat_le n last

-- no node stands twice
abbrev pub are_distinct : List NodeId → Bool
are_distinct [] = true
are_distinct (n ∷ ns) = not (list_any (same_node n) ns) && are_distinct ns

-- nodes of the scene, none twice, of which there can't be more than 8
abbrev pub is_row : ℕ → List NodeId → Bool
is_row nodes row = nat_le (length row) REPLICAS && (list_all (λ n. is_up_to nodes n.0) row && are_distinct row)

-- a number of 64 bits with a sign
abbrev pub is_number : ℤ → Bool
is_number (pos n) = nat_lt n (2 ^ 63)
is_number (negsuc n) = nat_lt n (2 ^ 63)

-- the numbers of the line are in range
abbrev pub in_range : Scene → Line → Bool
in_range d (LNodes n) = is_up_to NODES n
in_range d (LPart p row) = (p.0 == length d.parts + 1) && is_row d.nodes row
in_range d (LSession n) = is_up_to d.nodes n.0
in_range d (LGet name p) = is_up_to (length d.parts) p.0
in_range d (LPut name p n) = is_up_to (length d.parts) p.0 && is_number n
in_range d (LPuts name p bytes) = is_up_to (length d.parts) p.0 && nat_le (length bytes) TEXT_BYTES
in_range d (LAdd name p n) = is_up_to (length d.parts) p.0 && is_number n
in_range d (LDel name p) = is_up_to (length d.parts) p.0
in_range d (LNeed name p n) = is_up_to (length d.parts) p.0 && is_number n
in_range d (LClient s t) = is_up_to (length d.sessions) s.0 && nat_lt t (2 ^ 64)
in_range d (LDeliver i) = nat_le 1 i && nat_lt i (2 ^ 64)
in_range d _ = true

-- there may be one more session at the node
abbrev pub has_room_at : Limits → NodeId → List Session → Bool
has_room_at limits n ss = nat_lt (length ss) limits.sessions && nat_lt (count_by (λ s. same_node s.node n) ss) limits.at_node

-- there may be one more of what the line gives
abbrev pub has_room : Limits → State → Line → Bool
has_room limits s (LPart p row) = nat_lt (length s.draft.parts) limits.parts
has_room limits s (LSession n) = has_room_at limits n s.draft.sessions
has_room limits s LTx = nat_lt (sum_by (λ x. length x.txs) (settled s).sessions) limits.txs
has_room limits s (LGet name p) = nat_lt (length s.ops) limits.ops
has_room limits s (LPut name p n) = nat_lt (length s.ops) limits.ops
has_room limits s (LPuts name p bytes) = nat_lt (length s.ops) limits.ops
has_room limits s (LAdd name p n) = nat_lt (length s.ops) limits.ops
has_room limits s (LDel name p) = nat_lt (length s.ops) limits.ops
has_room limits s (LNeed name p n) = nat_lt (length s.ops) limits.ops
has_room limits s LAbort = nat_lt (length s.ops) limits.ops
has_room limits s (LClient c t) = nat_lt (length s.draft.schedule) limits.entries
has_room limits s (LDeliver i) = nat_lt (length s.draft.schedule) limits.entries
has_room limits s _ = true

-- at the next place, with another draft
abbrev pub drafted : Place → Scene → State → State
drafted place d s = record { place = place; draft = d; ops = s.ops }

-- at the next place, with the open transaction in the draft
abbrev pub closed : Place → Scene → State
closed place d = record { place = place; draft = d; ops = [] }

-- the number that a key has, or gets
abbrev pub key_number : List ℕ × PartId → Scene → KeyId
key_number key d = record { 0 = place_of key d.keys.names }

-- the number that a byte string has, or gets
abbrev pub text_number : List ℕ → Scene → TextId
text_number text d = record { 0 = string_place text d.keys.texts }

-- with one more operation, on a key
abbrev pub with_op : Place → (KeyId → Op) → List ℕ × PartId → State → State
with_op place op key s = record { place = place; draft = with_key key s.draft; ops = s.ops ++ op (key_number key s.draft) ∷ [] }

-- with one more operation, which writes a byte string
abbrev pub with_puts : Place → List ℕ × PartId → List ℕ → State → State
with_puts place key text s =
    record {
      place = place;
      draft = with_text text (with_key key s.draft);
      ops = s.ops ++ Puts (key_number key s.draft) (text_number text s.draft) ∷ [];
    }

-- with the line, at the next place
abbrev pub after : Place → State → Line → State
after place s (LVersion v) = drafted place (empty_draft v) s
after place s (LNodes n) = drafted place (with_nodes n s.draft) s
after place s (LPart p row) = drafted place (with_row row s.draft) s
after place s (LSession n) = closed place (with_session n (settled s))
after place s LTx = closed place (settled s)
after place s (LGet name p) = with_op place Get (name, p) s
after place s (LPut name p n) = with_op place (λ k. Put k n) (name, p) s
after place s (LPuts name p bytes) = with_puts place (name, p) bytes s
after place s (LAdd name p n) = with_op place (λ k. Add k n) (name, p) s
after place s (LDel name p) = with_op place Del (name, p) s
after place s (LNeed name p n) = with_op place (λ k. Need k n) (name, p) s
after place s LAbort = record { place = place; draft = s.draft; ops = s.ops ++ Abort ∷ [] }
after place s LSchedule = closed place (settled s)
after place s (LClient c t) = drafted place (with_entry (Client c t) s.draft) s
after place s (LDeliver i) = drafted place (with_entry (Deliver i) s.draft) s
after place s LDrain = drafted place (with_drain s.draft) s
after place s LEnd = drafted place s.draft s

-- a line that may stand here, with numbers in range or not, and with room for it or not
abbrev pub judged : State → Bool → Bool → Taken
judged next false has_room = Refused Range
judged next true false = Refused Count
judged next true true = Now next

-- a line that may stand here leads to the next place
abbrev pub placed : Limits → State → Line → Option Place → Taken
placed limits s l None = Refused Form
placed limits s l (Some place) = judged (after place s l) (in_range s.draft l) (has_room limits s l)

-- the state with one line more, or why the line is refused: it may not stand here, a number of it is out of range, or it is one
-- more than there may be
abbrev pub take_line : Limits → State → Line → Taken
take_line limits s l = placed limits s l (follows s.draft.version s.place l)

-- after what the lines before came to
abbrev pub goes_on : (State → Taken) → Taken → Taken
goes_on f (Now s) = f s
goes_on f (Refused why) = Refused why

-- the state with these lines more, or why the first that is refused is
abbrev pub take_lines : Limits → State → List Line → Taken
take_lines limits s [] = Now s
take_lines limits s (l ∷ ls) = goes_on (λ t. take_lines limits t ls) (take_line limits s l)
