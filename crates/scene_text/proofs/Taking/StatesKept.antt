-- What a state keeps, and the lines that it stands for.
use Rattle.std.proofs.Common.{List, Some, [], false, length, map, slice_get, true, ℕ, ◌++◌, ◌<◌, ◌^◌, ◌∷◌, ◌≡◌, ◌≤◌, ◌⊎◌}
use Rattle.std.specs.List.{count_by, sum_by}
use Rattle.std.specs.Prelude.{flat_map}
use Rattle.scene_text.proofs.Taking.TableGrows.{Distinct}
use Rattle.scene_text.specs.LineOrder.{Place}
use Rattle.scene_text.specs.LineOrder.Place.{AfterDrain, AfterEnd, AfterNodes, AfterOp, AfterPart, AfterSession, AfterTx, AfterVersion, AtStart, InSchedule}
use Rattle.scene_text.specs.SceneLines.{body_lines, drain_line, entry_line, script_lines}
use Rattle.scene_text.specs.Taking.{Limits, State}
use Rattle.scene_text.specs.declared.lines.Line.{Line}
use Rattle.scene_text.specs.declared.lines.Line.TheVariants.{Drain as LDrain, End as LEnd, Schedule as LSchedule, Version as LVersion}
use Rattle.str_base.specs.Versions.{same_node}
use Rattle.str_base.specs.declared.names.NodeId.{NodeId}
use Rattle.str_base.specs.declared.names.PartId.{PartId}
use Rattle.str_scene.specs.Lists.{Each}
use Rattle.str_scene.specs.Drafts.{empty_draft, with_nodes}
use Rattle.str_scene.specs.SceneLimits.{Exists, IsByteText, IsKey, IsOp, IsRow, all_ops, counted, key_of, text_of}
use Rattle.str_scene.specs.Scenes.{KeyTable, Scene, Session}
use Rattle.str_scene.specs.declared.names.Event.{Event}
use Rattle.str_scene.specs.declared.names.Event.TheVariants.{Client, Deliver}
use Rattle.str_scene.specs.declared.names.Op.{Op}

-- some operations of the table, not too many
abbrev pub GoodScript : Limits → ℕ → KeyTable → List Op → Type 0
GoodScript limits version table ops = (1 ≤ length ops) × (length ops ≤ limits.ops) × Each (IsOp version table) ops

-- a session at a node of the scene, with such scripts
abbrev pub GoodSession : Limits → ℕ → ℕ → KeyTable → Session → Type 0
GoodSession limits version nodes table s = Exists s.node.0 nodes × Each (GoodScript limits version table) s.txs

-- an entry that names one of so many sessions, or a message
abbrev pub GoodEvent : ℕ → Event → Type 0
GoodEvent n (Client s t) = Exists s.0 n × (t < 2 ^ 64)
GoodEvent n (Deliver i) = (1 ≤ i) × (i < 2 ^ 64)

-- the table of so many partitions is the one that the operations give
pub record TableKept (parts : ℕ) (table : KeyTable) (ops : List Op) : Type 0 where
  pub names : Each (IsKey parts) table.names
  pub distinct_names : Distinct table.names
  pub texts : Each IsByteText table.texts
  pub distinct_texts : Distinct table.texts
  pub key_order : counted 0 (flat_map key_of ops) ≡ Some (length table.names)
  pub text_order : counted 0 (flat_map text_of ops) ≡ Some (length table.texts)

-- the transactions of sessions
abbrev pub tx_count : List Session → ℕ
tx_count ss = sum_by (λ s. length s.txs) ss

-- the sessions at a node
abbrev pub count_at : NodeId → List Session → ℕ
count_at n ss = count_by (λ s. same_node s.node n) ss

-- the limits on a scene's lists
pub record CountsKept (limits : Limits) (d : Scene) : Type 0 where
  pub few_parts : length d.parts ≤ limits.parts
  pub few_sessions : length d.sessions ≤ limits.sessions
  pub at_one_node : (n : NodeId) → count_at n d.sessions ≤ limits.at_node
  pub few_txs : tx_count d.sessions ≤ limits.txs
  pub few_events : length d.schedule ≤ limits.entries

-- what a draft and an open transaction keep
pub record Kept (limits : Limits) (d : Scene) (ops : List Op) : Type 0 where
  pub table : TableKept (length d.parts) d.keys (all_ops d ++ ops)
  pub rows : Each (IsRow d.nodes) d.parts
  pub sessions : Each (GoodSession limits d.version d.nodes d.keys) d.sessions
  pub open_ops : Each (IsOp d.version d.keys) ops
  pub few_ops : length ops ≤ limits.ops
  pub events : Each (GoodEvent (length d.sessions)) d.schedule
  pub counts : CountsKept limits d

-- a version of the format
abbrev pub IsVersion : ℕ → Type 0
IsVersion v = (v ≡ 1) ⊎ (v ≡ 2)

-- the version, the nodes and a partition are given
pub record Headed (d : Scene) : Type 0 where
  pub version : IsVersion d.version
  pub nodes : Exists d.nodes 8
  pub parts : 1 ≤ length d.parts

-- besides, no entry is given
pub record Bodied (d : Scene) : Type 0 where
  pub head : Headed d
  pub no_entry : d.schedule ≡ []
  pub no_drain : d.drain ≡ false

-- besides, a session is given
pub record InBody (d : Scene) : Type 0 where
  pub body : Bodied d
  pub some : 1 ≤ length d.sessions

-- what is given at a place
abbrev pub At : Limits → Place → Scene → List Op → Type 0
At limits AtStart d ops = (d ≡ empty_draft 0) × (ops ≡ [])
At limits AfterVersion d ops = IsVersion d.version × (d ≡ empty_draft d.version) × (ops ≡ [])
At limits AfterNodes d ops = IsVersion d.version × Exists d.nodes 8 × (d ≡ with_nodes d.nodes (empty_draft d.version)) × (ops ≡ [])
At limits AfterPart d ops = Bodied d × (d.sessions ≡ []) × (ops ≡ [])
At limits AfterSession d ops = InBody d × (ops ≡ [])
At limits AfterTx d ops = InBody d × (tx_count d.sessions < limits.txs) × (ops ≡ [])
At limits AfterOp d ops = InBody d × (tx_count d.sessions < limits.txs) × (1 ≤ length ops)
At limits InSchedule d ops = Headed d × (d.drain ≡ false) × (ops ≡ [])
At limits AfterDrain d ops = Headed d × (d.drain ≡ true) × (ops ≡ [])
At limits AfterEnd d ops = Headed d × (ops ≡ [])

-- the lines up to the entries' end
abbrev pub entry_lines : KeyTable → Scene → List Line
entry_lines table d = body_lines table d ++ LSchedule ∷ map entry_line d.schedule

-- the lines that a state stands for, with the names of a table
abbrev pub lines_at : KeyTable → Place → Scene → List Op → List Line
lines_at table AtStart d ops = []
lines_at table AfterVersion d ops = LVersion d.version ∷ []
lines_at table AfterTx d ops = body_lines table d ++ script_lines table ops
lines_at table AfterOp d ops = body_lines table d ++ script_lines table ops
lines_at table InSchedule d ops = entry_lines table d
lines_at table AfterDrain d ops = entry_lines table d ++ LDrain ∷ []
lines_at table AfterEnd d ops = entry_lines table d ++ (drain_line d.drain ++ LEnd ∷ [])
lines_at table _ d ops = body_lines table d

-- the larger table has the names and byte strings of the smaller where they stand
pub record Extends (large small : KeyTable) : Type 0 where
  pub names : (i : ℕ) (key : List ℕ × PartId) → slice_get small.names i ≡ Some key → slice_get large.names i ≡ Some key
  pub texts : (i : ℕ) (text : List ℕ) → slice_get small.texts i ≡ Some text → slice_get large.texts i ≡ Some text

-- all that a state keeps
pub record Stands (limits : Limits) (s : State) : Type 0 where
  pub kept : Kept limits s.draft s.ops
  pub at_place : At limits s.place s.draft s.ops

-- the line leads from the one state to the other
pub record Step (limits : Limits) (s : State) (l : Line) (t : State) : Type 0 where
  pub stands : Stands limits t
  pub larger : Extends t.draft.keys s.draft.keys
  pub text : (table : KeyTable) → Extends table t.draft.keys → lines_at table t.place t.draft t.ops ≡ lines_at table s.place s.draft s.ops ++ l ∷ []
