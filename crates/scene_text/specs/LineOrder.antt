-- The order of the lines of a scene's text, by their words alone.
use Rattle.std.specs.Prelude.{List, None, Option, Some, [], if◌then◌else◌, ℕ, ◌==◌, ◌∷◌}
use Rattle.scene_text.specs.declared.lines.Line.{Line}
pub use Rattle.scene_text.specs.declared.order.Place.{Place}
pub use Rattle.scene_text.specs.declared.order.Place.TheVariants.{AfterDrain, AfterEnd, AfterNodes, AfterOp, AfterPart, AfterSession, AfterTx, AfterVersion, AtStart, InSchedule}
use Rattle.scene_text.specs.declared.lines.Line.TheVariants.{Abort, Add, Client, Del, Deliver, Drain, End, Get, Need, Nodes, Part, Put, Puts, Schedule, Session, Tx, Version}

-- an operation may follow a transaction's first line or another operation
abbrev pub op_follows : Place → Option Place
op_follows AfterTx = Some AfterOp
op_follows AfterOp = Some AfterOp
op_follows _ = None

-- a transaction may follow a session's line or a transaction with an operation
abbrev pub tx_follows : Place → Option Place
tx_follows AfterSession = Some AfterTx
tx_follows AfterOp = Some AfterTx
tx_follows _ = None

-- a session or the schedule may follow a partition's line, a session's line or a transaction with an operation
abbrev pub section_follows : Place → Place → Option Place
section_follows next AfterPart = Some next
section_follows next AfterSession = Some next
section_follows next AfterOp = Some next
section_follows next _ = None

-- byte strings are written in version 2 alone
abbrev pub puts_follows : ℕ → Place → Option Place
puts_follows version place = if version == 2 then op_follows place else None

-- a partition's line may follow the line of the nodes or another partition's
abbrev pub part_follows : Place → Option Place
part_follows AfterNodes = Some AfterPart
part_follows AfterPart = Some AfterPart
part_follows _ = None

-- an entry, the drain or the end may follow in the schedule
abbrev pub entry_follows : Place → Place → Option Place
entry_follows next InSchedule = Some next
entry_follows next _ = None

-- the end may follow in the schedule or after the drain
abbrev pub end_follows : Place → Option Place
end_follows InSchedule = Some AfterEnd
end_follows AfterDrain = Some AfterEnd
end_follows _ = None

-- the version comes first
abbrev pub version_follows : Place → Option Place
version_follows AtStart = Some AfterVersion
version_follows _ = None

-- the nodes come after the version
abbrev pub nodes_follow : Place → Option Place
nodes_follow AfterVersion = Some AfterNodes
nodes_follow _ = None

-- where the lines are after one more line of a text of this version; none where that line may not stand there
abbrev pub follows : ℕ → Place → Line → Option Place
follows version place (Version v) = version_follows place
follows version place (Nodes n) = nodes_follow place
follows version place (Part p row) = part_follows place
follows version place (Session n) = section_follows AfterSession place
follows version place Tx = tx_follows place
follows version place (Get name p) = op_follows place
follows version place (Put name p n) = op_follows place
follows version place (Puts name p bytes) = puts_follows version place
follows version place (Add name p n) = op_follows place
follows version place (Del name p) = op_follows place
follows version place (Need name p n) = op_follows place
follows version place Abort = op_follows place
follows version place Schedule = section_follows InSchedule place
follows version place (Client s t) = entry_follows InSchedule place
follows version place (Deliver i) = entry_follows InSchedule place
follows version place Drain = entry_follows AfterDrain place
follows version place End = end_follows place

-- the version that the first line names, 0 where there is none
abbrev pub version_of : List Line → ℕ
version_of [] = 0
version_of (Version v ∷ ls) = v
version_of (_ ∷ ls) = 0

-- where lines lead from a place
abbrev pub lead : ℕ → Option Place → List Line → Option Place
lead version None ls = None
lead version (Some place) [] = Some place
lead version (Some place) (l ∷ ls) = lead version (follows version place l) ls

-- where lines lead from the start, whatever their numbers are
abbrev pub place_after : List Line → Option Place
place_after ls = lead (version_of ls) (Some AtStart) ls
