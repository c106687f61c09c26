-- What a source and a sink in memory tell, and their plans.
use Rattle.std.specs.Prelude.{ℕ, ◌-◌, List, drop, length, Option, Some}
use Rattle.str_outer.specs.declared.memory.MemSource.{MemSource}
use Rattle.str_outer.specs.declared.memory.MemSink.{MemSink}
use Rattle.str_outer.specs.Plan.{Plan, planned}

-- the bytes still to come
abbrev pub source_left : MemSource → Option (List ℕ)
source_left s = Some (drop s.at s.bytes.items)

-- how many bytes are still to come
abbrev pub source_ahead : MemSource → ℕ
source_ahead s = length s.bytes.items - s.at

-- how many reads failed
abbrev pub source_faults : MemSource → ℕ
source_faults s = s.faults

-- which reads fail, and how many bytes a read gives
abbrev pub source_plan : MemSource → Plan
source_plan s = planned s.failing.items s.most

-- how many reads there were
abbrev pub source_calls : MemSource → ℕ
source_calls s = s.calls

-- the bytes taken so far
abbrev pub sink_held : MemSink → Option (List ℕ)
sink_held s = Some s.bytes.items

-- how many writes failed
abbrev pub sink_faults : MemSink → ℕ
sink_faults s = s.faults

-- for how many writes memory was wanting
abbrev pub sink_wants : MemSink → ℕ
sink_wants s = s.wants

-- which writes fail, and how many bytes a write takes
abbrev pub sink_plan : MemSink → Plan
sink_plan s = planned s.failing.items s.most

-- how many writes there were
abbrev pub sink_calls : MemSink → ℕ
sink_calls s = s.calls
