-- What a source and a sink that never fail tell.
use Rattle.std.specs.Prelude.{ℕ, ◌-◌, List, drop, length, Option, Some}
use Rattle.str_outer.specs.declared.sure.SureSource.{SureSource}
use Rattle.str_outer.specs.declared.sure.SureSink.{SureSink}

-- the bytes still to come
abbrev pub source_left : SureSource → Option (List ℕ)
source_left s = Some (drop s.at s.bytes.items)

-- how many bytes are still to come
abbrev pub source_ahead : SureSource → ℕ
source_ahead s = length s.bytes.items - s.at

-- the bytes taken so far
abbrev pub sink_held : SureSink → Option (List ℕ)
sink_held s = Some s.bytes.items

-- for how many writes memory was wanting
abbrev pub sink_wants : SureSink → ℕ
sink_wants s = s.wants
