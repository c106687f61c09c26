-- What a source over a reader and a sink over a writer tell.
use Rattle.std.specs.Prelude.{ℕ, List, Option}
use Rattle.str_outer.specs.declared.standard.StdSource.{StdSource}
use Rattle.str_outer.specs.declared.standard.StdSink.{StdSink}

-- the bytes still to come, where the reader tells them
abbrev pub source_left : {R : Type 0} → (R → Option (List ℕ)) → StdSource R → Option (List ℕ)
source_left remaining s = remaining s.reader

-- how many reads failed
abbrev pub source_faults : {R : Type 0} → StdSource R → ℕ
source_faults s = s.faults

-- the bytes taken so far, where the writer tells them
abbrev pub sink_held : {W : Type 0} → (W → Option (List ℕ)) → StdSink W → Option (List ℕ)
sink_held contents s = contents s.writer

-- how many writes failed
abbrev pub sink_faults : {W : Type 0} → StdSink W → ℕ
sink_faults s = s.faults
