-- The numbers of the last line as the program holds them.
use Rattle.cluster_run.specs.declared.lines.Counts.{Counts}
use Rattle.str_model.specs.Lines.{Counts as Numbers}

-- the numbers that the last line writes
abbrev pub counted : Counts → Numbers
counted c = record { commits = c.commits; aborts = c.aborts; held = c.held; unbegun = c.unbegun; messages = c.messages }
