-- The lines of a run, over what they are made of.
use Rattle.std.specs.Prelude.{List, flat_map, ℕ, ◌++◌}
use Rattle.str_model.specs.Lines.{Counts, answer_line, end_line, journal_line}
use Rattle.str_model.specs.declared.messages.Answer.{Answer}
use Rattle.str_model.specs.declared.names.Done.{Done}
use Rattle.str_scene.specs.Scenes.{KeyTable}

-- the lines of these answers
abbrev pub answer_lines : KeyTable → List Answer → List ℕ
answer_lines keys answers = flat_map (answer_line keys) answers

-- the line of a journal entry, and the lines of the answers that it released
abbrev pub entry_lines : KeyTable → Done → List Answer → List ℕ
entry_lines keys done answers = journal_line done ++ answer_lines keys answers

-- the lines of these answers, and the last line
abbrev pub rendering : KeyTable → List Answer → Counts → List ℕ
rendering keys answers c = answer_lines keys answers ++ end_line c
