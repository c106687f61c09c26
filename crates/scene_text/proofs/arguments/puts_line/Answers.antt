use Rattle.std.proofs.Common.{refl, sym, ◌∙◌}
use Rattle.scene_text.proofs.Spelling.Arguments.{puts_no_bytes, puts_no_key, puts_too_great}
use Rattle.scene_text.proofs.arguments.puts_line.Goals as goal

pub returns-in_err-name-clause-none : goal.returns-in_err-name-clause-none
returns-in_err-name-clause-none c = λ none. puts_no_key c.args.text.now c.in_ok-key.key.now c.in_ok-key.bytes.now c.in_ok-key.ensures.parts c.in_ok-key.ensures.first (c.in_err-name.ensures.none refl)

pub returns-in_err-bytes-clause-none : goal.returns-in_err-bytes-clause-none
returns-in_err-bytes-clause-none c = λ none. puts_no_bytes c.args.text.now c.in_ok-key.key.now c.in_ok-key.bytes.now c.in_ok-key.ensures.parts c.in_ok-key.ensures.first (c.in_err-bytes.ensures.none refl)

pub returns-in-None-clause-line : goal.returns-in-None-clause-line
returns-in-None-clause-line c = puts_too_great c.args.text.now c.in_ok-key.key.now c.in_ok-key.bytes.now c.in_ok-name.name c.in_ok-name.part c.in_ok-bytes.bytes c.in_ok-key.ensures.parts c.in_ok-name.ensures.key c.in_ok-bytes.ensures.bytes (sym c.zip.ensures ∙ c.in-None.is)
