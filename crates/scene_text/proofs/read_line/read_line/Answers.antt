use Rattle.std.proofs.Common.{refl}
use Rattle.scene_text.proofs.Spelling.FirstWords.{line_no_word}
use Rattle.scene_text.proofs.read_line.read_line.Goals as goal

pub returns-in_err-word-clause-none : goal.returns-in_err-word-clause-none
returns-in_err-word-clause-none c = λ none.
    line_no_word c.args.line.now c.in-Some.word.now c.in-Some.rest.now c.in-Some.ensures.parts c.in-Some.ensures.first (c.in_err-word.ensures.none refl)
