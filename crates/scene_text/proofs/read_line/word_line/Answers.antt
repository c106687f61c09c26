use Rattle.std.proofs.Common.{refl}
use Rattle.scene_text.proofs.Spelling.FirstWords.{word_no_word}
use Rattle.scene_text.proofs.read_line.word_line.Goals as goal

pub returns-in_err-word-clause-none : goal.returns-in_err-word-clause-none
returns-in_err-word-clause-none c = λ none. word_no_word c.args.line.now (c.in_err-word.ensures.none refl)
