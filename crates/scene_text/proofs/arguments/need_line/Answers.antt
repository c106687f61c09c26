use Rattle.scene_text.proofs.Spelling.Arguments.{need_too_great}
use Rattle.scene_text.proofs.arguments.need_line.Goals as goal

pub returns-in-None-clause-line : goal.returns-in-None-clause-line
returns-in-None-clause-line c = need_too_great c.args.text.now c.in_ok-name.name c.in_ok-name.numbers c.in_ok-name.ensures.key c.in-None.is
