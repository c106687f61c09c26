use Rattle.scene_text.proofs.Spelling.Arguments.{del_too_great}
use Rattle.scene_text.proofs.arguments.del_line.Goals as goal

pub returns-in-None-clause-line : goal.returns-in-None-clause-line
returns-in-None-clause-line c = del_too_great c.args.text.now c.in_ok-name.name c.in_ok-name.part c.in_ok-name.ensures.key c.in-None.is
