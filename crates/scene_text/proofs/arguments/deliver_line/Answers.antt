use Rattle.scene_text.proofs.Spelling.Arguments.{deliver_too_great}
use Rattle.scene_text.proofs.arguments.deliver_line.Goals as goal

pub returns-in-None-clause-line : goal.returns-in-None-clause-line
returns-in-None-clause-line c = deliver_too_great c.args.text.now c.in_ok-index.field-0 c.in_ok-index.ensures.number c.in-None.is
