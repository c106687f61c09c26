use Rattle.scene_text.proofs.Spelling.Arguments.{session_too_great}
use Rattle.scene_text.proofs.arguments.session_line.Goals as goal

pub returns-in-None-clause-line : goal.returns-in-None-clause-line
returns-in-None-clause-line c = session_too_great c.args.text.now c.in_ok-node.field-0 c.in_ok-node.ensures.number c.in-None.is
