use Rattle.scene_text.proofs.Spelling.Arguments.{nodes_too_great}
use Rattle.scene_text.proofs.arguments.nodes_line.Goals as goal

pub returns-in-None-clause-line : goal.returns-in-None-clause-line
returns-in-None-clause-line c = nodes_too_great c.args.text.now c.in_ok-nodes.field-0 c.in_ok-nodes.ensures.number c.in-None.is
