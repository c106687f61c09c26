use Rattle.scene_text.proofs.Spelling.PartedBytes.{not_stripped, stripped}
use Rattle.scene_text.proofs.parting.rest_after.Goals as goal

pub returns-clause-rest : goal.returns-clause-rest
returns-clause-rest c = stripped _ _ c.strip_prefix.result c.strip_prefix.ensures.cases

pub returns-clause-none : goal.returns-clause-none
returns-clause-none c = not_stripped _ _ c.strip_prefix.result c.strip_prefix.ensures.cases
