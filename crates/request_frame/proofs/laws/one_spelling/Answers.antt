use Rattle.request_frame.proofs.FrameLaws.{one_spelling}
use Rattle.request_frame.proofs.laws.one_spelling.Goals as goal

pub returns : goal.returns
returns c = one_spelling
