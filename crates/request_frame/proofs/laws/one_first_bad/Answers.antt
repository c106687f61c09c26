use Rattle.request_frame.proofs.FrameLaws.{first_bad_unique}
use Rattle.request_frame.proofs.laws.one_first_bad.Goals as goal

pub returns : goal.returns
returns c = first_bad_unique
