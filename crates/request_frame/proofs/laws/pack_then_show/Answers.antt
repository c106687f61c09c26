use Rattle.request_frame.proofs.FrameLaws.{packed_shown}
use Rattle.request_frame.proofs.laws.pack_then_show.Goals as goal

pub returns : goal.returns
returns c = packed_shown
