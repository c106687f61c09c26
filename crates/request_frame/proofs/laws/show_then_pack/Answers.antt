use Rattle.request_frame.proofs.FrameLaws.{shown_packed}
use Rattle.request_frame.proofs.laws.show_then_pack.Goals as goal

pub returns : goal.returns
returns c = shown_packed
