use Rattle.request_frame.proofs.FrameLaws.{one_scene}
use Rattle.request_frame.proofs.laws.one_scene.Goals as goal

pub returns : goal.returns
returns c = one_scene
