use Rattle.request_frame.proofs.FrameLaws.{first_bad_no_scene}
use Rattle.request_frame.proofs.laws.bad_is_no_scene.Goals as goal

pub returns : goal.returns
returns c = first_bad_no_scene
