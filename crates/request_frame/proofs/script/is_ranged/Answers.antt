use Rattle.std.proofs.Common.{subst}
use Rattle.std.specs.Option.{SomeIff}
use Rattle.request_frame.proofs.OpRanges.{op_unfit}
use Rattle.scene_text.specs.LineTexts.{Fits}
use Rattle.request_frame.proofs.script.is_ranged.Goals as goal

pub returns-in-None : goal.returns-in-None
returns-in-None c = λ d l e h none. op_unfit c.args.parts d l c.requires e h (subst (λ o. SomeIff o (Fits l) l) c.in-None.is none)
