use Rattle.std.proofs.Common.{ap, arith}
use Rattle.scene_text.proofs.Taking.BuildCalls.{never_version}
use Rattle.scene_text.proofs.read.Reader.add.Goals as goal

pub returns-in-Version-clause-refused : goal.returns-in-Version-clause-refused
returns-in-Version-clause-refused c =
    absurd (never_version c.args.self.now c.args.line _ c.args.next c.requires.reached c.requires.order (omega (arith, ap (λ x. x.draft.version) c.self.view_is, c.self.invariant.0, c.self.invariant.1)) c.in-Version.is)
