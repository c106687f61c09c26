use Rattle.std.proofs.Common.{refl}
use Rattle.local_certify.proofs.Certifying.{closed_waits}
use Rattle.local_certify.proofs.certs.close.Goals as goal

pub returns-in-Some : goal.returns-in-Some
returns-in-Some c = closed_waits c.args.node c.args.past.0 c.args.snap c.in-Some.by ((c.in-Some.ensures.some c.in-Some.by).0 refl)
