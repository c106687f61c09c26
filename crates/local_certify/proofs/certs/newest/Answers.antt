use Rattle.local_certify.proofs.Certifying.{newest_below}
use Rattle.local_certify.proofs.certs.newest.Goals as goal

pub returns-then-is_hosted-clause-limit : goal.returns-then-is_hosted-clause-limit
returns-then-is_hosted-clause-limit c = rw c.newest.ensures.value (newest_below c.args.key c.args.store.now.versions c.requires.times.0)

pub returns-else-is_hosted-clause-limit : goal.returns-else-is_hosted-clause-limit
returns-else-is_hosted-clause-limit c = rw c.newest-else-is_hosted.ensures.value (newest_below c.args.key c.args.cache.now.versions c.requires.times.1)
