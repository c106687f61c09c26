use Rattle.std.proofs.Common.{◌∙◌}
use Rattle.snapshot_read.proofs.Seeing.{served_seen}
use Rattle.snapshot_read.proofs.reads.serve.Goals as goal

pub returns-clause-seen : goal.returns-clause-seen
returns-clause-seen c = λ view s. c.served.ensures.turn ∙ served_seen view c.args.store.now.versions c.args.key c.args.rs.0 s
