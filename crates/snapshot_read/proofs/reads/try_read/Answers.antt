use Rattle.std.proofs.Common.{◌∙◌}
use Rattle.snapshot_read.proofs.Finding.{read_shown}
use Rattle.snapshot_read.proofs.Reading.{read_remote, read_waits}
use Rattle.snapshot_read.proofs.reads.try_read.Goals as goal

pub returns-clause-turn : goal.returns-clause-turn
returns-clause-turn c =
    λ here view s.
    c.read.ensures
    ∙ read_shown here view c.args.node c.args.own.now c.args.store.now c.args.cache.now c.args.map.now s c.requires.here c.node.ensures.kept c.node-2.ensures.kept c.args.snap.now c.args.key c.requires.told

pub returns-clause-wait : goal.returns-clause-wait
returns-clause-wait c = λ here view s. read_waits here view c.args.snap.now c.args.key c.read.result (returns-clause-turn c here view s)

pub returns-clause-remote : goal.returns-clause-remote
returns-clause-remote c = λ here view s. read_remote here view c.args.snap.now c.args.key c.read.result (returns-clause-turn c here view s)
