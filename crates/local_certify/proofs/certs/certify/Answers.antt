use Rattle.std.proofs.Common.{◌∙◌}
use Rattle.local_certify.proofs.Certifying.{above_cause, conflict_cause, wait_cause}
use Rattle.local_certify.proofs.Meeting.{cert_shown}
use Rattle.local_certify.proofs.certs.certify.Goals as goal

pub returns-clause-turn : goal.returns-clause-turn
returns-clause-turn c =
    λ here view s m.
    c.judge.ensures
    ∙ cert_shown here view c.args.node c.args.own.now c.args.store.now c.args.cache.now c.args.map.now s c.requires.here c.node.ensures.kept c.node-2.ensures.kept c.args.marks.now c.args.snap.now
    c.args.writes.now m c.requires.told

pub returns-clause-conflict : goal.returns-clause-conflict
returns-clause-conflict c = λ here view s m. conflict_cause here view c.args.snap.now c.args.writes.now c.judge.result (returns-clause-turn c here view s m)

pub returns-clause-wait : goal.returns-clause-wait
returns-clause-wait c = λ here view s m. wait_cause here view c.args.snap.now c.args.writes.now c.judge.result (returns-clause-turn c here view s m)

pub returns-clause-above : goal.returns-clause-above
returns-clause-above c = λ here view s m. above_cause here view c.args.snap.now c.args.writes.now c.judge.result (returns-clause-turn c here view s m)
