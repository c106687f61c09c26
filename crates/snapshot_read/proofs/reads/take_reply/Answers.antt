use Rattle.std.proofs.Common.{sym, ◌∙◌}
use Rattle.dependency_set.specs.Snapshots.{accept_final}
use Rattle.snapshot_read.proofs.Gating.{reply_at, same_waits}
use Rattle.snapshot_read.proofs.reads.take_reply.Goals as goal

pub returns-clause-turn : goal.returns-clause-turn
returns-clause-turn c =
    λ here n. c.plain.ensures.turn ∙ reply_at here c.args.node c.args.snap.now c.accept_final.result c.args.value c.args.by c.args.fc.0 n c.accept_final.ensures

pub returns-clause-wait : goal.returns-clause-wait
returns-clause-wait c =
    λ who.
    let w = c.plain.ensures.wait who in
    let raised = accept_final c.args.snap.now c.args.fc.0 in (
      λ q. same_waits c.args.node c.accept_final.result raised who c.accept_final.ensures (w.0 q),
      λ g. w.1 (same_waits c.args.node raised c.accept_final.result who (sym c.accept_final.ensures) g),
    )
