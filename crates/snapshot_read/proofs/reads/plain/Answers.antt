use Rattle.std.proofs.Common.{refl, ◌≡◌}
use Rattle.snapshot_read.proofs.Gating.{shut_waits}
use Rattle.snapshot_read.proofs.reads.plain.Goals as goal

pub returns-in-Some-clause-turn : goal.returns-in-Some-clause-turn
returns-in-Some-clause-turn c = shut_waits c.args.node c.args.snap _ c.in-Some.by ((c.in-Some.ensures.some c.in-Some.by).0 refl)

pub returns-in-Some-clause-wait : goal.returns-in-Some-clause-wait
returns-in-Some-clause-wait c =
    λ who. (
      λ q. let same : c.in-Some.by ≡ who = cc q in (c.in-Some.ensures.some who).0 (rw same refl),
      λ g. let same : c.in-Some.by ≡ who = cc ((c.in-Some.ensures.some who).1 g) in rw same refl,
    )
