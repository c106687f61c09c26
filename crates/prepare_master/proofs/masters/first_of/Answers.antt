use Rattle.std.proofs.Common.{arith, sym, ◌∙◌}
use Rattle.prepare_master.specs.MasterTurns.{gives}
use Rattle.prepare_master.proofs.Walking.{first_met, next_met}
use Rattle.prepare_master.proofs.masters.first_of.Goals as goal

pub returns-in-Some : goal.returns-in-Some
returns-in-Some c =
    first_met (gives c.args.reason c.args.a.now) c.as_slice-write-items.result.now c.args.store.now.versions c.loop-write.write-index _ c.in-Some.version _ (omega (arith, c.loop-write-test.true))
    (sym c.reason_at.ensures ∙ c.in-Some.is) c.loop-write.invariant

pub loop-write-preserved : goal.loop-write-preserved
loop-write-preserved c =
    next_met (gives c.args.reason c.args.a.now) c.as_slice-write-items.result.now c.args.store.now.versions c.loop-write.write-index _ _ (omega (arith, c.loop-write-test.true))
    (sym c.reason_at.ensures ∙ c.in_default.is) c.loop-write.invariant
