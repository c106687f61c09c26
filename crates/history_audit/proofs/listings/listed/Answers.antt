use Rattle.history_audit.proofs.ValuesSame.{values_next}
use Rattle.history_audit.specs.Ledgers.{look_in}
use Rattle.history_audit.proofs.listings.listed.Goals as goal

pub loop-number-preserved : goal.loop-number-preserved
loop-number-preserved c =
    values_next (look_in c.args.ledger.now c.args.t.0) c.loop-number.number c.look.result c.loop-number.values.items _ c.look.ensures c.loop-number.invariant c.in_ok-list_key.ensures
