use Rattle.std.proofs.Common.{List, ap, arith, length}
use Rattle.history_audit.proofs.LoopSteps.{none_left}
use Rattle.history_audit.specs.declared.ledgers.Stamped.{Stamped}
use Rattle.history_audit.proofs.ledgers.Ledger.clear.Goals as goal

pub returns-clause-none : goal.returns-clause-none
returns-clause-none c =
    none_left c.clear_all.new.chains c.self.inside.chains.items c.self.inside.chains.len
    (omega (arith, c.clear_all.auto.chains, ap (λ (xs : List (List Stamped)). length xs) c.as_mut_slice.ensures.value)) c.clear_all.ensures
