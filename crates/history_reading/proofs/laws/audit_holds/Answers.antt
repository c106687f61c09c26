use Rattle.history_reading.proofs.RunHistories.{audit_holds}
use Rattle.history_reading.proofs.laws.audit_holds.Goals as goal

pub returns : goal.returns
returns c = audit_holds
