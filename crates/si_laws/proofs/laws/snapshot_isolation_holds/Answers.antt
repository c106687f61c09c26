use Rattle.si_laws.proofs.laws.snapshot_isolation_holds.Goals as goal
use Rattle.si_laws.proofs.Isolation.IsolationHolds.{isolated_run}

pub returns : goal.returns
returns c = isolated_run
