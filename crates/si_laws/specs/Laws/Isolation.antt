-- The law Isolation: the answers of every run are a run of the snapshot isolation machine.
use Rattle.str_model.specs.Owned.{OfEachState}
use Rattle.si_laws.specs.SnapshotIsolation.{SIRun}

-- the law
abbrev pub IsolationHolds : Type 0
IsolationHolds = OfEachState (λ scene w. SIRun scene w.answers)
