use Rattle.lamport_log.proofs.laws.merge_holds.Goals as goal
use Rattle.lamport_log.proofs.MergeRuns.MergeHolds.{merge_holds}

pub returns : goal.returns
returns c = merge_holds
