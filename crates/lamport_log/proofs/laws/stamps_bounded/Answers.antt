use Rattle.lamport_log.proofs.laws.stamps_bounded.Goals as goal
use Rattle.lamport_log.proofs.Stamps.StampsBounded.{stamps_bounded}

pub returns : goal.returns
returns c = stamps_bounded
