use Rattle.spsi_laws.proofs.laws.pairs_hold.Goals as goal
use Rattle.spsi_laws.proofs.Pairs.PairsHold.{pairs_hold}

pub returns : goal.returns
returns c = pairs_hold
