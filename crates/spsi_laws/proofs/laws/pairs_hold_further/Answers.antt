use Rattle.spsi_laws.proofs.laws.pairs_hold_further.Goals as goal
use Rattle.spsi_laws.proofs.Pairs.PairsHold.{pairs_hold_further}

pub returns : goal.returns
returns c = pairs_hold_further
