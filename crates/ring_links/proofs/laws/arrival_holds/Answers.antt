use Rattle.ring_links.proofs.laws.arrival_holds.Goals as goal
use Rattle.ring_links.proofs.Flowing.{arrival_holds}

pub returns : goal.returns
returns c = arrival_holds
