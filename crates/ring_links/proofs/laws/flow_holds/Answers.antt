use Rattle.ring_links.proofs.laws.flow_holds.Goals as goal
use Rattle.ring_links.proofs.Flowing.{flow_holds}

pub returns : goal.returns
returns c = flow_holds
