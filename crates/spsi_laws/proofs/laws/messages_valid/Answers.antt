use Rattle.spsi_laws.proofs.laws.messages_valid.Goals as goal
use Rattle.spsi_laws.proofs.UnderWay.ValidMessages.{messages_valid}

pub returns : goal.returns
returns c = messages_valid
