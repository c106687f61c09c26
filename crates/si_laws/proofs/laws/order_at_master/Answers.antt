use Rattle.si_laws.proofs.laws.order_at_master.Goals as goal
use Rattle.si_laws.proofs.Order.OrderAtMaster.{order_holds}

pub returns : goal.returns
returns c = order_holds
