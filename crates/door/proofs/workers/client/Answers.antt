use Rattle.door.proofs.EventsDone.{client_acted}
use Rattle.std.proofs.lemmas.Result.{on_ok_weaker}
use Rattle.door.proofs.workers.client.Goals as goal

pub returns-clause-acted : goal.returns-clause-acted
returns-clause-acted g c = on_ok_weaker c.act.result (λ a _. client_acted _ _ _ _ _ a) c.act.ensures.acted
