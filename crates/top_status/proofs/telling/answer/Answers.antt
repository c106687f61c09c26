use Rattle.top_status.proofs.Lines.{line-failure}
use Rattle.top_status.proofs.telling.answer.Goals as goal

pub returns-in-Err-clause-told : goal.returns-in-Err-clause-told
returns-in-Err-clause-told g c =
    rw (c.in-Err.is, c.status.ensures, ← line-failure c.args.name.now c.in-Err.failure, ← c.text.ensures) c.tell.ensures
