use Rattle.std.proofs.Common.{ap}
use Rattle.std.proofs.lemmas.Result.{err_from_is_err_and}
use Rattle.scene_text.proofs.Taking.BuildCalls.{drain_refused}
use Rattle.scene_text.proofs.read.Reader.add_drain.Goals as goal

pub returns-in_err-drain-clause-refused : goal.returns-in_err-drain-clause-refused
returns-in_err-drain-clause-refused c =
    let p = err_from_is_err_and c.from_residual.result c.from_residual.ensures.1 in
    let same = ap (λ x. x.draft) c.self.view_is in
    rw (p.1, p.2) (drain_refused c.args.self.now c.self.inside.build c.args.next c.in_err-drain.field-0.0 same c.requires.reached c.requires.order c.in_err-drain.ensures.refused)
