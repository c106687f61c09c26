use Rattle.std.proofs.Common.{ap, arith}
use Rattle.std.proofs.lemmas.Result.{err_from_is_err_and}
use Rattle.scene_text.proofs.Taking.BuildCalls.{client_refused}
use Rattle.scene_text.proofs.read.Reader.add_client.Goals as goal

pub returns-in_err-entry-clause-refused : goal.returns-in_err-entry-clause-refused
returns-in_err-entry-clause-refused c =
    let p = err_from_is_err_and c.from_residual.result c.from_residual.ensures.1 in
    let same = ap (λ x. x.draft) c.self.view_is in
    rw (p.1, p.2) (client_refused c.args.self.now c.self.inside.build c.args.session c.args.reading c.args.next c.in_err-entry.field-0.0 (omega arith) same c.requires.reached c.requires.order c.in_err-entry.ensures.refused)
