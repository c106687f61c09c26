use Rattle.std.proofs.Common.{ap}
use Rattle.std.proofs.lemmas.Result.{err_from_is_err_and}
use Rattle.scene_text.proofs.Taking.BuildCalls.{nodes_refused}
use Rattle.scene_text.proofs.read.Reader.add_nodes.Goals as goal

pub returns-in_err-nodes-clause-refused : goal.returns-in_err-nodes-clause-refused
returns-in_err-nodes-clause-refused c =
    let p = err_from_is_err_and c.from_residual.result c.from_residual.ensures.1 in
    let same = ap (λ x. x.draft) c.self.view_is in
    rw (p.1, p.2) (nodes_refused c.args.self.now c.self.inside.build c.args.n c.args.next c.in_err-nodes.field-0.0 same c.requires.reached c.requires.order c.in_err-nodes.ensures.refused)
