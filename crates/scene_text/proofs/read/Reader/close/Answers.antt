use Rattle.std.proofs.Common.{ap, arith, length, ◌∙◌}
use Rattle.std.proofs.lemmas.Result.{err_from_is_err_and}
use Rattle.scene_text.proofs.Taking.BuildCalls.{tx_memory}
use Rattle.scene_text.proofs.read.Reader.close.Goals as goal

pub returns-in_err-tx-clause-memory : goal.returns-in_err-tx-clause-memory
returns-in_err-tx-clause-memory c =
    let p = err_from_is_err_and c.from_residual.result c.from_residual.ensures.1 in
    let same = ap (λ x. x.draft) c.self.view_is in
    rw (p.1, p.2) (tx_memory c.args.self.now c.self.inside.build c.copy-ops.result c.in_err-tx.field-0.0 same (c.copy-ops.ensures ∙ ap (λ x. x.ops) c.self.view_is) c.requires.reached c.requires.order (λ e. omega (arith, c.len.ensures.len, ap length c.copy-ops.ensures)) c.in_err-tx.ensures.refused)
