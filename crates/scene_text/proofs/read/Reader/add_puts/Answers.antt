use Rattle.std.proofs.Common.{ap, ◌∙◌}
use Rattle.std.proofs.lemmas.Result.{err_from_is_err_and}
use Rattle.scene_text.proofs.Taking.TableRoom.{puts_refused_as}
use Rattle.scene_text.proofs.read.Reader.add_puts.Goals as goal

pub returns-in_err-text-clause-refused : goal.returns-in_err-text-clause-refused
returns-in_err-text-clause-refused c =
    let p = err_from_is_err_and c.from_residual-in_err-text.result c.from_residual-in_err-text.ensures.1 in
    let same = ap (λ x. x.draft) (c.self.view_is ∙ c.in_ok-key.ensures.added) in
    rw (p.1, p.2) (puts_refused_as c.args.self.now c.self.inside.build c.args.name c.args.bytes c.as_slice.result.now c.args.part c.args.next c.in_err-text.field-0.0 c.as_slice.ensures.items same c.requires.reached c.requires.order c.in_ok-key.ensures.range c.in_err-text.ensures.refused)
