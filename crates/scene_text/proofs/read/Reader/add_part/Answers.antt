use Rattle.std.proofs.Common.{ap, arith}
use Rattle.std.proofs.lemmas.Result.{err_from_is_err_and}
use Rattle.scene_text.proofs.Taking.BuildCalls.{part_refused, part_taken}
use Rattle.scene_text.proofs.read.Reader.add_part.Goals as goal

pub returns-in_err-part-clause-refused : goal.returns-in_err-part-clause-refused
returns-in_err-part-clause-refused c =
    let p = err_from_is_err_and c.from_residual.result c.from_residual.ensures.1 in
    let same = ap (λ x. x.draft) c.self.view_is in
    rw (p.1, p.2) (part_refused c.args.self.now c.self.inside.build c.args.part c.args.row c.args.next c.in_err-part.field-0.0 (omega arith) (omega arith) c.requires.named same c.requires.reached c.requires.order c.in_err-part.ensures.refused)

pub returns-clause-taken : goal.returns-clause-taken
returns-clause-taken c =
    part_taken c.args.self.now c.self.inside.build c.part.new.self c.self.inside.ops c.args.part c.args.row c.args.next (omega arith) (omega arith) (ap (λ x. x.draft) c.self.view_is) (ap (λ x. x.ops) c.self.view_is) c.in_ok-part.ensures.added c.requires.order c.in_ok-part.ensures.allowed
