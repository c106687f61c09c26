use Rattle.std.proofs.Common.{ap, ◌∙◌}
use Rattle.std.proofs.lemmas.Result.{err_from_is_err_and}
use Rattle.scene_text.proofs.Taking.BuildCalls.{session_refused, session_taken}
use Rattle.scene_text.proofs.read.Reader.add_session.Goals as goal

pub returns-in_err-session-clause-refused : goal.returns-in_err-session-clause-refused
returns-in_err-session-clause-refused c =
    let p = err_from_is_err_and c.from_residual-in_err-session.result c.from_residual-in_err-session.ensures.1 in
    let same = ap (λ x. x.draft) (c.self.view_is ∙ c.in_ok-close.ensures.closed) in
    rw (p.1, p.2) (session_refused c.args.self.now c.self.inside.build c.args.node c.args.next c.in_err-session.field-0.0 same c.requires.reached c.requires.order c.in_err-session.ensures.refused)

pub returns-clause-taken : goal.returns-clause-taken
returns-clause-taken c =
    let whole = c.self.view_is ∙ c.in_ok-close.ensures.closed in
    session_taken c.args.self.now c.self.inside.build c.session.new.self c.self.inside.ops c.args.node c.args.next (ap (λ x. x.draft) whole) (ap (λ x. x.ops) whole) c.in_ok-session.ensures.added c.requires.reached c.requires.order c.in_ok-session.ensures.allowed
