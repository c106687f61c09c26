use Rattle.std.proofs.Common.{Some, ap, ◌∙◌, refl, rules}
use Rattle.scene_text.proofs.Taking.BuildCalls.{order_is, text_unfit, texts_refused}
use Rattle.scene_text.proofs.read.Reader.take.Goals as goal

pub returns-in_default-line-clause-bad : goal.returns-in_default-line-clause-bad
returns-in_default-line-clause-bad c =
    text_unfit c.args.text.now c.args.self.now c.in-Some.read c.in-Some-follows.next c.requires c.in-Some.ensures.line (search rules)
    (λ l e. order_is c.args.self.now c.self.inside.version c.self.inside.place c.follows.result (Some c.in-Some-follows.next) l (c.self.invariant.0 ∙ ap (λ x. x.draft.version) c.self.view_is) (ap (λ x. x.place) c.self.view_is) (c.follows.ensures l e) c.in-Some-follows.is)

pub returns-clause-bad : goal.returns-clause-bad
returns-clause-bad c =
    texts_refused c.args.text.now c.args.self.now c.args.self.now c.in-Some.read c.in-Some-line.line c.add.result refl c.in-Some.ensures.line c.in-Some-line.is (rw c.in-Some-line.line-is at c.add.ensures.refused)
