use Rattle.std.proofs.Common.{inl, inr, refl, sym, ◌∙◌}
use Rattle.scene_text.proofs.Spelling.Arguments.{numeral_one, numeral_two, version_kept, version_none}
use Rattle.scene_text.proofs.arguments.version_line.Goals as goal

pub returns-then-is_same-clause-line : goal.returns-then-is_same-clause-line
returns-then-is_same-clause-line c = version_kept 1 c.args.text.now (inl refl) (c.is_same.ensures.0 c.if-is_same.true ∙ sym numeral_one)

pub returns-then-is_same-2-clause-line : goal.returns-then-is_same-2-clause-line
returns-then-is_same-2-clause-line c = version_kept 2 c.args.text.now (inr refl) (c.is_same-2.ensures.0 c.if-is_same-2.true ∙ sym numeral_two)

pub returns-clause-none : goal.returns-clause-none
returns-clause-none c = λ none. version_none c.args.text.now (λ e. cc (c.is_same.ensures.1 e, c.if-is_same.false)) (λ e. cc (c.is_same-2.ensures.1 e, c.if-is_same-2.false))
