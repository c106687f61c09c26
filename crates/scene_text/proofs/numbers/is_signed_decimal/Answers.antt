use Rattle.scene_text.proofs.Spelling.NumbersRead.{minus_none, minus_number, minus_zero, plain_number, true_not}
use Rattle.std.proofs.lemmas.Bool.{not-false}
use Rattle.scene_text.proofs.numbers.is_signed_decimal.Goals as goal

pub returns-then-is_decimal-clause-yes : goal.returns-then-is_decimal-clause-yes
returns-then-is_decimal-clause-yes c = λ t.
    minus_number c.args.text.now c.in-Some.digits.now (c.is_decimal.ensures.yes c.if-is_decimal.true) (λ e. true_not c.is_same.result t (c.is_same.ensures.1 e)) c.in-Some.ensures.rest

pub returns-then-is_decimal-clause-no : goal.returns-then-is_decimal-clause-no
returns-then-is_decimal-clause-no c = λ e.
    minus_zero c.args.text.now c.in-Some.digits.now (c.is_same.ensures.0 (not-false c.is_same.result e)) c.in-Some.ensures.rest

pub returns-else-is_decimal-clause-no : goal.returns-else-is_decimal-clause-no
returns-else-is_decimal-clause-no c = λ e.
    minus_none c.args.text.now c.in-Some.digits.now (c.is_decimal.ensures.no e) c.in-Some.ensures.rest

pub returns-in-None-clause-yes : goal.returns-in-None-clause-yes
returns-in-None-clause-yes c = λ t. plain_number c.args.text.now (c.is_decimal-in-None.ensures.yes t)
