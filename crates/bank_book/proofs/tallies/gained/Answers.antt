use Rattle.std.proofs.Common.{FitsSigned, ap, arith, rules, ◌<◌, ◌^◌, ◌∙◌}
use Rattle.std.specs.Int.{int_wrap, w64}
use Rattle.std.proofs.lemmas.Int.{wraps}
use Rattle.str_model.specs.declared.messages.Answer.{Answer}
use Rattle.bank_book.specs.Tallies.{moved}
use Rattle.bank_book.proofs.WrappedSums.{wrap_twice, wrapped_more}
use Rattle.bank_book.proofs.tallies.gained.Goals as goal

pub loop-answer-preserved : goal.loop-answer-preserved
loop-answer-preserved c =
    let p : c.loop-answer.sum-bits < 2 ^ 64 = first_of (search rules, omega arith, grind arith) in
    let f : FitsSigned w64 c.moved-sum.result = first_of (search rules, search (rules, wraps), grind (arith, wraps)) in
    wrapped_more (moved c.args.scene.now c.args.key) c.args.answers.now c.loop-answer.answer-index c.answer-item.result c.loop-answer.sum-bits c.moved-sum.result c.loop-answer-test.true p f
    c.loop-answer.invariant
    (ap (int_wrap w64) c.moved-sum.ensures
    ∙ (wrap_twice (moved c.args.scene.now c.args.key c.answer-item.result) ∙ ap (λ (a : Answer). int_wrap w64 (moved c.args.scene.now c.args.key a)) c.answer-item.is))
