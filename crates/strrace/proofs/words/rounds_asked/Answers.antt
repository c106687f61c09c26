use Rattle.std.proofs.Common.{arith, rules, ◌∙◌}
use Rattle.std.specs.String.{string_bytes}
use Rattle.strrace.proofs.RoundsAsked.{none_asked}
use Rattle.strrace.proofs.words.rounds_asked.Goals as goal

pub returns-in_default-read_u64-clause-unasked : goal.returns-in_default-read_u64-clause-unasked
returns-in_default-read_u64-clause-unasked c = λ u a.
    none_asked string_bytes c.args.words.now c.word-item.result c.in-Some.count c.word-item.is (c.in-Some.ensures.value ∙ c.as_bytes.ensures.value) (search rules)
    (λ l m. let t = c.if-count-le256.false in omega (arith, t, m)) a

pub returns-in_default-read_u64-2-clause-unasked : goal.returns-in_default-read_u64-2-clause-unasked
returns-in_default-read_u64-2-clause-unasked c = λ u a.
    none_asked string_bytes c.args.words.now c.word-item.result c.in-Some.count c.word-item.is (c.in-Some.ensures.value ∙ c.as_bytes.ensures.value) (search rules)
    (λ l m. let t = c.if-count-ge1.false in omega (arith, t, l)) a
