use Rattle.std.proofs.Common.{refl, rules}
use Rattle.scene_text.proofs.Spelling.PartRows.{row_ends, row_goes_on, row_no_last, row_no_word}
use Rattle.scene_text.proofs.arguments.read_row.Goals as goal

pub returns-in_err-read_small-clause-none : goal.returns-in_err-read_small-clause-none
returns-in_err-read_small-clause-none c = λ none.
    row_no_word c.args.text.now c.loop-word.left.now c.in-Some.word.now c.in-Some.rest.now c.loop-word.kept c.loop-word.invariant c.in-Some.ensures.parts c.in-Some.ensures.first (c.in_err-read_small.ensures.none refl)

pub loop-word-preserved : goal.loop-word-preserved
loop-word-preserved c =
    row_goes_on _ c.loop-word.left.now c.in-Some.word.now c.in-Some.rest.now c.loop-word.kept _ c.in_ok-read_small.field-0 c.loop-word.invariant c.in-Some.ensures.parts c.in_ok-read_small.ensures.number c.with_replica-kept.ensures

pub returns-in_err-read_small-2-clause-none : goal.returns-in_err-read_small-2-clause-none
returns-in_err-read_small-2-clause-none c = λ none.
    row_no_last c.args.text.now c.loop-word.left.now c.loop-word.kept c.loop-word.invariant (c.split_at_byte.ensures.none (search rules)) (c.in_err-read_small-2.ensures.none refl)

pub returns-clause-row : goal.returns-clause-row
returns-clause-row c =
    row_ends c.args.text.now c.loop-word.left.now c.loop-word.kept _ c.in_ok-read_small-2.field-0 c.loop-word.invariant c.in_ok-read_small-2.ensures.number c.with_replica.ensures
