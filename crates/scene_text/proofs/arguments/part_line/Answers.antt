use Rattle.std.proofs.Common.{refl, sym, ◌∙◌}
use Rattle.scene_text.proofs.Spelling.PartRows.{part_no_number, part_no_row, part_no_space, part_too_great}
use Rattle.scene_text.proofs.arguments.part_line.Goals as goal

pub returns-in_err-part-clause-none : goal.returns-in_err-part-clause-none
returns-in_err-part-clause-none c = λ none. part_no_space c.args.text.now (c.in_err-part.ensures.none refl)

pub returns-in_err-part-2-clause-none : goal.returns-in_err-part-2-clause-none
returns-in_err-part-2-clause-none c = λ none.
    part_no_number c.args.text.now c.in_ok-part.part.now c.in_ok-part.row.now c.in_ok-part.ensures.parts c.in_ok-part.ensures.first (c.in_err-part-2.ensures.none refl)

pub returns-in_err-row-clause-none : goal.returns-in_err-row-clause-none
returns-in_err-row-clause-none c = λ none.
    part_no_row c.args.text.now c.in_ok-part.part.now c.in_ok-part.row.now c.in_ok-part.ensures.parts c.in_ok-part.ensures.first (c.in_err-row.ensures.none refl)

pub returns-in-None-clause-line : goal.returns-in-None-clause-line
returns-in-None-clause-line c =
    part_too_great c.args.text.now c.in_ok-part.part.now c.in_ok-part.row.now c.in_ok-part-2.part c.in_ok-row.row c.in_ok-part.ensures.parts c.in_ok-part-2.ensures.number c.in_ok-row.ensures.row (sym c.zip.ensures ∙ c.in-None.is)
