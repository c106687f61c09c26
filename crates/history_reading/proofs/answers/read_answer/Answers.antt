use Rattle.std.proofs.Common.{rules, sym, ◌∙◌}
use Rattle.std.proofs.lemmas.Result.{err_from_is_err_and}
use Rattle.history_reading.proofs.Spelled.AnswersRead.{answer_bad, answer_no_name, answer_no_place, answer_read, answer_wide_at}
use Rattle.history_reading.proofs.answers.read_answer.Goals as goal

pub returns-in_default-clause-bad : goal.returns-in_default-clause-bad
returns-in_default-clause-bad c = c.in_default.ensures.none (search rules)

pub returns-in_default-read_name-clause-bad : goal.returns-in_default-read_name-clause-bad
returns-in_default-read_name-clause-bad c = answer_no_name c.args.text.now c.in-Some.name.now c.in-Some.place.now c.in-Some.end.now c.in-Some.ensures.parts (c.in_default-read_name.ensures.none (search rules))

pub returns-in_default-read_place-clause-bad : goal.returns-in_default-read_place-clause-bad
returns-in_default-read_place-clause-bad c = answer_no_place c.args.text.now c.in-Some.name.now c.in-Some.place.now c.in-Some.end.now c.in-Some.ensures.parts (c.in_default-read_place.ensures.none (search rules))

pub returns-in_default-zip-clause-bad : goal.returns-in_default-zip-clause-bad
returns-in_default-zip-clause-bad c =
    rw c.wide_fault.ensures
    (answer_wide_at c.args.scene.now c.args.text.now c.in-Some.name.now c.in-Some.place.now c.in-Some.end.now c.in-Some-read_name.tx c.in-Some-read_place.place c.read_end-end.result c.in-Some.ensures.parts c.in-Some-read_name.ensures.name
    c.in-Some-read_place.ensures.place (sym c.zip.ensures ∙ c.in_default-zip.is) c.read_end-end.ensures.end c.read_end-end.ensures.bad)

pub returns-in_err-rs-clause-bad : goal.returns-in_err-rs-clause-bad
returns-in_err-rs-clause-bad c =
    let p = err_from_is_err_and c.from_residual.result c.from_residual.ensures.1 in
    rw (p.1, p.2)
    (answer_bad c.args.scene.now c.args.text.now c.in-Some.name.now c.in-Some.place.now c.in-Some.end.now c.in-Some-read_name.tx c.in-Some-read_place.place c.in-Some-zip.tx c.in-Some-zip.place c.in_err-rs.field-0.0 c.in-Some.ensures.parts
    c.in-Some-read_name.ensures.name c.in-Some-read_place.ensures.place (sym c.zip.ensures ∙ c.in-Some-zip.is) (rw c.in_err-rs.was at c.read_end-end.ensures.bad))

pub returns-clause-answer : goal.returns-clause-answer
returns-clause-answer c =
    answer_read c.args.scene.now c.args.text.now c.in-Some.name.now c.in-Some.place.now c.in-Some.end.now c.in-Some-read_name.tx c.in-Some-read_place.place c.in-Some-zip.tx c.in-Some-zip.place c.in_ok-rs.rs c.in_ok-rs.outcome c.in-Some.ensures.parts
    c.in-Some-read_name.ensures.name c.in-Some-read_place.ensures.place (sym c.zip.ensures ∙ c.in-Some-zip.is) (rw c.in_ok-rs.was at c.read_end-end.ensures.end)
