use Rattle.std.proofs.lemmas.Result.{err_from_is_err_and}
use Rattle.run_io.proofs.Reading.{long_refused, read_whole, reading_failed}
use Rattle.run_io.proofs.inputs.read_bytes.Goals as goal

pub returns-in_err-bytes-clause-failed : goal.returns-in_err-bytes-clause-failed
returns-in_err-bytes-clause-failed g c = λ form.
    let p = err_from_is_err_and c.from_residual.result c.from_residual.ensures.1 in
    rw (p.1, p.2) (reading_failed form _ _ _ _ c.in_err-bytes.field-0.0 c.in_err-bytes.ensures.failed)
