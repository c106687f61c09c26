use Rattle.std.proofs.lemmas.Result.{err_from_is_err_and}
use Rattle.run_io.proofs.Reading.{bytes_refused, scene_taken}
use Rattle.run_io.proofs.inputs.read_text.Goals as goal
use Rattle.run_io.specs.declared.inputs.Form.TheVariants.{Text}

pub returns-in_err-bytes-clause-failed : goal.returns-in_err-bytes-clause-failed
returns-in_err-bytes-clause-failed g c =
    let p = err_from_is_err_and c.from_residual.result c.from_residual.ensures.1 in rw (p.1, p.2) (c.in_err-bytes.ensures.failed Text)

pub returns-clause-taken : goal.returns-clause-taken
returns-clause-taken g c =
    scene_taken Text _ _ c.in_ok-bytes.bytes.items c.as_slice.result.now c.accept_text.result c.in_ok-bytes.ensures.taken c.in_ok-bytes.ensures.ended c.as_slice.ensures.value
    c.accept_text.ensures.accepted

pub returns-clause-failed : goal.returns-clause-failed
returns-clause-failed g c =
    bytes_refused Text _ _ _ _ c.in_ok-bytes.bytes.items c.as_slice.result.now c.accept_text.result c.in_ok-bytes.ensures.taken c.in_ok-bytes.ensures.ended c.as_slice.ensures.value
    c.accept_text.ensures.refused
