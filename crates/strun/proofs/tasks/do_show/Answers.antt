use Rattle.run_io.specs.declared.inputs.Form.TheVariants.{Frames}
use Rattle.std.proofs.Common.{refl}
use Rattle.std.proofs.lemmas.Result.{err_from_is_err_and}
use Rattle.strun.proofs.Doing.{scene_unread, task_done, writing_failed}
use Rattle.strun_words.specs.declared.task.Task.TheVariants.{Show}
use Rattle.strun.proofs.tasks.do_show.Goals as goal

pub returns-in_err-scene-clause-failed : goal.returns-in_err-scene-clause-failed
returns-in_err-scene-clause-failed g c =
    let p = err_from_is_err_and c.from_residual.result c.from_residual.ensures.1 in
    rw (p.1, p.2) (scene_unread Show Frames _ _ _ _ _ _ _ c.in_err-scene.field-0.0 refl c.in_err-scene.ensures.failed)

pub returns-clause-done : goal.returns-clause-done
returns-clause-done g c = task_done Show _ _ _ _ c.in_ok-scene.scene c.write_text.result c.in_ok-scene.ensures.taken c.write_text.ensures.written

pub returns-clause-failed : goal.returns-clause-failed
returns-clause-failed g c =
    writing_failed Show _ _ _ _ _ _ _ _ c.in_ok-scene.scene c.write_text.result c.in_ok-scene.ensures.taken c.write_text.ensures.partial c.write_text.ensures.failed
