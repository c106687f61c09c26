use Rattle.run_io.specs.declared.inputs.Form.TheVariants.{Text}
use Rattle.std.proofs.Common.{refl}
use Rattle.std.proofs.lemmas.Result.{err_from_is_err_and}
use Rattle.strun.proofs.Doing.{scene_unread, task_done, writing_failed}
use Rattle.strun_words.specs.declared.task.Task.TheVariants.{Pack}
use Rattle.strun.proofs.tasks.do_pack.Goals as goal

pub returns-in_err-scene-clause-failed : goal.returns-in_err-scene-clause-failed
returns-in_err-scene-clause-failed g c =
    let p = err_from_is_err_and c.from_residual.result c.from_residual.ensures.1 in
    rw (p.1, p.2) (scene_unread Pack Text _ _ _ _ _ _ _ c.in_err-scene.field-0.0 refl c.in_err-scene.ensures.failed)

pub returns-clause-done : goal.returns-clause-done
returns-clause-done g c = task_done Pack _ _ _ _ c.in_ok-scene.scene c.write_packed.result c.in_ok-scene.ensures.taken c.write_packed.ensures.written

pub returns-clause-failed : goal.returns-clause-failed
returns-clause-failed g c =
    writing_failed Pack _ _ _ _ _ _ _ _ c.in_ok-scene.scene c.write_packed.result c.in_ok-scene.ensures.taken c.write_packed.ensures.partial c.write_packed.ensures.failed
