use Rattle.std.proofs.lemmas.Result.{err_from_is_err_and}
use Rattle.strun.proofs.Doing.{bank_unread, has_bank, no_bank, task_done, writing_failed}
use Rattle.strun_words.specs.declared.task.Task.TheVariants.{Bank}
use Rattle.strun.proofs.tasks.do_bank.Goals as goal

pub returns-in_err-scene-clause-failed : goal.returns-in_err-scene-clause-failed
returns-in_err-scene-clause-failed g c =
    let p = err_from_is_err_and c.from_residual.result c.from_residual.ensures.1 in
    rw (p.1, p.2) (bank_unread _ _ _ _ _ _ _ c.in_err-scene.field-0.0 c.in_err-scene.ensures.failed)

pub returns-in_err-book-clause-failed : goal.returns-in_err-book-clause-failed
returns-in_err-book-clause-failed g c =
    let p = err_from_is_err_and c.from_residual-in_err-book.result c.from_residual-in_err-book.ensures.1 in
    rw (p.1, p.2) (no_bank _ _ _ _ _ _ _ c.in_ok-scene.scene c.in_err-book.field-0.0 c.in_ok-scene.ensures.taken c.in_err-book.ensures.refused)

pub returns-clause-done : goal.returns-clause-done
returns-clause-done g c =
    task_done Bank _ _ _ _ c.in_ok-scene.scene c.write_bank.result
    (has_bank _ _ c.in_ok-scene.scene c.in_ok-book.book.accounts.items c.in_ok-book.book.amounts.items c.in_ok-scene.ensures.taken c.in_ok-book.ensures.bank)
    c.write_bank.ensures.written

pub returns-clause-failed : goal.returns-clause-failed
returns-clause-failed g c =
    writing_failed Bank _ _ _ _ _ _ _ _ c.in_ok-scene.scene c.write_bank.result
    (has_bank _ _ c.in_ok-scene.scene c.in_ok-book.book.accounts.items c.in_ok-book.book.amounts.items c.in_ok-scene.ensures.taken c.in_ok-book.ensures.bank)
    c.write_bank.ensures.partial c.write_bank.ensures.failed
