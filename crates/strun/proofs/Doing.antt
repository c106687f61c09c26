-- What a task does, from what it reads to its output.
use Rattle.bank_book.specs.BankScenes.{IsBank}
use Rattle.history_audit.proofs.SeenOnLedgers.{no_run}
use Rattle.history_audit.specs.Verdicts.{IsVerdict}
use Rattle.history_audit.specs.declared.verdicts.Verdict.{Verdict}
use Rattle.history_audit.specs.declared.verdicts.Verdict.TheVariants.{No, Yes}
use Rattle.run_io.specs.Inputs.{HasRead, InputFails}
use Rattle.run_io.specs.declared.inputs.Form.{Form}
use Rattle.run_io.specs.declared.inputs.Form.TheVariants.{History, Text}
use Rattle.scene_gen.proofs.MadeLimits.{made_holds}
use Rattle.scene_gen.specs.Made.{made}
use Rattle.std.proofs.Common.{Bool, Err, IfErr, List, Ok, OnErr, OnOk, Option, Result, false, inl, inr, refl, subst, sym, true, ℕ, ℤ, ◌≡◌, ◌⊎◌}
use Rattle.std.specs.Io.KnownBytes.{Appends}
use Rattle.str_base.specs.declared.names.KeyId.{KeyId}
use Rattle.str_model.specs.declared.messages.Answer.{Answer}
use Rattle.str_outer.specs.Pieces.{AppendsPrefix}
use Rattle.str_scene.specs.SceneLimits.{IsScene}
use Rattle.str_scene.specs.Scenes.{Scene}
use Rattle.strun.proofs.BankRuns.{bank_run_holds, bank_scene}
use Rattle.strun.proofs.WholeRun.{run_holds}
use Rattle.strun.specs.Audits.{TellsIsolation}
use Rattle.strun.specs.Failing.{RefusesScene, TaskFails}
use Rattle.strun.specs.Inputs.{HasSubject, IsRefused, Origin, ReadFailed, Subject, origin_of}
use Rattle.strun.specs.Inputs.Origin.{reads, reads_bank, reads_history}
use Rattle.strun.specs.Outputs.{Promised, output}
use Rattle.strun.specs.Tops.{Done}
use Rattle.strun_words.specs.declared.task.Task.{Task}
use Rattle.strun_words.specs.declared.task.Task.TheVariants.{At, Audit, Bank, Generate, Pack, Run, RunPruned, Show}
use Rattle.top_status.specs.Failures.{HasWriteCause}
use Rattle.top_status.specs.declared.failure.Failure.{Failure}
use Rattle.top_status.specs.declared.failure.Failure.TheVariants.{Memory, Read, Refused as Refusal, Usage, Write}

-- a verdict is a yes exactly where the answers are a run of the machine
tells_isolation : (scene : Scene) (answers : List Answer) (v : Verdict) → IsVerdict scene answers v → TellsIsolation (record { scene = scene; answers = answers; verdict = v })
tells_isolation scene answers Yes h = (λ e. h, λ r. refl)
tells_isolation scene answers (No answer clause) h = (λ e. absurd (cc e), λ r. absurd (no_run scene answers answer clause h.clause r))

-- what a task promises holds of what it works on
promise_holds : (task : Task) (left left' : Option (List ℕ)) (subject : Subject (origin_of task)) → HasSubject (origin_of task) left left' subject → Promised task subject
promise_holds (Run frames journal) left left' scene h = run_holds scene h.spelled.scene_
promise_holds RunPruned left left' scene h = run_holds scene h.spelled.scene_
promise_holds Pack left left' scene h = tt
promise_holds Show left left' scene h = tt
promise_holds (Generate seed false) left left' scene h = subst IsScene (sym h.1) (made_holds seed)
promise_holds (Generate seed true) left left' scene h = run_holds scene (subst IsScene (sym h.1) (made_holds seed))
promise_holds Bank left left' scene h = (run_holds scene h.0.spelled.scene_, bank_run_holds scene h.0.spelled.scene_ h.1)
promise_holds Audit left left' a h = tells_isolation a.scene a.answers a.verdict h.1
promise_holds (At time) left left' a h = tells_isolation a.scene a.answers a.verdict h.1

-- ---- the output

-- what the task works on was there and what it writes of it was written
pub task_done : {E : Type 0} (task : Task) (left left' held held' : Option (List ℕ)) (subject : Subject (origin_of task)) (r : Result (Unit {0}) E)
    → HasSubject (origin_of task) left left' subject → OnOk r (Appends held held' (output task subject)) → OnOk r (Done task left left' held held')
task_done task left left' held held' subject (Err e) h o = tt
task_done task left left' held held' subject (Ok u) h o = record { subject = subject; has = h; written = o; promised = promise_holds task left left' subject h }

-- no scene came of what was read
pub scene_unread : (task : Task) (form : Form) (left left' : Option (List ℕ)) (read read' : ℕ) (held : Option (List ℕ)) (write write' : ℕ) (f : Failure) → origin_of task ≡ reads form
    → InputFails form left left' read read' f → TaskFails task left left' read read' held held write write' f
scene_unread task form left left' read read' held write write' (Refusal said) e h = (subst (λ (o : Origin). IsRefused o left left' said.items) (sym e) h, refl)
scene_unread task form left left' read read' held write write' Read e h = (subst (λ (o : Origin). ReadFailed o read read') (sym e) h, refl)
scene_unread task form left left' read read' held write write' Memory e h = inl refl
scene_unread task form left left' read read' held write write' Usage e h = absurd h
scene_unread task form left left' read read' held write write' Write e h = absurd h

-- no history came of it
pub history_unread : (task : Task) (left left' : Option (List ℕ)) (read read' : ℕ) (held : Option (List ℕ)) (write write' : ℕ) (f : Failure) → origin_of task ≡ reads_history
    → InputFails History left left' read read' f → TaskFails task left left' read read' held held write write' f
history_unread task left left' read read' held write write' (Refusal said) e h = (subst (λ (o : Origin). IsRefused o left left' said.items) (sym e) h, refl)
history_unread task left left' read read' held write write' Read e h = (subst (λ (o : Origin). ReadFailed o read read') (sym e) h, refl)
history_unread task left left' read read' held write write' Memory e h = inl refl
history_unread task left left' read read' held write write' Usage e h = absurd h
history_unread task left left' read read' held write write' Write e h = absurd h

-- writing failed
pub writing_failed : (task : Task) (left left' : Option (List ℕ)) (read read' : ℕ) (held held' : Option (List ℕ)) (write write' : ℕ) (subject : Subject (origin_of task))
    (r : Result (Unit {0}) Failure) → HasSubject (origin_of task) left left' subject → OnErr r (AppendsPrefix held held' (output task subject)) → IfErr r (HasWriteCause write write')
    → IfErr r (TaskFails task left left' read read' held held' write write')
writing_failed task left left' read read' held held' write write' subject (Ok u) s p h = tt
writing_failed task left left' read read' held held' write write' subject (Err Write) s p h = (h, record { subject = subject; has = s; written = p })
writing_failed task left left' read read' held held' write write' subject (Err Memory) s p h = inr (record { subject = subject; has = s; written = p })
writing_failed task left left' read read' held held' write write' subject (Err Usage) s p h = absurd h
writing_failed task left left' read read' held held' write write' subject (Err Read) s p h = absurd h
writing_failed task left left' read read' held held' write write' subject (Err (Refusal said)) s p h = absurd h

-- ---- a made scene

-- the scene was made and what the task writes of it was written
pub made_done : {E : Type 0} (task : Task) (seed : ℕ) (run : Bool) (left held held' : Option (List ℕ)) (r : Result (Unit {0}) E) → task ≡ Generate seed run
    → OnOk r (Appends held held' (output (Generate seed run) (made seed))) → OnOk r (Done task left left held held')
made_done task seed run left held held' r e o =
    subst (λ (t : Task). OnOk r (Done t left left held held')) (sym e) (task_done (Generate seed run) left left held held' (made seed) r (refl, refl) o)

-- writing it failed
pub made_failed : (task : Task) (seed : ℕ) (run : Bool) (left : Option (List ℕ)) (read read' : ℕ) (held held' : Option (List ℕ)) (write write' : ℕ) (r : Result (Unit {0}) Failure)
    → task ≡ Generate seed run → OnErr r (AppendsPrefix held held' (output (Generate seed run) (made seed))) → IfErr r (HasWriteCause write write')
    → IfErr r (TaskFails task left left read read' held held' write write')
made_failed task seed run left read read' held held' write write' r e p h =
    subst (λ (t : Task). IfErr r (TaskFails t left left read read' held held' write write')) (sym e)
    (writing_failed (Generate seed run) left left read read' held held' write write' (made seed) r (refl, refl) p h)

-- ---- a bank's scene

-- the scene that was read is a bank's
pub has_bank : (left left' : Option (List ℕ)) (scene : Scene) (accounts : List KeyId) (amounts : List ℤ) → HasRead Text left left' scene → IsBank scene accounts amounts
    → HasSubject reads_bank left left' scene
has_bank left left' scene accounts amounts h b = (h, bank_scene scene accounts amounts b)

-- no scene came
pub bank_unread : (left left' : Option (List ℕ)) (read read' : ℕ) (held : Option (List ℕ)) (write write' : ℕ) (f : Failure) → InputFails Text left left' read read' f
    → TaskFails Bank left left' read read' held held write write' f
bank_unread left left' read read' held write write' (Refusal said) h = (inl h, refl)
bank_unread left left' read read' held write write' Read h = (h, refl)
bank_unread left left' read read' held write write' Memory h = inl refl
bank_unread left left' read read' held write write' Usage h = absurd h
bank_unread left left' read read' held write write' Write h = absurd h

-- the scene that came is no bank's
pub no_bank : (left left' : Option (List ℕ)) (read read' : ℕ) (held : Option (List ℕ)) (write write' : ℕ) (scene : Scene) (f : Failure) → HasRead Text left left' scene → RefusesScene scene f
    → TaskFails Bank left left' read read' held held write write' f
no_bank left left' read read' held write write' scene (Refusal said) h r = (inr (record { scene = scene; has = h; place = r.0; reason = r.1; is_said = r.2 }), refl)
no_bank left left' read read' held write write' scene Memory h r = inl refl
no_bank left left' read read' held write write' scene Usage h r = absurd r
no_bank left left' read read' held write write' scene Read h r = absurd r
no_bank left left' read read' held write write' scene Write h r = absurd r
