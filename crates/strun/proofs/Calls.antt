-- What a call does for its words.
use Rattle.std.proofs.Common.{Err, IfErr, List, Ok, OnOk, Option, Result, Some, inl, inr, refl, subst, sym, ℕ, ◌≡◌, ◌⊎◌}
use Rattle.scene_text.proofs.FirstBad.FirstBadLaws.{one_scene_of}
use Rattle.str_outer.specs.Causes.{Rose}
use Rattle.str_scene.specs.Scenes.{Scene}
use Rattle.str_scene.specs.Spelling.{IsText}
use Rattle.run_io.proofs.Offered.{no_history_not_read, spelled_not_refused, unspelled_not_read}
use Rattle.run_io.specs.Inputs.{IsSpelled}
use Rattle.run_io.specs.declared.inputs.Form.TheVariants.{History, Text}
use Rattle.strun.specs.Failing.{CallFails, TaskFails}
use Rattle.strun.specs.Banks.{IsBankScene, accounts_of, amounts_of}
use Rattle.strun.specs.Inputs.{HasSubject, IsRefused, Offers, OffersNone, Origin, ReadFailed, ReadsNothing, Subject, origin_of}
use Rattle.strun.specs.Inputs.Origin.{makes, reads, reads_bank, reads_history}
use Rattle.strun.specs.Tops.{Asked, Completes, CompletesFrom, Done, IsPartial, PartlyDone, Refuses, RefusesFrom}
use Rattle.strun_words.proofs.Apart.{one_task}
use Rattle.strun_words.specs.Tasks.{AskFor, AskNothing, IsUnasked}
use Rattle.strun_words.specs.declared.task.Task.{Task}
use Rattle.top_status.proofs.Whole.{all_read, all_told}
use Rattle.top_status.specs.Failures.{refusal_of, status_of}
use Rattle.top_status.specs.Statuses.{IsQuiet, IsStopped}
use Rattle.top_status.specs.declared.failure.Failure.{Failure}
use Rattle.top_status.specs.declared.failure.Failure.TheVariants.{Memory, Read, Refused as Refusal, Usage, Write}
use Rattle.top_status.specs.declared.status.Status.{Status}
use Rattle.top_status.specs.declared.status.Status.TheVariants.{NoMemory, Ok as StatusOk, ReadFault, Refused, Usage as StatusUsage, WriteFault}

-- the words ask for nothing, or memory was wanting
pub nothing_asked : (words : List (List ℕ)) (left : Option (List ℕ)) (read : ℕ) (held : Option (List ℕ)) (write : ℕ) (f : Failure) → IsUnasked words f
    → CallFails words left left read read held held write write f
nothing_asked words left read held write Usage u = (u, refl)
nothing_asked words left read held write Memory u = inl refl
nothing_asked words left read held write Read u = absurd u
nothing_asked words left read held write Write u = absurd u
nothing_asked words left read held write (Refusal said) u = absurd u

-- the task that the words ask for failed
failed_task : (words : List (List ℕ)) (task : Task) (left left' : Option (List ℕ)) (read read' : ℕ) (held held' : Option (List ℕ)) (write write' : ℕ) (f : Failure) → AskFor words task
    → TaskFails task left left' read read' held held' write write' f → CallFails words left left' read read' held held' write write' f
failed_task words task left left' read read' held held' write write' Usage q h = absurd h
failed_task words task left left' read read' held held' write write' (Refusal said) q h = ((task, q, h.0), h.1)
failed_task words task left left' read read' held held' write write' Read q h = ((task, q, h.0), h.1)
failed_task words task left left' read read' held held' write write' Write q h = (h.0, (task, q, h.1))
failed_task words task left left' read read' held held' write write' Memory q (inl e) = inl e
failed_task words task left left' read read' held held' write write' Memory q (inr p) = inr (task, q, p)

-- the same of what a task comes to
pub task_failed : (words : List (List ℕ)) (task : Task) (left left' : Option (List ℕ)) (read read' : ℕ) (held held' : Option (List ℕ)) (write write' : ℕ) (r : Result (Unit {0}) Failure)
    → AskFor words task → IfErr r (TaskFails task left left' read read' held held' write write') → IfErr r (CallFails words left left' read read' held held' write write')
task_failed words task left left' read read' held held' write write' (Ok u) q h = tt
task_failed words task left left' read read' held held' write write' (Err f) q h = failed_task words task left left' read read' held held' write write' f q h

-- the task that the words ask for was done
pub asked_done : {E : Type 0} (words : List (List ℕ)) (task : Task) (left left' held held' : Option (List ℕ)) (r : Result (Unit {0}) E) → AskFor words task
    → OnOk r (Done task left left' held held') → OnOk r (Asked words (λ task. Done task left left' held held'))
asked_done words task left left' held held' (Err e) q d = tt
asked_done words task left left' held held' (Ok u) q d = (task, q, d)

-- Usage comes where the words ask for nothing
pub usage_of : (words : List (List ℕ)) (left left' : Option (List ℕ)) (read read' : ℕ) (held held' : Option (List ℕ)) (write write' : ℕ) (done : Result (Unit {0}) Failure)
    → IfErr done (CallFails words left left' read read' held held' write write') → status_of done ≡ StatusUsage → AskNothing words
usage_of words left left' read read' held held' write write' (Ok u) f e = absurd (cc e)
usage_of words left left' read read' held held' write write' (Err Usage) f e = f.0
usage_of words left left' read read' held held' write write' (Err (Refusal said)) f e = absurd (cc e)
usage_of words left left' read read' held held' write write' (Err Read) f e = absurd (cc e)
usage_of words left left' read read' held held' write write' (Err Write) f e = absurd (cc e)
usage_of words left left' read read' held held' write write' (Err Memory) f e = absurd (cc e)

-- where the words ask for nothing, Usage comes, or memory was wanting
pub unknown_of : (words : List (List ℕ)) (left left' : Option (List ℕ)) (read read' : ℕ) (held held' : Option (List ℕ)) (write write' : ℕ) (done : Result (Unit {0}) Failure)
    → OnOk done (Asked words (λ task. Done task left left' held held')) → IfErr done (CallFails words left left' read read' held held' write write')
    → AskNothing words → (status_of done ≡ StatusUsage) ⊎ (status_of done ≡ NoMemory)
unknown_of words left left' read read' held held' write write' (Ok u) d f n = absurd (n d.0 d.1)
unknown_of words left left' read read' held held' write write' (Err Usage) d f n = inl refl
unknown_of words left left' read read' held held' write write' (Err (Refusal said)) d f n = absurd (n f.0.0 f.0.1)
unknown_of words left left' read read' held held' write write' (Err Read) d f n = absurd (n f.0.0 f.0.1)
unknown_of words left left' read read' held held' write write' (Err Write) d f n = absurd (n f.1.0 f.1.1)
unknown_of words left left' read read' held held' write write' (Err Memory) d f n = inr refl

-- a read fault comes where the task reads and the count of the source rose
pub read_of : (words : List (List ℕ)) (left left' : Option (List ℕ)) (read read' : ℕ) (held held' : Option (List ℕ)) (write write' : ℕ) (done : Result (Unit {0}) Failure)
    → IfErr done (CallFails words left left' read read' held held' write write') → status_of done ≡ ReadFault → Asked words (λ task. ReadFailed (origin_of task) read read')
read_of words left left' read read' held held' write write' (Ok u) f e = absurd (cc e)
read_of words left left' read read' held held' write write' (Err Usage) f e = absurd (cc e)
read_of words left left' read read' held held' write write' (Err (Refusal said)) f e = absurd (cc e)
read_of words left left' read read' held held' write write' (Err Read) f e = f.0
read_of words left left' read read' held held' write write' (Err Write) f e = absurd (cc e)
read_of words left left' read read' held held' write write' (Err Memory) f e = absurd (cc e)

-- a write fault comes where the count of the sink rose
pub write_of : (words : List (List ℕ)) (left left' : Option (List ℕ)) (read read' : ℕ) (held held' : Option (List ℕ)) (write write' : ℕ) (done : Result (Unit {0}) Failure)
    → IfErr done (CallFails words left left' read read' held held' write write') → status_of done ≡ WriteFault → Rose write write'
write_of words left left' read read' held held' write write' (Ok u) f e = absurd (cc e)
write_of words left left' read read' held held' write write' (Err Usage) f e = absurd (cc e)
write_of words left left' read read' held held' write write' (Err (Refusal said)) f e = absurd (cc e)
write_of words left left' read read' held held' write write' (Err Read) f e = absurd (cc e)
write_of words left left' read read' held held' write write' (Err Write) f e = f.0
write_of words left left' read read' held held' write write' (Err Memory) f e = absurd (cc e)

-- with a quiet status nothing was written
pub quiet_of : (words : List (List ℕ)) (left left' : Option (List ℕ)) (read read' : ℕ) (held held' : Option (List ℕ)) (write write' : ℕ) (done : Result (Unit {0}) Failure)
    → IfErr done (CallFails words left left' read read' held held' write write') → IsQuiet (status_of done) → held' ≡ held
quiet_of words left left' read read' held held' write write' (Ok u) f q = absurd q
quiet_of words left left' read read' held held' write write' (Err Usage) f q = f.1
quiet_of words left left' read read' held held' write write' (Err (Refusal said)) f q = f.1
quiet_of words left left' read read' held held' write write' (Err Read) f q = f.1
quiet_of words left left' read read' held held' write write' (Err Write) f q = absurd q
quiet_of words left left' read read' held held' write write' (Err Memory) f q = absurd q

-- after a write fault or want of memory a part may have been written
pub partial_of : (words : List (List ℕ)) (left left' : Option (List ℕ)) (read read' : ℕ) (held held' : Option (List ℕ)) (write write' : ℕ) (done : Result (Unit {0}) Failure)
    → IfErr done (CallFails words left left' read read' held held' write write') → IsStopped (status_of done) → IsPartial words left left' held held'
partial_of words left left' read read' held held' write write' (Ok u) f p = absurd p
partial_of words left left' read read' held held' write write' (Err Usage) f p = absurd p
partial_of words left left' read read' held held' write write' (Err (Refusal said)) f p = absurd p
partial_of words left left' read read' held held' write write' (Err Read) f p = absurd p
partial_of words left left' read read' held held' write write' (Err Write) f p = inr f.1
partial_of words left left' read read' held held' write write' (Err Memory) f p = f

-- a call that ends refused has refused what it read
pub refused_of : (words : List (List ℕ)) (left left' : Option (List ℕ)) (read read' : ℕ) (held held' : Option (List ℕ)) (write write' : ℕ) (done : Result (Unit {0}) Failure)
    → IfErr done (CallFails words left left' read read' held held' write write') → status_of done ≡ Refused
    → Asked words (λ task. IsRefused (origin_of task) left left' (refusal_of done))
refused_of words left left' read read' held held' write write' (Ok u) f e = absurd (cc e)
refused_of words left left' read read' held held' write write' (Err Usage) f e = absurd (cc e)
refused_of words left left' read read' held held' write write' (Err (Refusal said)) f e = f.0
refused_of words left left' read read' held held' write write' (Err Read) f e = absurd (cc e)
refused_of words left left' read read' held held' write write' (Err Write) f e = absurd (cc e)
refused_of words left left' read read' held held' write write' (Err Memory) f e = absurd (cc e)

-- what is offered is not refused
told_not_refused : (origin : Origin) (left left' : Option (List ℕ)) (said : List ℕ) → Offers origin left → IsRefused origin left left' said → ⊥
told_not_refused (reads form) left left' said o g = spelled_not_refused form left left' said o g
told_not_refused reads_bank left left' said o (inl g) = spelled_not_refused Text left left' said (o.0, o.1, o.2, o.3) g
told_not_refused reads_bank left left' said o (inr g) =
    let bytes : o.0 ≡ g.has.bytes = all_told left left' o.0 g.has.bytes o.2 g.has.consumed (inr g.has.ended) o.3.short in
    let scene : o.1 ≡ g.scene =
    one_scene_of g.has.bytes o.1 g.scene o.3.scene_ g.has.spelled.scene_ (subst (λ (xs : List ℕ). IsText xs o.1) bytes o.3.spelled) g.has.spelled.spelled in
    g.reason.0 (accounts_of g.scene) (amounts_of g.scene) (subst IsBankScene scene o.4)
told_not_refused reads_history left left' said o g = spelled_not_refused History left left' said o g
told_not_refused (makes seed) left left' said o g = g

-- the one task of the words has what another task of the words has
of_task : {words : List (List ℕ)} (P : Task → Type 0) (task : Task) → AskFor words task → Asked words P → P task
of_task {words} P task q a = subst P (one_task words a.0 task a.1 q) a.2

-- where the words ask for a task and its scene is offered, the status is Ok or want of memory
pub complete_of : (words : List (List ℕ)) (left left' : Option (List ℕ)) (read read' : ℕ) (held held' : Option (List ℕ)) (write write' : ℕ) (done : Result (Unit {0}) Failure)
    → IfErr done (CallFails words left left' read read' held held' write write') → (task : Task) → AskFor words task
    → CompletesFrom (origin_of task) left read read' write write' (status_of done)
complete_of words left left' read read' held held' write write' (Ok u) f task q o r w = inl refl
complete_of words left left' read read' held held' write write' (Err Usage) f task q o r w = absurd (f.0 task q)
complete_of words left left' read read' held held' write write' (Err (Refusal said)) f task q o r w =
    absurd (told_not_refused (origin_of task) left left' said.items o (of_task (λ t. IsRefused (origin_of t) left left' said.items) task q f.0))
complete_of words left left' read read' held held' write write' (Err Read) f task q o r w = absurd (r (of_task (λ t. ReadFailed (origin_of t) read read') task q f.0))
complete_of words left left' read read' held held' write write' (Err Write) f task q o r w = absurd (w f.0)
complete_of words left left' read read' held held' write write' (Err Memory) f task q o r w = inr refl

-- no scene and no history is read from an input that spells none
none_read : (origin : Origin) (left left' : Option (List ℕ)) (subject : Subject origin) → OffersNone origin left → HasSubject origin left left' subject → ⊥
none_read (reads form) left left' scene o h = unspelled_not_read form left left' scene o h
none_read reads_bank left left' scene o h =
    let same : o.0 ≡ h.0.bytes = all_read left left' o.0 h.0.bytes o.1 h.0.consumed (inr h.0.ended) h.0.spelled.short in
    o.2 scene (subst (λ (xs : List ℕ). IsSpelled Text xs scene) (sym same) h.0.spelled) h.1
none_read reads_history left left' a o h = no_history_not_read left left' a.scene a.answers o h.0
none_read (makes seed) left left' scene o h = o

-- where the words ask for a task and what is told spells nothing for it, it is refused, or memory was wanting
pub refuses_of : (words : List (List ℕ)) (left left' : Option (List ℕ)) (read read' : ℕ) (held held' : Option (List ℕ)) (write write' : ℕ) (done : Result (Unit {0}) Failure)
    → OnOk done (Asked words (λ task. Done task left left' held held')) → IfErr done (CallFails words left left' read read' held held' write write')
    → (task : Task) → AskFor words task → RefusesFrom (origin_of task) left read read' (status_of done)
refuses_of words left left' read read' held held' write write' (Ok u) d f task q o r =
    let g = of_task (λ t. Done t left left' held held') task q d in absurd (none_read (origin_of task) left left' g.subject o g.has)
refuses_of words left left' read read' held held' write write' (Err Usage) d f task q o r = absurd (f.0 task q)
refuses_of words left left' read read' held held' write write' (Err (Refusal said)) d f task q o r = inl refl
refuses_of words left left' read read' held held' write write' (Err Read) d f task q o r = absurd (r (of_task (λ t. ReadFailed (origin_of t) read read') task q f.0))
refuses_of words left left' read read' held held' write write' (Err Write) d f task q o r =
    let g = of_task (λ t. PartlyDone t left left' held held') task q f.1 in absurd (none_read (origin_of task) left left' g.subject o g.has)
refuses_of words left left' read read' held held' write write' (Err Memory) d f task q o r = inr refl

-- a task of the words reads nothing where that is told of one
pub reads_nothing : (words : List (List ℕ)) (task : Task) → AskFor words task → Asked words (λ t. ReadsNothing (origin_of t)) → ReadsNothing (origin_of task)
reads_nothing words task q a = of_task (λ t. ReadsNothing (origin_of t)) task q a

-- the same of the status that a call ends with
pub completes : (words : List (List ℕ)) (left left' : Option (List ℕ)) (read read' : ℕ) (held held' : Option (List ℕ)) (write write' : ℕ) (done : Result (Unit {0}) Failure) (status : Status)
    → status ≡ status_of done → IfErr done (CallFails words left left' read read' held held' write write') → Completes words left read read' write write' status
completes words left left' read read' held held' write write' done status s f task q =
    subst (λ (k : Status). CompletesFrom (origin_of task) left read read' write write' k) (sym s) (complete_of words left left' read read' held held' write write' done f task q)

pub refuses : (words : List (List ℕ)) (left left' : Option (List ℕ)) (read read' : ℕ) (held held' : Option (List ℕ)) (write write' : ℕ) (done : Result (Unit {0}) Failure) (status : Status)
    → status ≡ status_of done → OnOk done (Asked words (λ task. Done task left left' held held')) → IfErr done (CallFails words left left' read read' held held' write write')
    → Refuses words left read read' status
refuses words left left' read read' held held' write write' done status s d f task q =
    subst (λ (k : Status). RefusesFrom (origin_of task) left read read' k) (sym s) (refuses_of words left left' read read' held held' write write' done d f task q)
