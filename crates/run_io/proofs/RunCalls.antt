-- What the status says of a program's call that reads a scene and writes a run of it.
use Rattle.run_io.proofs.Offered.{spelled_not_refused, unspelled_not_read}
use Rattle.run_io.specs.Inputs.{HasRead, HasRefused, InputFails}
use Rattle.run_io.specs.RunCalls.{IsRunPart, RunCompletes, RunDone, RunFails, RunPartlyDone, RunRefuses}
use Rattle.run_io.specs.declared.inputs.Form.TheVariants.{Text}
use Rattle.std.proofs.Common.{Err, IfErr, List, Ok, OnErr, OnOk, Option, Result, inl, inr, refl, subst, sym, ℕ, ◌≡◌, ◌⊎◌}
use Rattle.std.specs.Io.KnownBytes.{Appends}
use Rattle.str_model.specs.Lines.{render_j}
use Rattle.str_model.specs.Runs.{World, run}
use Rattle.str_outer.specs.Causes.{Rose}
use Rattle.str_outer.specs.Pieces.{AppendsPrefix}
use Rattle.str_scene.specs.Scenes.{Scene}
use Rattle.str_scene.specs.declared.names.Event.{Event}
use Rattle.top_status.specs.Failures.{HasWriteCause, refusal_of, status_of}
use Rattle.top_status.specs.Statuses.{IsQuiet, IsStopped}
use Rattle.top_status.specs.declared.failure.Failure.{Failure}
use Rattle.top_status.specs.declared.failure.Failure.TheVariants.{Memory, Read, Refused as Refusal, Usage, Write}
use Rattle.top_status.specs.declared.status.Status.{Status}
use Rattle.top_status.specs.declared.status.Status.TheVariants.{NoMemory, Ok as StatusOk, ReadFault, Refused, Usage as StatusUsage, WriteFault}

-- ---- what a call comes to

-- the words are not the program's
pub run_unasked : (Asks : Type 0) (Fits : Scene → List Event → Type 0) (left left' : Option (List ℕ)) (read read' : ℕ) (held : Option (List ℕ)) (write write' : ℕ) → ¬ Asks
    → RunFails Asks Fits left left' read read' held held write write' Usage
run_unasked Asks Fits left left' read read' held write write' n = (n, refl)

-- nothing came of what was read
pub run_unread : (Asks : Type 0) (Fits : Scene → List Event → Type 0) (left left' : Option (List ℕ)) (read read' : ℕ) (held : Option (List ℕ)) (write write' : ℕ) (f : Failure) → Asks
    → InputFails Text left left' read read' f → RunFails Asks Fits left left' read read' held held write write' f
run_unread Asks Fits left left' read read' held write write' (Refusal said) a h = (a, h, refl)
run_unread Asks Fits left left' read read' held write write' Read a h = (a, h, refl)
run_unread Asks Fits left left' read read' held write write' Memory a h = (a, inl refl)
run_unread Asks Fits left left' read read' held write write' Usage a h = absurd h
run_unread Asks Fits left left' read read' held write write' Write a h = absurd h

-- memory was wanting before anything was written
pub run_unmade : (Asks : Type 0) (Fits : Scene → List Event → Type 0) (left left' : Option (List ℕ)) (read read' : ℕ) (held : Option (List ℕ)) (write write' : ℕ) → Asks
    → RunFails Asks Fits left left' read read' held held write write' Memory
run_unmade Asks Fits left left' read read' held write write' a = (a, inl refl)

-- the run was written
pub run_done : {E : Type 0} (Fits : Scene → List Event → Type 0) (left left' held held' : Option (List ℕ)) (scene : Scene) (events : List Event) (w : World) (r : Result (Unit {0}) E)
    → HasRead Text left left' scene → Fits scene events → w ≡ run scene events → OnOk r (Appends held held' (render_j scene w)) → OnOk r (RunDone Fits left left' held held')
run_done Fits left left' held held' scene events w (Err e) h f q o = tt
run_done Fits left left' held held' scene events w (Ok u) h f q o =
    record { scene = scene; has = h; events = events; fits = f; written = subst (λ (v : World). Appends held held' (render_j scene v)) q o }

-- writing it failed
pub run_unwritten : (Asks : Type 0) (Fits : Scene → List Event → Type 0) (left left' : Option (List ℕ)) (read read' : ℕ) (held held' : Option (List ℕ)) (write write' : ℕ) (scene : Scene)
    (events : List Event) (w : World) (r : Result (Unit {0}) Failure) → Asks → HasRead Text left left' scene → Fits scene events → w ≡ run scene events
    → OnErr r (AppendsPrefix held held' (render_j scene w)) → IfErr r (HasWriteCause write write') → IfErr r (RunFails Asks Fits left left' read read' held held' write write')
run_unwritten Asks Fits left left' read read' held held' write write' scene events w (Ok u) a h f q p c = tt
run_unwritten Asks Fits left left' read read' held held' write write' scene events w (Err Write) a h f q p c =
    (a, c, record { scene = scene; has = h; events = events; fits = f; written = subst (λ (v : World). AppendsPrefix held held' (render_j scene v)) q p })
run_unwritten Asks Fits left left' read read' held held' write write' scene events w (Err Memory) a h f q p c =
    (a, inr (record { scene = scene; has = h; events = events; fits = f; written = subst (λ (v : World). AppendsPrefix held held' (render_j scene v)) q p }))
run_unwritten Asks Fits left left' read read' held held' write write' scene events w (Err Usage) a h f q p c = absurd c
run_unwritten Asks Fits left left' read read' held held' write write' scene events w (Err Read) a h f q p c = absurd c
run_unwritten Asks Fits left left' read read' held held' write write' scene events w (Err (Refusal said)) a h f q p c = absurd c

-- ---- what its status says

-- the status Ok comes where all was done
pub done_of : {A : Type 0} (done : Result (Unit {0}) Failure) → OnOk done A → status_of done ≡ StatusOk → A
done_of (Ok u) d e = d
done_of (Err Usage) d e = absurd (cc e)
done_of (Err (Refusal said)) d e = absurd (cc e)
done_of (Err Read) d e = absurd (cc e)
done_of (Err Write) d e = absurd (cc e)
done_of (Err Memory) d e = absurd (cc e)

-- Usage comes where the words are not the program's
pub unasked_of : (Asks : Type 0) (Fits : Scene → List Event → Type 0) (left left' : Option (List ℕ)) (read read' : ℕ) (held held' : Option (List ℕ)) (write write' : ℕ)
    (done : Result (Unit {0}) Failure) → IfErr done (RunFails Asks Fits left left' read read' held held' write write') → status_of done ≡ StatusUsage → ¬ Asks
unasked_of Asks Fits left left' read read' held held' write write' (Ok u) f e = absurd (cc e)
unasked_of Asks Fits left left' read read' held held' write write' (Err Usage) f e = f.0
unasked_of Asks Fits left left' read read' held held' write write' (Err (Refusal said)) f e = absurd (cc e)
unasked_of Asks Fits left left' read read' held held' write write' (Err Read) f e = absurd (cc e)
unasked_of Asks Fits left left' read read' held held' write write' (Err Write) f e = absurd (cc e)
unasked_of Asks Fits left left' read read' held held' write write' (Err Memory) f e = absurd (cc e)

-- and where they are not, it comes
pub usage_comes : (Asks : Type 0) (Fits : Scene → List Event → Type 0) (left left' : Option (List ℕ)) (read read' : ℕ) (held held' : Option (List ℕ)) (write write' : ℕ)
    (done : Result (Unit {0}) Failure) → OnOk done Asks → IfErr done (RunFails Asks Fits left left' read read' held held' write write') → ¬ Asks → status_of done ≡ StatusUsage
usage_comes Asks Fits left left' read read' held held' write write' (Ok u) d f n = absurd (n d)
usage_comes Asks Fits left left' read read' held held' write write' (Err Usage) d f n = refl
usage_comes Asks Fits left left' read read' held held' write write' (Err (Refusal said)) d f n = absurd (n f.0)
usage_comes Asks Fits left left' read read' held held' write write' (Err Read) d f n = absurd (n f.0)
usage_comes Asks Fits left left' read read' held held' write write' (Err Write) d f n = absurd (n f.0)
usage_comes Asks Fits left left' read read' held held' write write' (Err Memory) d f n = absurd (n f.0)

-- a read fault comes where the count of the source rose
pub read_rose : (Asks : Type 0) (Fits : Scene → List Event → Type 0) (left left' : Option (List ℕ)) (read read' : ℕ) (held held' : Option (List ℕ)) (write write' : ℕ)
    (done : Result (Unit {0}) Failure) → IfErr done (RunFails Asks Fits left left' read read' held held' write write') → status_of done ≡ ReadFault → Rose read read'
read_rose Asks Fits left left' read read' held held' write write' (Ok u) f e = absurd (cc e)
read_rose Asks Fits left left' read read' held held' write write' (Err Usage) f e = absurd (cc e)
read_rose Asks Fits left left' read read' held held' write write' (Err (Refusal said)) f e = absurd (cc e)
read_rose Asks Fits left left' read read' held held' write write' (Err Read) f e = f.1
read_rose Asks Fits left left' read read' held held' write write' (Err Write) f e = absurd (cc e)
read_rose Asks Fits left left' read read' held held' write write' (Err Memory) f e = absurd (cc e)

-- a write fault comes where the count of the sink rose
pub write_rose : (Asks : Type 0) (Fits : Scene → List Event → Type 0) (left left' : Option (List ℕ)) (read read' : ℕ) (held held' : Option (List ℕ)) (write write' : ℕ)
    (done : Result (Unit {0}) Failure) → IfErr done (RunFails Asks Fits left left' read read' held held' write write') → status_of done ≡ WriteFault → Rose write write'
write_rose Asks Fits left left' read read' held held' write write' (Ok u) f e = absurd (cc e)
write_rose Asks Fits left left' read read' held held' write write' (Err Usage) f e = absurd (cc e)
write_rose Asks Fits left left' read read' held held' write write' (Err (Refusal said)) f e = absurd (cc e)
write_rose Asks Fits left left' read read' held held' write write' (Err Read) f e = absurd (cc e)
write_rose Asks Fits left left' read read' held held' write write' (Err Write) f e = f.1
write_rose Asks Fits left left' read read' held held' write write' (Err Memory) f e = absurd (cc e)

-- with a quiet status nothing was written
pub nothing_written : (Asks : Type 0) (Fits : Scene → List Event → Type 0) (left left' : Option (List ℕ)) (read read' : ℕ) (held held' : Option (List ℕ)) (write write' : ℕ)
    (done : Result (Unit {0}) Failure) → IfErr done (RunFails Asks Fits left left' read read' held held' write write') → IsQuiet (status_of done) → held' ≡ held
nothing_written Asks Fits left left' read read' held held' write write' (Ok u) f q = absurd q
nothing_written Asks Fits left left' read read' held held' write write' (Err Usage) f q = f.1
nothing_written Asks Fits left left' read read' held held' write write' (Err (Refusal said)) f q = f.2
nothing_written Asks Fits left left' read read' held held' write write' (Err Read) f q = f.2
nothing_written Asks Fits left left' read read' held held' write write' (Err Write) f q = absurd q
nothing_written Asks Fits left left' read read' held held' write write' (Err Memory) f q = absurd q

-- after a write fault or want of memory a part may have been written
pub part_written : (Asks : Type 0) (Fits : Scene → List Event → Type 0) (left left' : Option (List ℕ)) (read read' : ℕ) (held held' : Option (List ℕ)) (write write' : ℕ)
    (done : Result (Unit {0}) Failure) → IfErr done (RunFails Asks Fits left left' read read' held held' write write') → IsStopped (status_of done) → IsRunPart Fits left left' held held'
part_written Asks Fits left left' read read' held held' write write' (Ok u) f p = absurd p
part_written Asks Fits left left' read read' held held' write write' (Err Usage) f p = absurd p
part_written Asks Fits left left' read read' held held' write write' (Err (Refusal said)) f p = absurd p
part_written Asks Fits left left' read read' held held' write write' (Err Read) f p = absurd p
part_written Asks Fits left left' read read' held held' write write' (Err Write) f p = inr f.2
part_written Asks Fits left left' read read' held held' write write' (Err Memory) f p = f.1

-- a call that ends refused has refused what it read
pub input_refused_of : (Asks : Type 0) (Fits : Scene → List Event → Type 0) (left left' : Option (List ℕ)) (read read' : ℕ) (held held' : Option (List ℕ)) (write write' : ℕ)
    (done : Result (Unit {0}) Failure) → IfErr done (RunFails Asks Fits left left' read read' held held' write write') → status_of done ≡ Refused
    → HasRefused Text left left' (refusal_of done)
input_refused_of Asks Fits left left' read read' held held' write write' (Ok u) f e = absurd (cc e)
input_refused_of Asks Fits left left' read read' held held' write write' (Err Usage) f e = absurd (cc e)
input_refused_of Asks Fits left left' read read' held held' write write' (Err (Refusal said)) f e = f.1
input_refused_of Asks Fits left left' read read' held held' write write' (Err Read) f e = absurd (cc e)
input_refused_of Asks Fits left left' read read' held held' write write' (Err Write) f e = absurd (cc e)
input_refused_of Asks Fits left left' read read' held held' write write' (Err Memory) f e = absurd (cc e)

-- where a scene is told and nothing failed, the status is Ok or want of memory
run_complete_of : (Asks : Type 0) (Fits : Scene → List Event → Type 0) (left left' : Option (List ℕ)) (read read' : ℕ) (held held' : Option (List ℕ)) (write write' : ℕ)
    (done : Result (Unit {0}) Failure) → IfErr done (RunFails Asks Fits left left' read read' held held' write write')
    → RunCompletes Asks left read read' write write' (status_of done)
run_complete_of Asks Fits left left' read read' held held' write write' (Ok u) f a o r w = inl refl
run_complete_of Asks Fits left left' read read' held held' write write' (Err Usage) f a o r w = absurd (f.0 a)
run_complete_of Asks Fits left left' read read' held held' write write' (Err (Refusal said)) f a o r w = absurd (spelled_not_refused Text left left' said.items o f.1)
run_complete_of Asks Fits left left' read read' held held' write write' (Err Read) f a o r w = absurd (r f.1)
run_complete_of Asks Fits left left' read read' held held' write write' (Err Write) f a o r w = absurd (w f.1)
run_complete_of Asks Fits left left' read read' held held' write write' (Err Memory) f a o r w = inr refl

pub run_completes : (Asks : Type 0) (Fits : Scene → List Event → Type 0) (left left' : Option (List ℕ)) (read read' : ℕ) (held held' : Option (List ℕ)) (write write' : ℕ)
    (done : Result (Unit {0}) Failure) (status : Status) → status ≡ status_of done → IfErr done (RunFails Asks Fits left left' read read' held held' write write')
    → RunCompletes Asks left read read' write write' status
run_completes Asks Fits left left' read read' held held' write write' done status s f =
    subst (λ (k : Status). RunCompletes Asks left read read' write write' k) (sym s)
    (run_complete_of Asks Fits left left' read read' held held' write write' done f)

-- where what is told spells no scene, it is refused, or memory was wanting
run_refuses_of : (Asks : Type 0) (Fits : Scene → List Event → Type 0) (left left' : Option (List ℕ)) (read read' : ℕ) (held held' : Option (List ℕ)) (write write' : ℕ)
    (done : Result (Unit {0}) Failure) → OnOk done (RunDone Fits left left' held held') → IfErr done (RunFails Asks Fits left left' read read' held held' write write')
    → RunRefuses Asks left read read' (status_of done)
run_refuses_of Asks Fits left left' read read' held held' write write' (Ok u) d f a o r = absurd (unspelled_not_read Text left left' d.scene o d.has)
run_refuses_of Asks Fits left left' read read' held held' write write' (Err Usage) d f a o r = absurd (f.0 a)
run_refuses_of Asks Fits left left' read read' held held' write write' (Err (Refusal said)) d f a o r = inl refl
run_refuses_of Asks Fits left left' read read' held held' write write' (Err Read) d f a o r = absurd (r f.1)
run_refuses_of Asks Fits left left' read read' held held' write write' (Err Write) d f a o r = absurd (unspelled_not_read Text left left' f.2.scene o f.2.has)
run_refuses_of Asks Fits left left' read read' held held' write write' (Err Memory) d f a o r = inr refl

pub run_refuses : (Asks : Type 0) (Fits : Scene → List Event → Type 0) (left left' : Option (List ℕ)) (read read' : ℕ) (held held' : Option (List ℕ)) (write write' : ℕ)
    (done : Result (Unit {0}) Failure) (status : Status) → status ≡ status_of done → OnOk done (RunDone Fits left left' held held')
    → IfErr done (RunFails Asks Fits left left' read read' held held' write write') → RunRefuses Asks left read read' status
run_refuses Asks Fits left left' read read' held held' write write' done status s d f =
    subst (λ (k : Status). RunRefuses Asks left read read' k) (sym s)
    (run_refuses_of Asks Fits left left' read read' held held' write write' done d f)
