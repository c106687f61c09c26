-- What the top call promises, in one form for every list of words: `words_of` has the lists, and `origin_of`, `output` and `Promised` what
-- each of them reads, writes and promises.
use Rattle.std.specs.Io.KnownBytes.{Appends}
use Rattle.std.specs.Prelude.{List, Option, codes, ℕ, ◌≡◌, ◌⊎◌}
use Rattle.str_outer.specs.Causes.{Rose}
use Rattle.str_outer.specs.Pieces.{AppendsPrefix}
use Rattle.strun.specs.Inputs.{HasSubject, IsRefused, Offers, OffersNone, Origin, ReadFailed, Subject, origin_of}
use Rattle.strun.specs.Outputs.{Promised, output}
use Rattle.strun_words.specs.Tasks.{AskFor}
use Rattle.strun_words.specs.declared.task.Task.{Task}
use Rattle.top_status.specs.Statuses.{line_of}
use Rattle.top_status.specs.Telling.{Tells}
use Rattle.top_status.specs.declared.status.Status.{Status}
use Rattle.top_status.specs.declared.status.Status.TheVariants.{NoMemory, Ok as StatusOk, Refused}

-- the program's name
abbrev pub own_name : List ℕ
own_name = codes "strun"

-- the words ask for a task of which this holds
abbrev pub Asked : List (List ℕ) → (Task → Type 0) → Type 0
Asked words Holds = (task : Task) × AskFor words task × Holds task

-- what a task has done where the status is Ok
pub record Done (task : Task) (left left' held held' : Option (List ℕ)) : Type 0 where
  -- it worked on this scene, or on this history with what its audit finds
  pub subject : Subject (origin_of task)
  pub has : HasSubject (origin_of task) left left' subject
  -- what the task writes of it was written, and what is promised of that holds
  pub written : Appends held held' (output task subject)
  pub promised : Promised task subject

-- the task had what it works on, and a prefix of what it writes of it was written
pub record PartlyDone (task : Task) (left left' held held' : Option (List ℕ)) : Type 0 where
  pub subject : Subject (origin_of task)
  pub has : HasSubject (origin_of task) left left' subject
  pub written : AppendsPrefix held held' (output task subject)

-- nothing was written, or a prefix of what the task writes
abbrev pub IsPartial : List (List ℕ) → Option (List ℕ) → Option (List ℕ) → Option (List ℕ) → Option (List ℕ) → Type 0
IsPartial words left left' held held' = (held' ≡ held) ⊎ Asked words (λ task. PartlyDone task left left' held held')

-- standard error grew by the line of the status, or by a prefix of it where one of its counts rose; that of a refusal says why what was
-- read is refused
pub record IsTold {E : Type 0} (words : List (List ℕ)) (left left' : Option (List ℕ)) (status : Status) (held : E → Option (List ℕ)) (faults wants : E → ℕ) (err err' : E) : Type 0 where
  pub said : List ℕ
  pub refused : status ≡ Refused → Asked words (λ task. IsRefused (origin_of task) left left' said)
  pub tells : Tells (line_of own_name said status) (held err) (held err') (faults err) (faults err') (wants err) (wants err')

-- where a scene or a history is told, or none is to be read, and no read and no write failed, the status is Ok or want of memory
abbrev pub CompletesFrom : Origin → Option (List ℕ) → ℕ → ℕ → ℕ → ℕ → Status → Type 0
CompletesFrom origin left read read' write write' status =
    Offers origin left → ¬ ReadFailed origin read read' → ¬ Rose write write' → (status ≡ StatusOk) ⊎ (status ≡ NoMemory)

-- completeness: this holds of the task that the words ask for
abbrev pub Completes : List (List ℕ) → Option (List ℕ) → ℕ → ℕ → ℕ → ℕ → Status → Type 0
Completes words left read read' write write' status = (task : Task) → AskFor words task → CompletesFrom (origin_of task) left read read' write write' status

-- where bytes are told that spell none and no read failed, they are refused, or memory was wanting
abbrev pub RefusesFrom : Origin → Option (List ℕ) → ℕ → ℕ → Status → Type 0
RefusesFrom origin left read read' status = OffersNone origin left → ¬ ReadFailed origin read read' → (status ≡ Refused) ⊎ (status ≡ NoMemory)

-- this holds of the task that the words ask for
abbrev pub Refuses : List (List ℕ) → Option (List ℕ) → ℕ → ℕ → Status → Type 0
Refuses words left read read' status = (task : Task) → AskFor words task → RefusesFrom (origin_of task) left read read' status
