-- What a program promises that reads the text of a scene, has a run of it, and writes that run with its journal. `Asks` says that the words
-- after its name are its own, and `Fits scene events` that its run of the scene may have these events.
use Rattle.run_io.specs.Inputs.{HasRead, HasRefused, TellsNoSpelling, TellsSpelling}
use Rattle.run_io.specs.declared.inputs.Form.TheVariants.{Text}
use Rattle.std.specs.Io.KnownBytes.{Appends}
use Rattle.std.specs.Prelude.{List, Option, ℕ, ◌≡◌, ◌⊎◌}
use Rattle.str_model.specs.Lines.{render_j}
use Rattle.str_model.specs.Runs.{run}
use Rattle.str_outer.specs.Causes.{Rose}
use Rattle.str_outer.specs.Pieces.{AppendsPrefix}
use Rattle.str_scene.specs.Scenes.{Scene}
use Rattle.str_scene.specs.declared.names.Event.{Event}
use Rattle.top_status.specs.Statuses.{line_of}
use Rattle.top_status.specs.Telling.{Tells}
use Rattle.top_status.specs.declared.failure.Failure.{Failure}
use Rattle.top_status.specs.declared.failure.Failure.TheVariants.{Memory, Read, Refused as Refusal, Usage, Write}
use Rattle.top_status.specs.declared.status.Status.{Status}
use Rattle.top_status.specs.declared.status.Status.TheVariants.{NoMemory, Ok as StatusOk, Refused}

-- what is done where the status is Ok: this scene was read, and what a run of it renders with its journal was written
pub record RunDone (Fits : Scene → List Event → Type 0) (left left' held held' : Option (List ℕ)) : Type 0 where
  pub scene : Scene
  pub has : HasRead Text left left' scene
  pub events : List Event
  pub fits : Fits scene events
  pub written : Appends held held' (render_j scene (run scene events))

-- a scene was read, and a prefix of what a run of it renders was written
pub record RunPartlyDone (Fits : Scene → List Event → Type 0) (left left' held held' : Option (List ℕ)) : Type 0 where
  pub scene : Scene
  pub has : HasRead Text left left' scene
  pub events : List Event
  pub fits : Fits scene events
  pub written : AppendsPrefix held held' (render_j scene (run scene events))

-- nothing was written, or a prefix of what such a run renders
abbrev pub IsRunPart : (Scene → List Event → Type 0) → Option (List ℕ) → Option (List ℕ) → Option (List ℕ) → Option (List ℕ) → Type 0
IsRunPart Fits left left' held held' = (held' ≡ held) ⊎ RunPartlyDone Fits left left' held held'

-- standard error grew by the line of the status, or by a prefix of it where one of its counts rose; that of a refusal says why what was read
-- is refused
pub record RunTells {E : Type 0} (name : List ℕ) (left left' : Option (List ℕ)) (status : Status) (held : E → Option (List ℕ)) (faults wants : E → ℕ) (err err' : E) : Type 0 where
  pub said : List ℕ
  pub refused : status ≡ Refused → HasRefused Text left left' said
  pub tells : Tells (line_of name said status) (held err) (held err') (faults err) (faults err') (wants err) (wants err')

-- completeness: where the words are its own, a scene is told, and no read and no write failed, the status is Ok or want of memory
abbrev pub RunCompletes : Type 0 → Option (List ℕ) → ℕ → ℕ → ℕ → ℕ → Status → Type 0
RunCompletes Asks left read read' write write' status =
    Asks → TellsSpelling Text left → ¬ Rose read read' → ¬ Rose write write' → (status ≡ StatusOk) ⊎ (status ≡ NoMemory)

-- where the words are its own, bytes are told that spell no scene, and no read failed, they are refused, or memory was wanting
abbrev pub RunRefuses : Type 0 → Option (List ℕ) → ℕ → ℕ → Status → Type 0
RunRefuses Asks left read read' status = Asks → TellsNoSpelling Text left → ¬ Rose read read' → (status ≡ Refused) ⊎ (status ≡ NoMemory)

-- why no run was written whole: the words are not its own, what was read is refused, a read or a write failed, or memory was wanting
abbrev pub RunFails : Type 0 → (Scene → List Event → Type 0) → Option (List ℕ) → Option (List ℕ) → ℕ → ℕ → Option (List ℕ) → Option (List ℕ) → ℕ → ℕ → Failure → Type 0
RunFails Asks Fits left left' read read' held held' write write' Usage = (¬ Asks) × (held' ≡ held)
RunFails Asks Fits left left' read read' held held' write write' (Refusal said) = Asks × HasRefused Text left left' said.items × (held' ≡ held)
RunFails Asks Fits left left' read read' held held' write write' Read = Asks × Rose read read' × (held' ≡ held)
RunFails Asks Fits left left' read read' held held' write write' Write = Asks × Rose write write' × RunPartlyDone Fits left left' held held'
RunFails Asks Fits left left' read read' held held' write write' Memory = Asks × IsRunPart Fits left left' held held'
