-- Why a step of a call failed.
use Rattle.bank_book.specs.Books.{IsReason}
use Rattle.bank_book.specs.declared.books.BookFault.TheVariants.{Not}
use Rattle.std.specs.Prelude.{List, Option, ℕ, ⊤, ◌≡◌, ◌⊎◌}
use Rattle.str_outer.specs.Causes.{Rose}
use Rattle.str_scene.specs.Scenes.{Scene}
use Rattle.str_scene.specs.declared.names.TxPlace.{TxPlace}
use Rattle.strun.specs.Inputs.{IsRefused, ReadFailed, not_bank_said, origin_of}
use Rattle.strun.specs.Tops.{Asked, IsPartial, PartlyDone}
use Rattle.strun_words.specs.Tasks.{AskNothing}
use Rattle.strun_words.specs.declared.task.Task.{Task}
use Rattle.top_status.specs.declared.failure.Failure.{Failure}
use Rattle.top_status.specs.declared.failure.Failure.TheVariants.{Memory, Read, Refused as Refusal, Usage, Write}

-- why a scene is refused that was to be a bank's
abbrev pub RefusesScene : Scene → Failure → Type 0
RefusesScene scene (Refusal said) = (place : TxPlace) × IsReason scene (Not place) × (said.items ≡ not_bank_said place)
RefusesScene scene Memory = ⊤
RefusesScene scene _ = ⊥

-- why a task failed, and what was written until then
abbrev pub TaskFails : Task → Option (List ℕ) → Option (List ℕ) → ℕ → ℕ → Option (List ℕ) → Option (List ℕ) → ℕ → ℕ → Failure → Type 0
TaskFails task left left' read read' held held' write write' Usage = ⊥
TaskFails task left left' read read' held held' write write' (Refusal said) = IsRefused (origin_of task) left left' said.items × (held' ≡ held)
TaskFails task left left' read read' held held' write write' Read = ReadFailed (origin_of task) read read' × (held' ≡ held)
TaskFails task left left' read read' held held' write write' Write = Rose write write' × PartlyDone task left left' held held'
TaskFails task left left' read read' held held' write write' Memory = (held' ≡ held) ⊎ PartlyDone task left left' held held'

-- why no task was done: the words ask for nothing or memory was wanting, or the task that they ask for failed
abbrev pub CallFails : List (List ℕ) → Option (List ℕ) → Option (List ℕ) → ℕ → ℕ → Option (List ℕ) → Option (List ℕ) → ℕ → ℕ → Failure → Type 0
CallFails words left left' read read' held held' write write' Usage = AskNothing words × (held' ≡ held)
CallFails words left left' read read' held held' write write' (Refusal said) =
    Asked words (λ task. IsRefused (origin_of task) left left' said.items) × (held' ≡ held)
CallFails words left left' read read' held held' write write' Read = Asked words (λ task. ReadFailed (origin_of task) read read') × (held' ≡ held)
CallFails words left left' read read' held held' write write' Write = Rose write write' × Asked words (λ task. PartlyDone task left left' held held')
CallFails words left left' read read' held held' write write' Memory = IsPartial words left left' held held'
