-- The lists of words that are taken, and what each asks for.
use Rattle.std.specs.Prelude.{List, [], codes, decimal, false, true, ℕ, ⊤, ◌<◌, ◌^◌, ◌∷◌, ◌≡◌}
use Rattle.strun_words.specs.declared.task.Task.{Task}
use Rattle.strun_words.specs.declared.task.Task.TheVariants.{At, Audit, Bank, Generate, Pack, Run, RunPruned, Show}
use Rattle.top_status.specs.declared.failure.Failure.{Failure}
use Rattle.top_status.specs.declared.failure.Failure.TheVariants.{Memory, Usage}

-- the one list of words that asks for a task; there are no others
abbrev pub words_of : Task → List (List ℕ)
words_of (Run false false) = codes "run" ∷ []
words_of (Run false true) = codes "run" ∷ codes "--journal" ∷ []
words_of (Run true false) = codes "run" ∷ codes "--frames" ∷ []
words_of (Run true true) = codes "run" ∷ codes "--frames" ∷ codes "--journal" ∷ []
words_of RunPruned = codes "run" ∷ codes "--prune" ∷ []
words_of Pack = codes "pack" ∷ []
words_of Show = codes "show" ∷ []
words_of (Generate seed false) = codes "gen" ∷ decimal seed ∷ []
words_of (Generate seed true) = codes "gen" ∷ decimal seed ∷ codes "--run" ∷ []
words_of Bank = codes "bank" ∷ []
words_of Audit = codes "audit" ∷ []
words_of (At time) = codes "at" ∷ decimal time ∷ []

-- a seed has 64 bits, and so has a timestamp
abbrev pub IsTask : Task → Type 0
IsTask (Generate seed run) = seed < 2 ^ 64
IsTask (At time) = time < 2 ^ 64
IsTask _ = ⊤

-- the words ask for the task
pub record AskFor (words : List (List ℕ)) (task : Task) : Type 0 where
  pub is_task : IsTask task
  pub same : words ≡ words_of task

-- the words ask for nothing
abbrev pub AskNothing : List (List ℕ) → Type 0
AskNothing words = (task : Task) → ¬ AskFor words task

-- no task came of the words: they ask for nothing, or memory was wanting
abbrev pub IsUnasked : List (List ℕ) → Failure → Type 0
IsUnasked words Usage = AskNothing words
IsUnasked words Memory = ⊤
IsUnasked words _ = ⊥
