-- What a parse tells of the words that were given.
use Rattle.clap.specs.Words.{Row, Text, subcommand_of, takes}
use Rattle.clap.specs.declared.error.kind.ErrorKind.{ErrorKind}
use Rattle.clap.specs.declared.error.kind.ErrorKind.TheVariants.{OutOfMemory}
use Rattle.std.proofs.Common.{List, None, Option, Some, ap, subst, sym, true, ◌∙◌, ◌≡◌}
use Rattle.std.specs.Prelude.{ℕ}
use Rattle.strun_words.proofs.Found.{words_found, words_taken}
use Rattle.strun_words.specs.Parsing.{Finds, IsFailureOf, program}
use Rattle.strun_words.specs.Tasks.{AskFor, AskNothing, IsUnasked, words_of}
use Rattle.strun_words.specs.declared.task.Task.{Task}
use Rattle.top_status.specs.declared.failure.Failure.{Failure}
use Rattle.top_status.specs.declared.failure.Failure.TheVariants.{Memory, Read, Refused, Usage, Write}

-- a parse that fails: the words ask for nothing, or memory was wanting
pub parse_failed : (words : List (List ℕ)) (kind : ErrorKind) (f : Failure) → (takes program words ≡ true → kind ≡ OutOfMemory) → IsFailureOf kind f → IsUnasked words f
parse_failed words kind Usage h n = λ task q. n (h (ap (takes program) q.same ∙ words_taken task q.is_task))
parse_failed words kind Memory h n = tt
parse_failed words kind Read h n = absurd n
parse_failed words kind Write h n = absurd n
parse_failed words kind (Refused said) h n = absurd n

-- what is found in the words of a task
pub task_found : (words : List (List ℕ)) (found : Option (Text × List Row)) (got : Option Task) (task : Task) → found ≡ subcommand_of program words
    → ((t : Task) → Finds found t → got ≡ Some t) → AskFor words task → got ≡ Some task
task_found words found got task f g q =
    let same : subcommand_of program (words_of task) ≡ found = ap (subcommand_of program) (sym q.same) ∙ sym f in
    g task (subst (λ (x : Option (Text × List Row)). Finds x task) same (words_found task q.is_task))

-- the task of the words is the one that was found
asked_found : (words texts : List (List ℕ)) (got : Option Task) (task : Task) → texts ≡ words → ((t : Task) → AskFor texts t → got ≡ Some t) → AskFor words task → got ≡ Some task
asked_found words texts got task e h q = h task (record { is_task = q.is_task; same = e ∙ q.same })

-- no task was found
pub nothing_found : (words texts : List (List ℕ)) (got : Option Task) → texts ≡ words → ((task : Task) → AskFor texts task → got ≡ Some task) → got ≡ None → AskNothing words
nothing_found words texts got e h n task q = absurd (cc (asked_found words texts got task e h q, n))

-- a task of other words was found
pub other_found : (words texts : List (List ℕ)) (got : Option Task) (other : Task) → texts ≡ words → ((task : Task) → AskFor texts task → got ≡ Some task) → got ≡ Some other
    → ¬ (texts ≡ words_of other) → AskNothing words
other_found words texts got other e h o n task q =
    let same : task ≡ other = cc (asked_found words texts got task e h q, o) in
    n (e ∙ (q.same ∙ ap words_of same))
