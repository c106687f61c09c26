-- The command as `clap` reads it, and what it finds in the words of a task.
use Rattle.clap.specs.Words.{App, Row, Rule, Text, first_of, new_app, new_rule, one_of, with_rule, with_subcommand}
use Rattle.clap.specs.declared.builder.action.ArgAction.TheVariants.{Set, SetTrue}
use Rattle.clap.specs.declared.error.kind.ErrorKind.{ErrorKind}
use Rattle.clap.specs.declared.error.kind.ErrorKind.TheVariants.{OutOfMemory}
use Rattle.std.specs.Prelude.{Bool, List, None, Option, Some, codes, decimal, false, true, ⊤, ℕ, ◌<◌, ◌^◌, ◌≡◌}
use Rattle.strun_words.specs.declared.task.Task.{Task}
use Rattle.strun_words.specs.declared.task.Task.TheVariants.{At, Audit, Bank, Generate, Pack, Run, RunPruned, Show}
use Rattle.top_status.specs.declared.failure.Failure.{Failure}
use Rattle.top_status.specs.declared.failure.Failure.TheVariants.{Memory, Usage}

-- a flag `--NAME`
abbrev pub flag : Text → Rule
flag name = record (new_rule name) { long = Some name; action = Some SetTrue }

-- the number behind `gen`
abbrev pub seed_rule : Rule
seed_rule = record (new_rule (codes "seed")) { action = Some Set }

-- the subcommands
abbrev pub run_command : App
run_command = with_rule (with_rule (with_rule (new_app (codes "run")) (flag (codes "frames"))) (flag (codes "journal"))) (flag (codes "prune"))

abbrev pub pack_command : App
pack_command = new_app (codes "pack")

abbrev pub show_command : App
show_command = new_app (codes "show")

abbrev pub generate_command : App
generate_command = with_rule (with_rule (new_app (codes "gen")) seed_rule) (flag (codes "run"))

abbrev pub bank_command : App
bank_command = new_app (codes "bank")

abbrev pub audit_command : App
audit_command = new_app (codes "audit")

-- the number behind `at`
abbrev pub time_rule : Rule
time_rule = record (new_rule (codes "time")) { action = Some Set }

abbrev pub at_command : App
at_command = with_rule (new_app (codes "at")) time_rule

-- the command, whose words have no program's name in front
abbrev pub plain_command : App
plain_command = let a = new_app (codes "strun") in record a { top = record a.top { no_binary_name = true } }

-- the command with its subcommands
abbrev pub program : App
program =
    with_subcommand
    (with_subcommand
    (with_subcommand
    (with_subcommand
    (with_subcommand (with_subcommand (with_subcommand plain_command run_command.top) pack_command.top) show_command.top)
    generate_command.top)
    bank_command.top)
    audit_command.top)
    at_command.top

-- the value of a flag as text
abbrev pub flag_text : Bool → Text
flag_text true = codes "true"
flag_text false = codes "false"

-- a flag has this value
abbrev pub HasFlag : Text → Bool → List Row → Type 0
HasFlag name value rows = one_of name rows ≡ Some (flag_text value)

-- an argument is the decimal of this number of 64 bits
abbrev pub HasNumber : Text → ℕ → List Row → Type 0
HasNumber name number rows = (number < 2 ^ 64) × (first_of name rows ≡ Some (decimal number))

-- the name of a task's subcommand
abbrev pub name_of : Task → Text
name_of (Run frames journal) = codes "run"
name_of RunPruned = codes "run"
name_of Pack = codes "pack"
name_of Show = codes "show"
name_of (Generate seed run) = codes "gen"
name_of Bank = codes "bank"
name_of Audit = codes "audit"
name_of (At time) = codes "at"

-- the arguments are those of the task
abbrev pub HasArguments : Task → List Row → Type 0
HasArguments (Run frames journal) rows = HasFlag (codes "frames") frames rows × HasFlag (codes "journal") journal rows × HasFlag (codes "prune") false rows
HasArguments RunPruned rows = HasFlag (codes "prune") true rows
HasArguments Pack rows = ⊤
HasArguments Show rows = ⊤
HasArguments (Generate seed run) rows = HasNumber (codes "seed") seed rows × HasFlag (codes "run") run rows
HasArguments Bank rows = ⊤
HasArguments Audit rows = ⊤
HasArguments (At time) rows = HasNumber (codes "time") time rows

-- the subcommand and the arguments that were found are those of the task
abbrev pub Finds : Option (Text × List Row) → Task → Type 0
Finds None task = ⊥
Finds (Some p) task = (p.0 ≡ name_of task) × HasArguments task p.1

-- a parse that fails for want of memory comes to that, and any other to Usage
abbrev pub IsFailureOf : ErrorKind → Failure → Type 0
IsFailureOf kind Memory = kind ≡ OutOfMemory
IsFailureOf kind Usage = ¬ (kind ≡ OutOfMemory)
IsFailureOf kind _ = ⊥
