use Rattle.clap.specs.Words.{subcommand_rows_of}
use Rattle.std.proofs.Common.{map, ◌∙◌}
use Rattle.strun_words.proofs.Asked.{parse_failed, task_found}
use Rattle.strun_words.proofs.parse.find_task.Goals as goal

pub returns-in-Ok-clause-found : goal.returns-in-Ok-clause-found
returns-in-Ok-clause-found c =
    λ task q. task_found (map (λ w. w.now) c.args.words.now) (subcommand_rows_of c.in-Ok.matches) c.task_of.result task c.in-Ok.ensures.found c.task_of.ensures q

pub returns-in-Err-clause-unasked : goal.returns-in-Err-clause-unasked
returns-in-Err-clause-unasked c =
    parse_failed (map (λ w. w.now) c.args.words.now) c.kind.result c.failure_of.result (λ t. c.kind.ensures ∙ c.in-Err.ensures.taken t) c.failure_of.ensures
