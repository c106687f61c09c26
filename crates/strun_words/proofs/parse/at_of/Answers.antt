use Rattle.clap.specs.Words.{found_of}
use Rattle.std.proofs.Common.{Some, ap, ◌∙◌, ◌≡◌}
use Rattle.strun_words.proofs.Named.{at_named}
use Rattle.strun_words.proofs.parse.at_of.Goals as goal
use Rattle.strun_words.specs.declared.task.Task.TheVariants.{At}

pub returns-in_err-time : goal.returns-in_err-time
returns-in_err-time c = λ task e h.
    c.from_residual.ensures ∙ at_named (found_of c.args.given.now) task e h (λ n q g. absurd (cc (c.in_err-time.ensures n g)))

pub returns : goal.returns
returns c = λ task e h.
    at_named (found_of c.args.given.now) task e h (λ n q g.
    let same : c.in_ok-time.time ≡ n = cc (c.in_ok-time.ensures n g) in ap Some (ap At same ∙ q))
