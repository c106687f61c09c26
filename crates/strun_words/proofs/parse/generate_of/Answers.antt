use Rattle.clap.specs.Words.{found_of}
use Rattle.std.proofs.Common.{Some, ap, ap₂, codes, ◌∙◌, ◌≡◌}
use Rattle.strun_words.proofs.Named.{flag_read, generate_named}
use Rattle.strun_words.proofs.parse.generate_of.Goals as goal
use Rattle.strun_words.specs.declared.task.Task.TheVariants.{Generate}

pub returns-in_err-seed : goal.returns-in_err-seed
returns-in_err-seed c = λ task e h.
    c.from_residual.ensures ∙ generate_named (found_of c.args.given.now) task e h (λ n run q g. absurd (cc (c.in_err-seed.ensures n g.0)))

pub returns : goal.returns
returns c = λ task e h.
    generate_named (found_of c.args.given.now) task e h (λ n run q g.
    let same : c.in_ok-seed.seed ≡ n = cc (c.in_ok-seed.ensures n g.0) in
    ap Some (ap₂ Generate same (flag_read (found_of c.args.given.now) (codes "run") run c.get_flag.result g.1 c.get_flag.ensures.value c.get_flag.ensures.other) ∙ q))
