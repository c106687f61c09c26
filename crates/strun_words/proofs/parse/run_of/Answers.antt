use Rattle.clap.specs.Words.{found_of}
use Rattle.std.proofs.Common.{codes}
use Rattle.strun_words.proofs.Named.{flag_read, pruned_named, run_named}
use Rattle.strun_words.proofs.parse.run_of.Goals as goal

pub returns-then-get_flag : goal.returns-then-get_flag
returns-then-get_flag c = λ task e h.
    pruned_named (found_of c.args.given.now) c.get_flag.result task c.if-get_flag.true e h
    (λ flag x. flag_read (found_of c.args.given.now) (codes "prune") flag c.get_flag.result x c.get_flag.ensures.value c.get_flag.ensures.other)

pub returns : goal.returns
returns c = λ task e h.
    run_named (found_of c.args.given.now) c.get_flag.result c.get_flag-2.result c.get_flag-3.result task c.if-get_flag.false e h
    (λ flag x. flag_read (found_of c.args.given.now) (codes "prune") flag c.get_flag.result x c.get_flag.ensures.value c.get_flag.ensures.other)
    (λ flag x. flag_read (found_of c.args.given.now) (codes "frames") flag c.get_flag-2.result x c.get_flag-2.ensures.value c.get_flag-2.ensures.other)
    (λ flag x. flag_read (found_of c.args.given.now) (codes "journal") flag c.get_flag-3.result x c.get_flag-3.ensures.value c.get_flag-3.ensures.other)
