use Rattle.std.proofs.Common.{arith, refl, rules, ◌≡◌}
use Rattle.std.proofs.lemmas.Grind.{common_steps}
use Rattle.history_reading.proofs.EndingsTaken.{commits_and_aborts, counted_end, no_counts_text, other_counts, wide_counts}
use Rattle.history_reading.specs.Histories.{aborts_in, commits_in}
use Rattle.history_reading.proofs.reading.Answers.end.Goals as goal

pub returns-in_default-clause-bad : goal.returns-in_default-clause-bad
returns-in_default-clause-bad c = no_counts_text c.args.text.now (c.in_default.ensures.none (search rules))

pub returns-in_default-read-clause-bad : goal.returns-in_default-read-clause-bad
returns-in_default-read-clause-bad c = wide_counts c.args.self.now.list.items c.args.text.now c.in-Some.read c.requires.counted.few c.in-Some.ensures.numbers c.in_default-read.is

pub overflow_sub-aborts : goal.overflow_sub-aborts
overflow_sub-aborts c = let k = commits_and_aborts c.args.self.now.list.items in let s = c.requires.counted.commits in grind (arith, common_steps)

pub returns-then-ending-self-clause-bad : goal.returns-then-ending-self-clause-bad
returns-then-ending-self-clause-bad c =
    other_counts c.args.self.now.list.items c.args.text.now c.in-Some.read c.in-Some-read.ending c.in-Some.ensures.numbers c.in-Some-read.is
    (λ p q. (let k = commits_and_aborts c.args.self.now.list.items in let s = c.requires.counted.commits in grind (arith, common_steps)))

pub returns-clause-taken : goal.returns-clause-taken
returns-clause-taken c =
    let k = commits_and_aborts c.args.self.now.list.items in
    let s = c.requires.counted.commits in
    let f : c.in-Some-read.ending.commits ≡ commits_in c.args.self.now.list.items = grind (arith, common_steps) in
    let g : c.in-Some-read.ending.aborts ≡ aborts_in c.args.self.now.list.items = grind (arith, common_steps) in
    let e = counted_end c.args.self.now.list.items c.args.text.now c.in-Some.read c.in-Some-read.ending c.in-Some.ensures.numbers c.in-Some-read.is f g in
    record { counts = e.counts; text_is = e.text_is; ending = e.ending; list = refl; commits = refl; ended = refl }
