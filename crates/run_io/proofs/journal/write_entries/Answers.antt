use Rattle.run_io.proofs.Behind.{none_behind}
use Rattle.run_io.proofs.Entries.{answers_left_behind, entry_broke, entry_fits, no_entry, one_entry}
use Rattle.std.proofs.Common.{arith, get_or, refl, ◌∙◌}
use Rattle.top_status.proofs.Failing.{on_err}
use Rattle.run_io.proofs.journal.write_entries.Goals as goal

pub loop-done-init : goal.loop-done-init
loop-done-init g c = record { later = omega arith; rest = refl; written = none_behind _ _ }

pub split_at-requires : goal.split_at-requires
split_at-requires g c =
    entry_fits c.args.journal.now c.args.answers.now c.loop-done.rest.now c.loop-done.done-index (get_or c.args.journal.now c.loop-done.done-index no_entry) no_entry c.loop-done-test.true refl
    c.loop-done.invariant.rest c.requires

pub returns-in_err-write_entry-clause-partial : goal.returns-in_err-write_entry-clause-partial
returns-in_err-write_entry-clause-partial g c =
    on_err c.from_residual.result
    (entry_broke _ _ _ c.args.keys.now c.args.waiting.now.items c.args.journal.now c.args.answers.now c.loop-done.done-index (get_or c.args.journal.now c.loop-done.done-index no_entry) no_entry
    c.loop-done.rest.now c.split_at.result.0.now c.loop-done.waiting.items c.loop-done-test.true refl c.loop-done.invariant.rest c.split_at.ensures.front c.loop-done.invariant.written
    c.in_err-write_entry.ensures.partial)

pub loop-done-preserved : goal.loop-done-preserved
loop-done-preserved g c =
    let later = c.in_ok-write_entry.ensures.later in
    let before = c.loop-done.invariant.later in
    record {
      later = omega arith;
      rest = c.split_at.ensures.back
          ∙ answers_left_behind c.args.journal.now c.args.answers.now c.loop-done.rest.now c.loop-done.done-index (get_or c.args.journal.now c.loop-done.done-index no_entry) no_entry
          c.loop-done-test.true refl c.loop-done.invariant.rest;
      written = one_entry _ _ _ c.args.keys.now c.args.waiting.now.items c.args.journal.now c.args.answers.now c.loop-done.done-index
          (get_or c.args.journal.now c.loop-done.done-index no_entry) no_entry c.loop-done.rest.now c.split_at.result.0.now c.loop-done.waiting.items c.write_entry.new.waiting.items
          c.loop-done-test.true refl c.loop-done.invariant.rest c.split_at.ensures.front c.loop-done.invariant.written c.in_ok-write_entry.ensures.written;
    }
