use Rattle.run_io.proofs.Rendered.{end_partly, end_written, journal_counts, journal_is, lines_left, lines_partly, partly_as, written_as}
use Rattle.std.proofs.Common.{List, refl, subst, ℕ, ◌∙◌}
use Rattle.str_model.specs.Lines.{counts, journal_lines}
use Rattle.str_outer.specs.Pieces.{AppendsPrefix}
use Rattle.top_status.proofs.Failing.{on_err}
use Rattle.run_io.proofs.journal.write_whole.Goals as goal

pub write_entries-requires : goal.write_entries-requires
write_entries-requires g c =
    journal_counts c.args.cluster.now.scene c.args.cluster.now.world _ _ c.scene.ensures.run (c.deref.ensures.value ∙ c.journal.ensures) (c.deref-2.ensures.value ∙ c.answers.ensures)

pub returns-in_err-write_entries-clause-partial : goal.returns-in_err-write_entries-clause-partial
returns-in_err-write_entries-clause-partial g c =
    on_err c.from_residual.result
    (subst (λ (ys : List ℕ). AppendsPrefix (g.K.Sink.held c.args.out.now) (g.K.Sink.held c.write_entries.new.out) ys)
    (journal_is c.args.cluster.now.scene c.args.cluster.now.world _ _ _ _ (c.deref.ensures.value ∙ c.journal.ensures) (c.deref-2.ensures.value ∙ c.answers.ensures) c.keys.ensures refl)
    (lines_partly (journal_lines c.keys.result.now c.deref.result.now c.deref-2.result.now) (counts c.args.cluster.now.scene c.args.cluster.now.world) _ _ _ c.new-waiting.ensures.items
    c.in_err-write_entries.ensures.partial))

pub returns-in_err-push_end-clause-partial : goal.returns-in_err-push_end-clause-partial
returns-in_err-push_end-clause-partial g c =
    on_err c.from_residual-in_err-push_end.result
    (subst (λ (ys : List ℕ). AppendsPrefix (g.K.Sink.held c.args.out.now) (g.K.Sink.held c.write_entries.new.out) ys)
    (journal_is c.args.cluster.now.scene c.args.cluster.now.world _ _ _ _ (c.deref.ensures.value ∙ c.journal.ensures) (c.deref-2.ensures.value ∙ c.answers.ensures) c.keys.ensures refl)
    (lines_left (journal_lines c.keys.result.now c.deref.result.now c.deref-2.result.now) (counts c.args.cluster.now.scene c.args.cluster.now.world) _ _ _ _ c.new-waiting.ensures.items
    c.in_ok-write_entries.ensures.written))

pub returns-clause-written : goal.returns-clause-written
returns-clause-written g c =
    written_as _ _ _ _ c.write_piece.result
    (journal_is c.args.cluster.now.scene c.args.cluster.now.world _ _ _ _ (c.deref.ensures.value ∙ c.journal.ensures) (c.deref-2.ensures.value ∙ c.answers.ensures) c.keys.ensures
    c.counts.ensures)
    (end_written (journal_lines c.keys.result.now c.deref.result.now c.deref-2.result.now) _ _ _ _ _ _ _ _ c.write_piece.result c.new-waiting.ensures.items c.in_ok-push_end.ensures.ok
    c.as_slice.ensures.value c.in_ok-write_entries.ensures.written c.write_piece.ensures.written)

pub returns-clause-partial : goal.returns-clause-partial
returns-clause-partial g c =
    partly_as _ _ _ _ c.write_piece.result
    (journal_is c.args.cluster.now.scene c.args.cluster.now.world _ _ _ _ (c.deref.ensures.value ∙ c.journal.ensures) (c.deref-2.ensures.value ∙ c.answers.ensures) c.keys.ensures
    c.counts.ensures)
    (end_partly (journal_lines c.keys.result.now c.deref.result.now c.deref-2.result.now) _ _ _ _ _ _ _ _ c.write_piece.result c.new-waiting.ensures.items c.in_ok-push_end.ensures.ok
    c.as_slice.ensures.value c.in_ok-write_entries.ensures.written c.write_piece.ensures.partial)
