use Rattle.std.proofs.Common.{◌∙◌, ◌≡◌}
use Rattle.run_io.specs.Renderings.{rendering}
use Rattle.strun.proofs.PrunedRuns.{kept_is, pruned_render}
use Rattle.strun.proofs.Written.{both_partly, both_written, first_partly}
use Rattle.strun.specs.Outputs.{kept_after, kept_line}
use Rattle.str_model.specs.Drains.{cluster_run}
use Rattle.str_model.specs.Lines.{render}
use Rattle.top_status.proofs.Failing.{on_err}
use Rattle.strun.proofs.prunes.write_pruned.Goals as goal

pub returns-in_err-write_rendering-clause-partial : goal.returns-in_err-write_rendering-clause-partial
returns-in_err-write_rendering-clause-partial g c =
    on_err c.from_residual-in_err-write_rendering.result
    (first_partly _ _ _ (render c.args.scene (cluster_run c.args.scene)) (kept_line (kept_after c.args.scene))
    (pruned_render c.args.scene _ _ _ _ _ c.in_ok-cluster.ensures.scene c.in_ok-cluster.ensures.state (c.deref.ensures.value ∙ c.answers.ensures) c.keys.ensures c.counts-counts.ensures)
    c.in_err-write_rendering.ensures.partial)

pub returns-clause-written : goal.returns-clause-written
returns-clause-written g c =
    both_written _ _ _ _ (render c.args.scene (cluster_run c.args.scene)) _ (kept_line (kept_after c.args.scene)) c.write_kept.result
    (pruned_render c.args.scene _ _ _ _ _ c.in_ok-cluster.ensures.scene c.in_ok-cluster.ensures.state (c.deref.ensures.value ∙ c.answers.ensures) c.keys.ensures c.counts-counts.ensures)
    (kept_is c.args.scene _ _ c.in_ok-cluster.ensures.state c.kept.ensures) c.in_ok-write_rendering.ensures.written c.write_kept.ensures.written

pub returns-clause-partial : goal.returns-clause-partial
returns-clause-partial g c =
    both_partly _ _ _ _ (render c.args.scene (cluster_run c.args.scene)) _ (kept_line (kept_after c.args.scene)) c.write_kept.result
    (pruned_render c.args.scene _ _ _ _ _ c.in_ok-cluster.ensures.scene c.in_ok-cluster.ensures.state (c.deref.ensures.value ∙ c.answers.ensures) c.keys.ensures c.counts-counts.ensures)
    (kept_is c.args.scene _ _ c.in_ok-cluster.ensures.state c.kept.ensures) c.in_ok-write_rendering.ensures.written c.write_kept.ensures.partial
