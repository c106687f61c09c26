use Rattle.run_io.proofs.Rendered.{partly_as, rendering_is, written_as}
use Rattle.std.proofs.Common.{◌∙◌}
use Rattle.run_io.proofs.answers.write_cluster.Goals as goal

pub returns-clause-written : goal.returns-clause-written
returns-clause-written g c =
    written_as _ _ _ _ c.write_rendering.result
    (rendering_is c.args.cluster.now.scene c.args.cluster.now.world _ _ _ (c.deref.ensures.value ∙ c.answers.ensures) c.keys.ensures c.counts-counts.ensures)
    c.write_rendering.ensures.written

pub returns-clause-partial : goal.returns-clause-partial
returns-clause-partial g c =
    partly_as _ _ _ _ c.write_rendering.result
    (rendering_is c.args.cluster.now.scene c.args.cluster.now.world _ _ _ (c.deref.ensures.value ∙ c.answers.ensures) c.keys.ensures c.counts-counts.ensures)
    c.write_rendering.ensures.partial
