use Rattle.std.proofs.Common.{OnErr, subst}
use Rattle.str_model.specs.Drains.{cluster_run}
use Rattle.str_model.specs.Lines.{counts, end_line}
use Rattle.str_outer.specs.Pieces.{AppendsPrefix}
use Rattle.str_scene.specs.Scenes.{Scene}
use Rattle.strun.proofs.tasks.write_made_end.Goals as goal

pub returns-clause-partial : goal.returns-clause-partial
returns-clause-partial g c =
    subst (λ (s : Scene). OnErr c.write_end.result (AppendsPrefix (g.K.Sink.held c.args.out.now) (g.K.Sink.held c.write_end.new.out) (end_line (counts s (cluster_run s)))))
    c.in_ok-scene.ensures c.write_end.ensures.partial
