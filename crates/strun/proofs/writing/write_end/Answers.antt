use Rattle.std.proofs.Common.{◌∙◌}
use Rattle.strun.proofs.Written.{end_alone, end_alone_partly}
use Rattle.strun.proofs.writing.write_end.Goals as goal

pub returns-clause-written : goal.returns-clause-written
returns-clause-written g c =
    end_alone c.args.scene _ _ _ _ _ _ _ _ c.write_piece.result c.in_ok-cluster.ensures.scene c.in_ok-cluster.ensures.world c.counts.ensures c.new-line.ensures.items
    (c.as_slice.ensures.value ∙ c.in_ok-push_end.ensures.ok) c.write_piece.ensures.written

pub returns-clause-partial : goal.returns-clause-partial
returns-clause-partial g c =
    end_alone_partly c.args.scene _ _ _ _ _ _ _ _ c.write_piece.result c.in_ok-cluster.ensures.scene c.in_ok-cluster.ensures.world c.counts.ensures c.new-line.ensures.items
    (c.as_slice.ensures.value ∙ c.in_ok-push_end.ensures.ok) c.write_piece.ensures.partial
