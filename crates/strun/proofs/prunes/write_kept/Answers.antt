use Rattle.run_io.proofs.Rendered.{partly_as, written_as}
use Rattle.strun.proofs.AuditWritten.{is_alone}
use Rattle.strun.proofs.prunes.write_kept.Goals as goal

pub returns-clause-written : goal.returns-clause-written
returns-clause-written g c =
    written_as _ _ _ _ c.write_piece.result (is_alone _ _ _ _ c.new-line.ensures.items c.in_ok-push_kept.ensures c.as_slice.ensures.value) c.write_piece.ensures.written

pub returns-clause-partial : goal.returns-clause-partial
returns-clause-partial g c =
    partly_as _ _ _ _ c.write_piece.result (is_alone _ _ _ _ c.new-line.ensures.items c.in_ok-push_kept.ensures c.as_slice.ensures.value) c.write_piece.ensures.partial
