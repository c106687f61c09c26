use Rattle.std.proofs.Common.{ap, ◌∙◌}
use Rattle.scene_gen.proofs.Steps.{rows_end, rows_next}
use Rattle.str_scene.specs.Drafts.{with_row}
use Rattle.std.proofs.lemmas.Result.{err_from_is_err_and}
use Rattle.scene_gen.proofs.Allowed.{only_memory}
use Rattle.scene_gen.proofs.Rooms.{next_row}
use Rattle.scene_gen.proofs.made.add_parts.Goals as goal

pub loop-place-preserved : goal.loop-place-preserved
loop-place-preserved c =
    rows_next 6 c.loop-place.place c.loop-place.build c.part.new.self _ c.loop-place-test.true
    (c.in_ok-part.ensures.added ∙ ap (λ row. with_row row c.loop-place.build) c.row_of.ensures) c.loop-place.invariant

pub returns-clause-built : goal.returns-clause-built
returns-clause-built c = rows_end 6 c.loop-place.place c.loop-place.build _ c.loop-place-test.false c.loop-place.invariant

pub returns-in_err-part-clause-refused : goal.returns-in_err-part-clause-refused
returns-in_err-part-clause-refused c =
    let p = err_from_is_err_and c.from_residual.result c.from_residual.ensures.1 in
    rw (p.1, p.2) (only_memory _ _ (next_row c.loop-place.place c.row_of.result c.loop-place.build c.args.build.now c.loop-place-test.true c.row_of.ensures c.loop-place.invariant c.requires) c.in_err-part.ensures.refused)
