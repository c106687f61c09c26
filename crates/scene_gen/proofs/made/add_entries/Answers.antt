use Rattle.scene_gen.proofs.Steps.{entries_end, entries_next}
use Rattle.std.proofs.lemmas.Result.{err_from_is_err_and}
use Rattle.scene_gen.proofs.Allowed.{only_memory}
use Rattle.scene_gen.proofs.Rooms.{next_entry}
use Rattle.scene_gen.proofs.made.add_entries.Goals as goal

pub loop-place-preserved : goal.loop-place-preserved
loop-place-preserved c =
    entries_next 6000 c.loop-place.place c.loop-place.draws c.entry.new.self c.entry.result c.loop-place.build c.entry-in-loop-place.new.self _ c.loop-place-test.true
    c.entry.ensures.value c.in_ok-entry.ensures.added c.entry.ensures.rest c.loop-place.invariant

pub returns-clause-built : goal.returns-clause-built
returns-clause-built c = entries_end 6000 c.loop-place.place c.loop-place.draws c.loop-place.build _ c.loop-place-test.false c.loop-place.invariant

pub returns-in_err-entry-clause-refused : goal.returns-in_err-entry-clause-refused
returns-in_err-entry-clause-refused c =
    let p = err_from_is_err_and c.from_residual.result c.from_residual.ensures.1 in
    rw (p.1, p.2) (only_memory _ _ (next_entry c.loop-place.place c.loop-place.draws c.args.draws.now c.entry.result c.loop-place.build c.args.build.now c.loop-place-test.true c.entry.ensures.value c.loop-place.invariant c.requires.place c.requires.sessions c.requires.room) c.in_err-entry.ensures.refused)
