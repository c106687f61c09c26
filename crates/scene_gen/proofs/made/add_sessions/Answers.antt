use Rattle.std.proofs.Common.{ap, ◌+◌, ◌-◌, ◌∙◌}
use Rattle.scene_gen.proofs.Steps.{after_sessions_end, after_sessions_next, sessions_end, sessions_next}
use Rattle.str_scene.specs.Drafts.{with_session}
use Rattle.std.proofs.lemmas.Result.{err_from_is_err_and}
use Rattle.scene_gen.proofs.Allowed.{only_memory}
use Rattle.scene_gen.proofs.Rooms.{next_session, session_fits, session_takes}
use Rattle.scene_gen.specs.Made.{made_sessions}
use Rattle.scene_gen.proofs.made.add_sessions.Goals as goal

pub loop-place-preserved : goal.loop-place-preserved
loop-place-preserved c = record {
  built = sessions_next 12 c.loop-place.place c.loop-place.draws c.add_scripts.new.draws c.loop-place.build c.session.new.self c.add_scripts.new.build _ c.loop-place-test.true
      (c.in_ok-session.ensures.added ∙ ap (λ node. with_session node c.loop-place.build) c.node_of.ensures) c.in_ok-add_scripts.ensures.built c.in_ok-add_scripts.ensures.rest c.loop-place.invariant.built;
  rest = after_sessions_next 12 c.loop-place.place c.loop-place.draws c.add_scripts.new.draws _ c.loop-place-test.true c.in_ok-add_scripts.ensures.rest c.loop-place.invariant.rest;
}

pub returns-clause-built : goal.returns-clause-built
returns-clause-built c = sessions_end 12 c.loop-place.place c.loop-place.draws c.loop-place.build _ c.loop-place-test.false c.loop-place.invariant.built

pub returns-clause-rest : goal.returns-clause-rest
returns-clause-rest c = after_sessions_end 12 c.loop-place.place c.loop-place.draws _ c.loop-place-test.false c.loop-place.invariant.rest

pub add_scripts-requires-clause-place : goal.add_scripts-requires-clause-place
add_scripts-requires-clause-place c =
    session_takes (made_sessions (12 - c.loop-place.place) (c.loop-place.place + 1) c.loop-place.draws) (made_sessions 12 1 c.args.draws.now) c.node_of.result c.loop-place.build c.args.build.now c.session.new.self
    c.in_ok-session.ensures.added c.loop-place.invariant.built c.requires.place

pub add_scripts-requires-clause-room : goal.add_scripts-requires-clause-room
add_scripts-requires-clause-room c =
    next_session 12 c.loop-place.place c.loop-place.draws c.loop-place.build c.session.new.self _ c.loop-place-test.true
    (c.in_ok-session.ensures.added ∙ ap (λ node. with_session node c.loop-place.build) c.node_of.ensures) c.loop-place.invariant.built c.requires.room

pub returns-in_err-session-clause-refused : goal.returns-in_err-session-clause-refused
returns-in_err-session-clause-refused c =
    let p = err_from_is_err_and c.from_residual.result c.from_residual.ensures.1 in
    rw (p.1, p.2) (only_memory _ _ (session_fits 12 c.loop-place.place c.loop-place.draws (made_sessions 12 1 c.args.draws.now) c.node_of.result c.loop-place.build c.args.build.now c.loop-place-test.true c.node_of.ensures c.loop-place.invariant.built c.requires.room c.requires.place) c.in_err-session.ensures.refused)
