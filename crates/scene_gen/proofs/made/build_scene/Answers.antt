use Rattle.std.proofs.Common.{ap, subst, ◌∙◌, ◌≡◌}
use Rattle.std.specs.Prelude.{IfOk}
use Rattle.scene_gen.proofs.Drafts.{built_from}
use Rattle.scene_gen.specs.Made.{made, made_entries, made_sessions}
use Rattle.str_scene.specs.Scenes.{Scene}
use Rattle.std.proofs.lemmas.Result.{err_from_is_err_and}
use Rattle.scene_gen.proofs.Allowed.{drain_allowed, never_refused, nodes_allowed, not_refused}
use Rattle.scene_gen.proofs.Starting.{at_head, drain_place, entries_few, entries_place, entries_sessions, finish_fits, sessions_place, sessions_room}
use Rattle.str_scene.specs.Drafts.{with_nodes}
use Rattle.scene_gen.proofs.made.build_scene.Goals as goal

pub returns-clause-scene : goal.returns-clause-scene
returns-clause-scene c =
    let whole : c.drain.new.self ≡ made c.args.seed =
    built_from c.args.seed c.new-draws.result c.add_sessions.new.draws c.new-build.result c.nodes.new.self c.add_parts.new.build c.add_sessions.new.build c.add_entries.new.build
    c.drain.new.self c.new-draws.ensures c.new-build.ensures c.in_ok-nodes.ensures.added c.in_ok-add_parts.ensures.built c.in_ok-add_sessions.ensures.built c.in_ok-add_sessions.ensures.rest
    c.in_ok-add_entries.ensures.built c.in_ok-drain.ensures.added in
    subst (λ (d : Scene). IfOk c.finish.result (λ s. s ≡ d)) whole c.finish.ensures.scene

pub add_parts-requires : goal.add_parts-requires
add_parts-requires c = c.in_ok-nodes.ensures.added ∙ ap (with_nodes 3) c.new-build.ensures

pub add_sessions-requires-clause-place : goal.add_sessions-requires-clause-place
add_sessions-requires-clause-place c =
    sessions_place c.add_parts.new.build (at_head c.new-build.result c.nodes.new.self c.add_parts.new.build c.new-build.ensures c.in_ok-nodes.ensures.added c.in_ok-add_parts.ensures.built)

pub add_sessions-requires-clause-room : goal.add_sessions-requires-clause-room
add_sessions-requires-clause-room c =
    sessions_room c.args.seed c.new-draws.result c.add_parts.new.build c.new-draws.ensures (at_head c.new-build.result c.nodes.new.self c.add_parts.new.build c.new-build.ensures c.in_ok-nodes.ensures.added c.in_ok-add_parts.ensures.built)

pub add_entries-requires-clause-place : goal.add_entries-requires-clause-place
add_entries-requires-clause-place c =
    entries_place (made_sessions 12 1 c.new-draws.result) c.add_parts.new.build c.add_sessions.new.build (at_head c.new-build.result c.nodes.new.self c.add_parts.new.build c.new-build.ensures c.in_ok-nodes.ensures.added c.in_ok-add_parts.ensures.built) c.in_ok-add_sessions.ensures.built

pub add_entries-requires-clause-sessions : goal.add_entries-requires-clause-sessions
add_entries-requires-clause-sessions c =
    entries_sessions c.new-draws.result c.add_parts.new.build c.add_sessions.new.build (at_head c.new-build.result c.nodes.new.self c.add_parts.new.build c.new-build.ensures c.in_ok-nodes.ensures.added c.in_ok-add_parts.ensures.built) c.in_ok-add_sessions.ensures.built

pub add_entries-requires-clause-room : goal.add_entries-requires-clause-room
add_entries-requires-clause-room c =
    entries_few (made_sessions 12 1 c.new-draws.result) c.add_parts.new.build c.add_sessions.new.build (at_head c.new-build.result c.nodes.new.self c.add_parts.new.build c.new-build.ensures c.in_ok-nodes.ensures.added c.in_ok-add_parts.ensures.built) c.in_ok-add_sessions.ensures.built

pub returns-in_err-nodes-clause-refused : goal.returns-in_err-nodes-clause-refused
returns-in_err-nodes-clause-refused c =
    let p = err_from_is_err_and c.from_residual.result c.from_residual.ensures.1 in
    rw (p.1, p.2) (not_refused _ _ (nodes_allowed c.new-build.result c.new-build.ensures) c.in_err-nodes.ensures.refused)

pub returns-in_err-drain-clause-refused : goal.returns-in_err-drain-clause-refused
returns-in_err-drain-clause-refused c =
    let p = err_from_is_err_and c.from_residual-in_err-drain.result c.from_residual-in_err-drain.ensures.1 in
    rw (p.1, p.2) (not_refused _ _ (drain_allowed c.add_entries.new.build (drain_place (made_entries 6000 1 c.add_sessions.new.draws) c.add_sessions.new.build c.add_entries.new.build (entries_place (made_sessions 12 1 c.new-draws.result) c.add_parts.new.build c.add_sessions.new.build (at_head c.new-build.result c.nodes.new.self c.add_parts.new.build c.new-build.ensures c.in_ok-nodes.ensures.added c.in_ok-add_parts.ensures.built) c.in_ok-add_sessions.ensures.built) c.in_ok-add_entries.ensures.built)) c.in_err-drain.ensures.refused)

pub returns-clause-refused : goal.returns-clause-refused
returns-clause-refused c =
    let whole : c.drain.new.self ≡ made c.args.seed =
    built_from c.args.seed c.new-draws.result c.add_sessions.new.draws c.new-build.result c.nodes.new.self c.add_parts.new.build c.add_sessions.new.build c.add_entries.new.build
    c.drain.new.self c.new-draws.ensures c.new-build.ensures c.in_ok-nodes.ensures.added c.in_ok-add_parts.ensures.built c.in_ok-add_sessions.ensures.built c.in_ok-add_sessions.ensures.rest
    c.in_ok-add_entries.ensures.built c.in_ok-drain.ensures.added in
    never_refused _ _ (finish_fits c.args.seed c.drain.new.self whole) c.finish.ensures.refused
