use Rattle.std.proofs.Common.{refl}
use Rattle.str_scene.proofs.Filling.{set_last}
use Rattle.str_scene.proofs.build.push_to_last.Goals as goal

pub returns-clause-ok : goal.returns-clause-ok
returns-clause-ok c =
    set_last c.args.ops c.args.sessions.now.items c.args.sessions.now.len c.in-Some.session.now c.push.new.self c.args.sessions.now.ok.0
    (c.in-Some.ensures.variant.0 refl) c.in-Some.ensures.value c.in_ok-push.ensures.ok
