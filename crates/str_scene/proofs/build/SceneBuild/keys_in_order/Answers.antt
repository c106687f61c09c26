use Rattle.std.proofs.Common.{ap, length, ◌∙◌}
use Rattle.str_scene.proofs.Seen.{keys_order}
use Rattle.str_scene.proofs.build.SceneBuild.keys_in_order.Goals as goal

pub returns : goal.returns
returns c =
    c.counts_to.ensures
    ∙ keys_order c.args.self.now c.as_slice.result.now c.seen_in_sessions-count.result c.len.result
    c.seen_in_sessions-count.ensures
    (c.as_slice.ensures.value ∙ ap (λ d. d.sessions) c.self.view_is)
    (c.len.ensures.value ∙ ap (λ d. length d.keys.names) c.self.view_is)
