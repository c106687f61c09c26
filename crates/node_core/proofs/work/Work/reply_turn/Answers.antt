use Rattle.std.proofs.Common.{ap, sym, ◌∙◌}
use Rattle.dependency_set.specs.Snapshots.{Snap}
use Rattle.node_core.proofs.Parts.Showing.{same_at}
use Rattle.str_model.specs.Turns.{reply_turn}
use Rattle.str_model.specs.Views.{Own}
use Rattle.node_core.proofs.work.Work.reply_turn.Goals as goal

pub returns : goal.returns
returns c =
    rw (← c.self.view_is)
    (λ x own.
    c.take_reply.ensures.turn c.self.inside.site (sym c.id.ensures.value)
    ∙ ap (λ (z : Snap). reply_turn c.self.inside.site z c.args.value c.args.by c.args.fc.0) (c.snap.ensures ∙ ap (λ (z : Own). z.snap) (same_at _ c.args.i _ _ c.at.ensures.own own)))
