use Rattle.answer_board.specs.Views.{WriterView}
use Rattle.door.proofs.Following.{follows_on}
use Rattle.door.specs.Keeping.{BoardFollows}
use Rattle.std.proofs.Common.{[], subst, sym, ◌++◌, ◌∷◌}
use Rattle.door.proofs.kept.Kept.act.Goals as goal

pub show_all-requires : goal.show_all-requires
show_all-requires g c =
    let s = c.event.new.self in
    subst (λ (w : WriterView). BoardFollows s.scene s.world w.places (w.list ++ w.held) c.self.inside.extent) (sym c.deref_mut.ensures.value)
    (follows_on _ _ _ _ _ _ _ (c.args.event ∷ []) c.self.invariant.1 c.event.ensures.scene c.in-Ok.ensures.ok c.event.ensures.run)
