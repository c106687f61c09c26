use Rattle.std.proofs.Common.{subst, sym, ◌++◌}
use Rattle.answer_board.specs.Places.{MayFollow}
use Rattle.answer_board.specs.Views.{WriterView}
use Rattle.answer_board.proofs.Standing.{held_stands}
use Rattle.answer_board.proofs.writer.BoardWriter.hold.Goals as goal

pub invariant_of-self : goal.invariant_of-self
invariant_of-self c = let s = c.self.invariant in (rw c.put.ensures.desk (held_stands c.put.result _ _ _ _ _ c.args.entry.now (subst (λ (w : WriterView). MayFollow w.places (w.list ++ w.held) c.args.entry.now) (sym c.self.view_is) c.requires) c.put.ensures.ok c.put.ensures.err s.0), s.1)
