use Rattle.door.proofs.Jobs.{board_same}
use Rattle.std.proofs.Common.{◌≡◌}
use Rattle.door.proofs.visits.visit_named.Goals as goal

pub visit_door-visit-requires-clause-readers : goal.visit_door-visit-requires-clause-readers
visit_door-visit-requires-clause-readers g c κs within =
    let same : c.in_ok-door.field-0.readers.items ≡ c.args.board.readers.items = cc (c.in_ok-door.ensures.readers) in
    board_same _ _ (λ r. r.board) g.J.Naming.board same c.requires.readers
