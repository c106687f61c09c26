use Rattle.std.proofs.Common.{◌≡◌}
use mathlib.Core.List.{IsPrefix}
use Rattle.door.specs.Searching.{FoundAt, FullTo}
use Rattle.door.proofs.looking.look_at_all.Given as goal

abbrev pub invariant-loop-index : goal.invariant-loop-index
invariant-loop-index g l =
    (l.reader.board ≡ l.initial.reader.board)
    × IsPrefix l.initial.reader.list l.reader.list
    × FoundAt l.places l.found.items l.reader.list
    × FullTo l.index l.places l.found.items l.initial.reader.list
