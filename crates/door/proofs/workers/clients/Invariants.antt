use Rattle.std.proofs.Common.{◌≡◌}
use mathlib.Core.List.{IsPrefix}
use Rattle.door.specs.Searching.{FoundAt}
use Rattle.door.proofs.EventsDone.{ClientsTo}
use Rattle.door.proofs.workers.clients.Given as goal

abbrev pub invariant-loop-i : goal.invariant-loop-i
invariant-loop-i g l = record {
  node : l.search.node ≡ l.initial.search.node;
  places : l.search.places.items ≡ l.initial.search.places.items;
  board : l.reader.board ≡ g.J.Naming.board;
  grows : IsPrefix l.initial.reader.list l.reader.list;
  kept : FoundAt l.search.places.items l.search.found.items l.reader.list;
  acted : ClientsTo l.reader.list l.scene l.initial.search.node l.i;
}
