use Rattle.std.proofs.Common.{◌≡◌, ◌+◌, ◌≤◌, ℕ}
use mathlib.Core.List.{IsPrefix}
use Rattle.door.specs.Searching.{Acted, FoundAt}
use Rattle.door.specs.Working.{HasClients, HasDelivers, delivery}
use Rattle.door.proofs.workers.turns.Given as goal

abbrev pub invariant-loop-turn : goal.invariant-loop-turn
invariant-loop-turn g l = record {
  node : l.search.node ≡ l.initial.search.node;
  places : l.search.places.items ≡ l.initial.search.places.items;
  board : l.reader.board ≡ g.J.Naming.board;
  grows : IsPrefix l.initial.reader.list l.reader.list;
  kept : FoundAt l.search.places.items l.search.found.items l.reader.list;
  delivers : HasDelivers l.reader.list l.scene.nodes l.initial.search.node l.turn;
  clients : 1 ≤ l.turn → HasClients l.reader.list l.scene l.initial.search.node;
  last : (t : ℕ) → t + 1 ≡ l.turn → Acted l.search.places.items l.search.found.items l.reader.list (delivery l.scene.nodes l.initial.search.node t);
}
