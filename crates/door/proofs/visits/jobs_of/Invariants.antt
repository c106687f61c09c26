use Rattle.std.proofs.Common.{All, length, ℕ, ◌+◌, ◌≡◌, ◌≤◌}
use Rattle.partition_map.specs.Maps.{Exists}
use Rattle.door.proofs.visits.jobs_of.Given as goal

abbrev pub invariant-loop-place : goal.invariant-loop-place
invariant-loop-place g l = record {
  readers : length l.readers.items + l.place ≡ length l.fn.readers.items;
  clocks : length l.clocks.items + l.place ≡ 8;
  gates : length l.gates.items + l.place ≡ 8;
  named : All (λ r. r.board ≡ g.J.Naming.board) l.readers.items;
  nodes : All (λ j. Exists j.node.0 (length l.fn.readers.items)) l.jobs.items;
}
