use Rattle.door.proofs.Jobs.{board_rest, nodes_push}
use Rattle.std.proofs.Common.{arith}
use Rattle.door.proofs.visits.jobs_of.Goals as goal

pub loop-place-preserved : goal.loop-place-preserved
loop-place-preserved g c = record {
  readers = grind (arith, c.remove.ensures.len, c.loop-place.invariant.readers);
  clocks = grind (arith, c.remove-in-loop-place.ensures.len, c.loop-place.invariant.clocks);
  gates = grind (arith, c.remove-in-loop-place-2.ensures.len, c.loop-place.invariant.gates);
  named = board_rest c.loop-place.readers.items c.remove.new.self.items (λ r. r.board) g.J.Naming.board c.remove.ensures.by_index.2 c.loop-place.invariant.named;
  nodes = nodes_push c.loop-place.jobs.items c.push.new.self.items _ (λ j. j.node.0) _ c.in_ok-push.ensures.items c.loop-place.invariant.nodes
      (omega arith, grind (arith, c.remove.ensures.len, c.loop-place.invariant.readers));
}
