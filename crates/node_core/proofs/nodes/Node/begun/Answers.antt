use Rattle.std.proofs.Common.{arith}
use Rattle.node_core.proofs.Whole.Readying.{begun_few}
use Rattle.node_core.proofs.nodes.Node.begun.Goals as goal

pub overflow_cast-result : goal.overflow_cast-result
overflow_cast-result c = let n = begun_few c.self.inside.work.here c.self.inside.work.doing.view c.self.invariant.0 in omega (arith, c.own_len.ensures)
