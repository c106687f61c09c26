use Rattle.std.proofs.Common.{arith}
use Rattle.history_reading.proofs.Spelled.PartsRead.{node_lost, node_read, node_wide}
use Rattle.history_reading.proofs.parts.read_node.Goals as goal

pub returns-in-Some-clause-node : goal.returns-in-Some-clause-node
returns-in-Some-clause-node c =
    node_read c.args.scene.now.nodes c.args.text.now c.in_ok-node.field-0 c.in-Some.node c.in-Some.is c.in_ok-node.ensures.number c.if-node-ge1.true (omega (arith, c.if-node-nodes.true, c.nodes-nodes.ensures.value))

pub returns-in_default-clause-node : goal.returns-in_default-clause-node
returns-in_default-clause-node c =
    node_wide c.args.scene.now.nodes c.args.text.now c.in_ok-node.field-0 c.in-Some.node c.in-Some.is c.in_ok-node.ensures.number (λ a b. omega (arith, b, c.if-node-nodes.false, c.nodes-nodes.ensures.value))

pub returns-in_default-2-clause-node : goal.returns-in_default-2-clause-node
returns-in_default-2-clause-node c =
    node_wide c.args.scene.now.nodes c.args.text.now c.in_ok-node.field-0 c.in-Some.node c.in-Some.is c.in_ok-node.ensures.number (λ a b. omega (arith, a, c.if-node-ge1.false))

pub returns-in_default-3-clause-node : goal.returns-in_default-3-clause-node
returns-in_default-3-clause-node c =
    node_lost c.args.scene.now.nodes c.args.text.now c.in_ok-node.field-0 c.in_default.is (omega (arith, c.nodes-nodes.ensures.limits.nodes.1)) c.in_ok-node.ensures.number
