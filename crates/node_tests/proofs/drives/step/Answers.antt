use Rattle.std.proofs.Common.{arith, ◌≡◌}
use Rattle.node_core.proofs.Whole.Readying.{need_same}
use Rattle.node_tests.proofs.drives.step.Goals as goal

pub step-requires-clause-room : goal.step-requires-clause-room
step-requires-clause-room c =
    let e = need_same c.args.node.now c.ready.new.self c.args.input.now c.ready.ensures.node in
    omega (arith, e, c.in_ok-most.ensures.need, c.in_ok-most.ensures.room_made)

pub step-requires-clause-space : goal.step-requires-clause-space
step-requires-clause-space c =
    let e = need_same c.args.node.now c.ready.new.self c.args.input.now c.ready.ensures.node in
    omega (arith, e, c.in_ok-most.ensures.need, c.in_ok-most.ensures.space_made)
