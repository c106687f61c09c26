use Rattle.std.proofs.Common.{ap}
use Rattle.request_frame.proofs.WritingParts.{session_written}
use Rattle.request_frame.proofs.write.push_session.Goals as goal

pub returns : goal.returns
returns c =
    session_written c.args.keys.now c.args.session.now c.node.result.0 c.txs.result.now c.args.out.now.items c.push_frame.new.out.items c.push_txs.new.out.items c.push_txs.result c.push_txs.ensures c.in_ok-push_frame.ensures
    (ap (λ n. n.0) c.node.ensures) c.txs.ensures
