use Rattle.std.proofs.Common.{refl}
use Rattle.request_frame.proofs.BytesParts.{frame_split}
use Rattle.request_frame.proofs.read_frame.split_frame.Goals as goal

pub returns-clause-frame : goal.returns-clause-frame
returns-clause-frame c =
    frame_split c.args.bytes.now c.from.result c.from-2.result _ c.in-len3-up.len_at_least c.from.ensures c.from-2.ensures (c.type_inv.bytes 2).fits refl c.if-rest-size.false
