use Rattle.std.proofs.Common.{arith}
use Rattle.request_frame.proofs.BytesParts.{number_read}
use Rattle.request_frame.proofs.ops.read_number.Goals as goal

pub returns-clause-number : goal.returns-clause-number
returns-clause-number c =
    number_read c.args.bytes.now c.in_ok-number.number.now c.in_ok-number.rest.now c.from_be_bytes.result c.in_ok-number.ensures.cases.0 c.in_ok-number.ensures.cases.1
    (omega (arith, c.in_ok-number.ensures.cases.2)) (λ i. (c.type_inv.bytes i).fits) c.from_be_bytes.ensures
