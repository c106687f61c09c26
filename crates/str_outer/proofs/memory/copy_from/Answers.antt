use Rattle.std.proofs.Common.{arith, rules}
use Rattle.str_outer.proofs.Joined.{read_piece}
use Rattle.str_outer.proofs.memory.copy_from.Goals as goal

pub returns-clause-piece : goal.returns-clause-piece
returns-clause-piece c = read_piece c.args.at c.min-count.result c.args.bytes.now c.args.buf.now c.copy_from_slice.new.self (omega arith) (omega arith) (omega arith) (search rules)
