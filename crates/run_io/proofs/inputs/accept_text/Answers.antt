use Rattle.std.proofs.Common.{arith}
use Rattle.run_io.proofs.Refusing.{refuses_line}
use Rattle.run_io.proofs.inputs.accept_text.Goals as goal

pub returns-in-Err-Bad-clause-refused : goal.returns-in-Err-Bad-clause-refused
returns-in-Err-Bad-clause-refused c =
    refuses_line c.args.text.now c.refuse_bad.result c.in-Err-Bad.field-0 c.in-Err-Bad.line c.in-Err-Bad.why (omega arith) c.in-Err-Bad.field-0-is c.in-Err-Bad.ensures.bad c.refuse_bad.ensures
