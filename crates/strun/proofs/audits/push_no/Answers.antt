use Rattle.std.proofs.Common.{ap, codes, decimal}
use Rattle.strun.proofs.BalanceLines.{if_grown, two_behind}
use Rattle.strun.proofs.audits.push_no.Goals as goal

pub returns : goal.returns
returns c =
    two_behind c.args.line.now.items _ _ _ _ _ (codes "si no answer=") (decimal c.args.answer) (codes " clause=I") _ (decimal c.args.clause) (codes "\n") c.extend_from_slice-3.result
    c.in_ok-extend_from_slice.ensures.items c.in_ok-push_u64.ensures.ok c.in_ok-extend_from_slice-2.ensures.items c.in_ok-push_u64-2.ensures.ok (ap decimal c.from.ensures)
    (if_grown _ _ _ c.extend_from_slice-3.result c.extend_from_slice-3.ensures.items)
