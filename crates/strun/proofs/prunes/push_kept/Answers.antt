use Rattle.std.proofs.Common.{codes, decimal, refl}
use Rattle.strun.proofs.BalanceLines.{ends_with, if_grown}
use Rattle.strun.proofs.prunes.push_kept.Goals as goal

pub returns : goal.returns
returns c =
    ends_with c.args.line.now.items _ _ _ (codes "kept versions=") _ (decimal c.args.kept) (codes "\n") c.extend_from_slice-2.result c.in_ok-extend_from_slice.ensures.items
    c.in_ok-push_u64.ensures.ok refl (if_grown _ _ _ c.extend_from_slice-2.result c.extend_from_slice-2.ensures.items)
