use Rattle.std.proofs.Common.{arith, codes, of_z, rules, to_z, ap, ◌≡◌}
use Rattle.std.proofs.lemmas.Int.{ints, to_z-of_z}
use Rattle.std.specs.Fmt.{signed_decimal}
use Rattle.std.specs.Int.{w64}
use Rattle.strun.proofs.BalanceLines.{ends_with, if_grown}
use Rattle.strun.proofs.banks.push_total.Goals as goal

pub returns : goal.returns
returns c =
    let number : to_z w64 (of_z w64 c.args.sum) ≡ c.args.sum = first_of (search (rules, to_z-of_z), grind (arith, ints, to_z-of_z)) in
    ends_with c.args.lines.now.items _ _ _ (codes "bank total=") _ (signed_decimal c.args.sum) (codes "\n") c.extend_from_slice-2.result c.in_ok-extend_from_slice.ensures.items
    c.in_ok-push_i64.ensures.ok (ap signed_decimal number) (if_grown _ _ _ c.extend_from_slice-2.result c.extend_from_slice-2.ensures.items)
