use Rattle.std.proofs.Common.{arith, get_or, of_z, pos, rules, to_z, ◌≡◌}
use Rattle.std.specs.Int.{w64}
use Rattle.std.proofs.lemmas.Int.{ints, to_z-of_z}
use Rattle.bank_book.proofs.Tallied.{tallies_pushed}
use Rattle.bank_book.proofs.tallies.tallies.Goals as goal

pub loop-i-preserved : goal.loop-i-preserved
loop-i-preserved c =
    let number : to_z w64 (of_z w64 (get_or c.args.amounts.now c.loop-i.i (pos 0))) ≡ get_or c.args.amounts.now c.loop-i.i (pos 0) =
    first_of (search (rules, to_z-of_z), grind (arith, ints, to_z-of_z)) in
    tallies_pushed c.args.scene.now c.args.answers.now c.args.accounts.now c.args.amounts.now c.loop-i.i (record { 0 = 0 }) (pos 0)
    (to_z w64 (of_z w64 (get_or c.args.amounts.now c.loop-i.i (pos 0)))) c.balance-value.result c.loop-i.gots.items c.push.new.self.items c.loop-i-test.true c.requires c.loop-i.invariant number
    c.balance-value.ensures c.in_ok-push.ensures.items
