use Rattle.std.proofs.Common.{IfOk, ap, length, sym, subst, ◌∙◌, ◌≡◌}
use Rattle.bank_book.proofs.Tallied.{same_length, tallies_of}
use Rattle.bank_book.proofs.balances.balances.Goals as goal

pub tallies-requires : goal.tallies-requires
tallies-requires c =
    ap length c.as_slice.ensures.value ∙ (same_length c.args.scene.now c.args.book.now.accounts.items c.args.book.now.amounts.items c.requires.bank ∙ ap length (sym c.as_slice-2.ensures.value))

pub returns : goal.returns
returns c =
    subst (λ gs. IfOk c.tallies.result (λ gots. gots.items ≡ gs))
    (tallies_of c.args.scene.now c.args.book.now.accounts.items c.args.book.now.amounts.items c.args.answers.now.items c.keeps_limits.ensures c.requires.bank c.requires.run
    c.as_slice.result.now c.as_slice-2.result.now c.as_slice-3.result.now c.as_slice.ensures.value c.as_slice-2.ensures.value c.as_slice-3.ensures.value)
    c.tallies.ensures
