use Rattle.bank_book.proofs.NoBook.{is_bank}
use Rattle.bank_book.proofs.reading.book.Goals as goal

pub returns-clause-ok : goal.returns-clause-ok
returns-clause-ok c =
    is_bank c.args.scene.now c.script-opening.result.now c.in_ok-accounts.accounts.items c.as_slice-2.result.now c.in_ok-amounts.amounts.items c.is_opening.result c.script-opening.ensures c.is_opening.ensures
    c.if-not-is_opening.false c.in_ok-accounts.ensures c.as_slice-2.ensures.value c.in_ok-amounts.ensures c.in_default.ensures.none
