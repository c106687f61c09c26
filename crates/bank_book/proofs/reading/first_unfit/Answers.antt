use Rattle.bank_book.proofs.FirstUnfit.{all_passed, first_of_session, passed_more}
use Rattle.bank_book.proofs.reading.first_unfit.Goals as goal

pub returns-in-Some-clause-some : goal.returns-in-Some-clause-some
returns-in-Some-clause-some c =
    first_of_session c.args.scene.now c.args.accounts.now c.sessions-sessions.result.now c.loop-i.i c.index-sessions-i.result c.txs.result.now c.skipped.result c.in-Some.index
    c.sessions-sessions.ensures.value c.loop-i-test.true c.index-sessions-i.is c.txs.ensures c.skipped.ensures c.loop-i.invariant c.in-Some.ensures.some

pub loop-i-preserved : goal.loop-i-preserved
loop-i-preserved c =
    passed_more c.args.accounts.now c.sessions-sessions.result.now c.loop-i.i c.index-sessions-i.result c.txs.result.now c.skipped.result c.loop-i-test.true c.index-sessions-i.is c.txs.ensures
    c.skipped.ensures c.loop-i.invariant c.in_default.ensures.none

pub returns-clause-none : goal.returns-clause-none
returns-clause-none c =
    all_passed c.args.scene.now c.args.accounts.now c.sessions-sessions.result.now c.loop-i.i c.sessions-sessions.ensures.value c.loop-i-test.false c.loop-i.invariant
