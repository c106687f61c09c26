use Rattle.std.proofs.Common.{◌+◌, refl}
use Rattle.race_round.proofs.Letters.{read_there, sent_first, sent_last, sent_more}
use Rattle.race_round.proofs.sends.send_all.Goals as goal

pub loop-place-init : goal.loop-place-init
loop-place-init c = sent_first _ _ _ _

pub loop-place-preserved : goal.loop-place-preserved
loop-place-preserved c =
    let s = c.send_one-away.ensures in
    sent_more _ _ _ _ _ _ _ _ _ c.index-messages-place.result c.loop-place.invariant (read_there _ _ _ c.loop-place-test.true c.index-messages-place.is)
    (s.sent (c.args.before + c.loop-place.place) refl) s.room s.away

pub returns-clause-away : goal.returns-clause-away
returns-clause-away c w m i = (sent_last _ _ _ _ _ _ _ c.loop-place-test.false c.loop-place.invariant).1 w m i
