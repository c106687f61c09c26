use Rattle.race_round.proofs.Letters.{SentSome}
use Rattle.race_round.proofs.sends.send_all.Given as goal

abbrev pub invariant-loop-place : goal.invariant-loop-place
invariant-loop-place l = SentSome l.initial.ends l.ends l.messages l.before l.stamp l.place l.away
