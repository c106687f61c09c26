use Rattle.std.proofs.Common.{inl, inr, rules, subst, sym}
use Rattle.history_reading.proofs.EndingsTaken.{refused_end, refused_one}
use Rattle.history_reading.proofs.Spelled.Zips.{if_err, on_ok}
use Rattle.history_reading.specs.Reading.{TakesEnd}
use Rattle.history_reading.proofs.reading.Answers.take.Goals as goal

pub returns-in-Some-clause-taken : goal.returns-in-Some-clause-taken
returns-in-Some-clause-taken c = on_ok c.end.result (λ k. (c.if-self.false, inr (subst (λ xs. TakesEnd xs c.args.self.now c.end.new.self) (sym c.in-Some.ensures.rest) k))) c.end.ensures.taken

pub returns-in-Some-clause-bad : goal.returns-in-Some-clause-bad
returns-in-Some-clause-bad c =
    if_err c.end.result (λ f b. inr (c.if-self.false, refused_end c.args.scene.now c.args.text.now c.in-Some.rest.now c.args.self.now.list.items f c.in-Some.ensures.rest b)) c.end.ensures.bad

pub returns-in-None-clause-taken : goal.returns-in-None-clause-taken
returns-in-None-clause-taken c = on_ok c.push.result (λ k. (c.if-self.false, inl k)) c.push.ensures.taken

pub returns-in-None-clause-bad : goal.returns-in-None-clause-bad
returns-in-None-clause-bad c =
    if_err c.push.result (λ f b. inr (c.if-self.false, refused_one c.args.scene.now c.args.text.now c.args.self.now.list.items f (c.in-None.ensures.none (search rules)) b)) c.push.ensures.bad
