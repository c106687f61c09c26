use Rattle.std.proofs.Common.{None, ap, false, inl, refl, sym, ◌∙◌, ◌≡◌}
use Rattle.str_base.specs.declared.names.Cause.TheVariants.{Wish}
use Rattle.str_model.specs.Acts.{aborted}
use Rattle.str_model.specs.Scripts.{ask_commit, own_op, read_now}
use Rattle.str_model.specs.Views.{Active, is_decided}
use Rattle.tx_script.specs.declared.turns.Turn.TheVariants.{Ask, End, Wished}
use Rattle.node_core.proofs.Rules.ScriptSteps.{go_does, go_facts, go_fits, go_opens, go_own, go_turns}
use Rattle.node_core.proofs.Rules.ScriptTurns.{ask_needs, end_op}
use Rattle.node_core.specs.Reading.{MayRead}
use Rattle.node_core.proofs.work.Work.go_on.Goals as goal

pub operate-requires : goal.operate-requires
operate-requires c = go_turns c.args.self.now c.args.i c.requires.facts c.requires.own

pub read_now-requires-clause-facts : goal.read_now-requires-clause-facts
read_now-requires-clause-facts c = let o = c.requires.own in go_facts c.args.self.now c.args.i c.requires.facts o c.operate.result (c.operate.ensures.turn o.0 o.1) c.operate.new.self c.operate.ensures.done (Ask c.in-Ask.key) c.in-Ask.is refl

pub read_now-requires-clause-own : goal.read_now-requires-clause-own
read_now-requires-clause-own c =
    let o = c.requires.own in
    go_own c.args.self.now c.args.i c.requires.facts o c.operate.result (c.operate.ensures.turn o.0 o.1) c.operate.new.self c.operate.ensures.done (Ask c.in-Ask.key) c.in-Ask.is refl
    (λ h x. MayRead h c.in-Ask.key x) (inl o.2, ask_needs c.args.self.now.here o.0 c.in-Ask.key (sym (c.operate.ensures.turn o.0 o.1) ∙ c.in-Ask.is))

pub read_now-requires-clause-open_ : goal.read_now-requires-clause-open_
read_now-requires-clause-open_ c = let o = c.requires.own in go_opens c.args.self.now c.args.i c.requires.facts o c.operate.result (c.operate.ensures.turn o.0 o.1) c.operate.new.self c.operate.ensures.done (Ask c.in-Ask.key) c.in-Ask.is refl c.requires.open_

pub read_now-requires-clause-fits : goal.read_now-requires-clause-fits
read_now-requires-clause-fits c =
    let o = c.requires.own in
    go_fits c.args.self.now c.args.i c.requires.facts o c.operate.result (c.operate.ensures.turn o.0 o.1) c.operate.new.self c.operate.ensures.done (Ask c.in-Ask.key) c.in-Ask.is refl
    (λ h x d. read_now h c.args.i c.in-Ask.key x d) refl c.requires.fits

pub abort-requires-clause-facts : goal.abort-requires-clause-facts
abort-requires-clause-facts c = let o = c.requires.own in go_facts c.args.self.now c.args.i c.requires.facts o c.operate.result (c.operate.ensures.turn o.0 o.1) c.operate.new.self c.operate.ensures.done Wished c.in-Wished.is refl

pub abort-requires-clause-own : goal.abort-requires-clause-own
abort-requires-clause-own c =
    let o = c.requires.own in
    go_own c.args.self.now c.args.i c.requires.facts o c.operate.result (c.operate.ensures.turn o.0 o.1) c.operate.new.self c.operate.ensures.done Wished c.in-Wished.is refl
    (λ h x. is_decided x.phase ≡ false) (ap is_decided o.2)

pub abort-requires-clause-fits : goal.abort-requires-clause-fits
abort-requires-clause-fits c =
    let o = c.requires.own in
    go_fits c.args.self.now c.args.i c.requires.facts o c.operate.result (c.operate.ensures.turn o.0 o.1) c.operate.new.self c.operate.ensures.done Wished c.in-Wished.is refl
    (λ h x d. aborted h c.args.i Wish x d) refl c.requires.fits

pub ask_commit-requires-clause-facts : goal.ask_commit-requires-clause-facts
ask_commit-requires-clause-facts c = let o = c.requires.own in go_facts c.args.self.now c.args.i c.requires.facts o c.operate.result (c.operate.ensures.turn o.0 o.1) c.operate.new.self c.operate.ensures.done End c.in-End.is refl

pub ask_commit-requires-clause-own : goal.ask_commit-requires-clause-own
ask_commit-requires-clause-own c =
    let o = c.requires.own in
    go_own c.args.self.now c.args.i c.requires.facts o c.operate.result (c.operate.ensures.turn o.0 o.1) c.operate.new.self c.operate.ensures.done End c.in-End.is refl
    (λ h x. (x.phase ≡ Active) × (own_op h x ≡ None)) (o.2, end_op c.args.self.now.here o.0 (sym (c.operate.ensures.turn o.0 o.1) ∙ c.in-End.is))

pub ask_commit-requires-clause-open_ : goal.ask_commit-requires-clause-open_
ask_commit-requires-clause-open_ c = let o = c.requires.own in go_opens c.args.self.now c.args.i c.requires.facts o c.operate.result (c.operate.ensures.turn o.0 o.1) c.operate.new.self c.operate.ensures.done End c.in-End.is refl c.requires.open_

pub ask_commit-requires-clause-fits : goal.ask_commit-requires-clause-fits
ask_commit-requires-clause-fits c =
    let o = c.requires.own in
    go_fits c.args.self.now c.args.i c.requires.facts o c.operate.result (c.operate.ensures.turn o.0 o.1) c.operate.new.self c.operate.ensures.done End c.in-End.is refl
    (λ h x d. ask_commit h c.args.i x x.writes d) refl c.requires.fits

pub returns-in-Ask : goal.returns-in-Ask
returns-in-Ask c =
    let o = c.requires.own in
    go_does c.args.self.now c.args.i c.requires.facts o c.operate.result (c.operate.ensures.turn o.0 o.1) c.operate.new.self c.operate.ensures.done (Ask c.in-Ask.key) c.in-Ask.is refl
    (λ h x d. read_now h c.args.i c.in-Ask.key x d) refl c.read_now.new.self c.read_now.ensures

pub returns-in-Wished : goal.returns-in-Wished
returns-in-Wished c =
    let o = c.requires.own in
    go_does c.args.self.now c.args.i c.requires.facts o c.operate.result (c.operate.ensures.turn o.0 o.1) c.operate.new.self c.operate.ensures.done Wished c.in-Wished.is refl
    (λ h x d. aborted h c.args.i Wish x d) refl c.abort.new.self c.abort.ensures

pub returns-in-End : goal.returns-in-End
returns-in-End c =
    let o = c.requires.own in
    go_does c.args.self.now c.args.i c.requires.facts o c.operate.result (c.operate.ensures.turn o.0 o.1) c.operate.new.self c.operate.ensures.done End c.in-End.is refl
    (λ h x d. ask_commit h c.args.i x x.writes d) refl c.ask_commit.new.self c.ask_commit.ensures
