use Rattle.std.proofs.Common.{Some, ap, refl}
use Rattle.snapshot_read.specs.Turning.{turn_of as read_as}
use Rattle.str_model.specs.Acts.{in_phase, requested}
use Rattle.str_model.specs.Scripts.{with_value}
use Rattle.str_model.specs.Turns.{Away, Plain, Speculative, Wait}
use Rattle.str_model.specs.Views.{ReadWait, put}
use Rattle.node_core.proofs.Rules.ScriptSteps.{local_rs, own_there, plain_rs, read_does, read_facts, read_fits, read_key, read_mark, read_may, read_own}
use Rattle.node_core.proofs.work.Work.read_now.Goals as goal

pub read_turn-turn-requires-clause-key : goal.read_turn-turn-requires-clause-key
read_turn-turn-requires-clause-key c = read_key c.args.self.now c.args.i c.args.key c.requires.facts c.requires.own

pub rs-requires : goal.rs-requires
rs-requires c = own_there _ c.args.i c.args.self.now c.requires.own

pub mark-requires : goal.mark-requires
mark-requires c = read_mark c.args.self.now c.args.i c.args.key c.requires.facts c.requires.own

pub take_value-requires-clause-facts : goal.take_value-requires-clause-facts
take_value-requires-clause-facts c =
    let o = c.requires.own in
    read_facts c.args.self.now c.args.i c.args.key c.requires.facts o (read_as c.read_turn-turn.result) (c.read_turn-turn.ensures o.0 o.1) c.rs.result.0 (c.rs.ensures o.0 o.1) c.mark.new.self
    c.mark.ensures

pub take_value-requires-clause-own : goal.take_value-requires-clause-own
take_value-requires-clause-own c =
    let o = c.requires.own in
    let a = c.in-Plain in
    read_may c.args.self.now c.args.i c.args.key c.requires.facts o (read_as c.read_turn-turn.result) (c.read_turn-turn.ensures o.0 o.1) c.rs.result.0 (c.rs.ensures o.0 o.1) c.mark.new.self
    c.mark.ensures a.snap
    (plain_rs c.args.self.now c.args.i c.args.key c.requires.facts o (read_as c.read_turn-turn.result) (c.read_turn-turn.ensures o.0 o.1) c.rs.result.0 (c.rs.ensures o.0 o.1) c.mark.new.self
    c.mark.ensures a.value a.by a.fc.0 a.snap (ap read_as a.is))

pub take_value-requires-in-Speculative-clause-facts : goal.take_value-requires-in-Speculative-clause-facts
take_value-requires-in-Speculative-clause-facts c =
    let o = c.requires.own in
    read_facts c.args.self.now c.args.i c.args.key c.requires.facts o (read_as c.read_turn-turn.result) (c.read_turn-turn.ensures o.0 o.1) c.rs.result.0 (c.rs.ensures o.0 o.1) c.mark.new.self
    c.mark.ensures

pub take_value-requires-in-Speculative-clause-own : goal.take_value-requires-in-Speculative-clause-own
take_value-requires-in-Speculative-clause-own c =
    let o = c.requires.own in
    let a = c.in-Speculative in
    read_may c.args.self.now c.args.i c.args.key c.requires.facts o (read_as c.read_turn-turn.result) (c.read_turn-turn.ensures o.0 o.1) c.rs.result.0 (c.rs.ensures o.0 o.1) c.mark.new.self
    c.mark.ensures a.snap
    (local_rs c.args.self.now c.args.i c.args.key c.requires.facts o (read_as c.read_turn-turn.result) (c.read_turn-turn.ensures o.0 o.1) c.rs.result.0 (c.rs.ensures o.0 o.1) c.mark.new.self
    c.mark.ensures a.value a.by a.snap (ap read_as a.is))

pub set_phase-requires-clause-old : goal.set_phase-requires-clause-old
set_phase-requires-clause-old c =
    let o = c.requires.own in
    read_own c.args.self.now c.args.i c.args.key c.requires.facts o (read_as c.read_turn-turn.result) (c.read_turn-turn.ensures o.0 o.1) c.rs.result.0 (c.rs.ensures o.0 o.1) c.mark.new.self
    c.mark.ensures

pub request-requires-clause-own : goal.request-requires-clause-own
request-requires-clause-own c =
    let o = c.requires.own in
    read_own c.args.self.now c.args.i c.args.key c.requires.facts o (read_as c.read_turn-turn.result) (c.read_turn-turn.ensures o.0 o.1) c.rs.result.0 (c.rs.ensures o.0 o.1) c.mark.new.self
    c.mark.ensures

pub request-requires-clause-fits : goal.request-requires-clause-fits
request-requires-clause-fits c =
    let o = c.requires.own in
    let a = c.in-Remote in
    read_fits c.args.self.now c.args.i c.args.key c.requires.facts o (read_as c.read_turn-turn.result) (c.read_turn-turn.ensures o.0 o.1) c.rs.result.0 (c.rs.ensures o.0 o.1) c.mark.new.self
    c.mark.ensures (λ h x d. requested h c.args.i c.args.key a.master x d) (Away a.master) (ap read_as a.is) refl c.requires.fits

pub returns-in-Plain : goal.returns-in-Plain
returns-in-Plain c =
    let o = c.requires.own in
    let a = c.in-Plain in
    read_does c.args.self.now c.args.i c.args.key c.requires.facts o (read_as c.read_turn-turn.result) (c.read_turn-turn.ensures o.0 o.1) c.rs.result.0 (c.rs.ensures o.0 o.1) c.mark.new.self
    c.mark.ensures (λ h x d. with_value h c.args.i c.args.key a.value a.by a.snap x d) (Plain a.value a.by a.fc.0 a.snap) (ap read_as a.is) refl c.take_value.new.self c.take_value.ensures

pub returns-in-Speculative : goal.returns-in-Speculative
returns-in-Speculative c =
    let o = c.requires.own in
    let a = c.in-Speculative in
    read_does c.args.self.now c.args.i c.args.key c.requires.facts o (read_as c.read_turn-turn.result) (c.read_turn-turn.ensures o.0 o.1) c.rs.result.0 (c.rs.ensures o.0 o.1) c.mark.new.self
    c.mark.ensures (λ h x d. with_value h c.args.i c.args.key a.value (Some a.by) a.snap x d) (Speculative a.value a.by a.snap) (ap read_as a.is) refl c.take_value-in-Speculative.new.self
    c.take_value-in-Speculative.ensures

pub returns-in-Wait : goal.returns-in-Wait
returns-in-Wait c =
    let o = c.requires.own in
    let a = c.in-Wait in
    read_does c.args.self.now c.args.i c.args.key c.requires.facts o (read_as c.read_turn-turn.result) (c.read_turn-turn.ensures o.0 o.1) c.rs.result.0 (c.rs.ensures o.0 o.1) c.mark.new.self
    c.mark.ensures (λ h x d. put c.args.i (in_phase (ReadWait c.args.key) x) d) (Wait a.by) (ap read_as a.is) refl c.set_phase.new.self c.set_phase.ensures

pub returns-in-Remote : goal.returns-in-Remote
returns-in-Remote c =
    let o = c.requires.own in
    let a = c.in-Remote in
    read_does c.args.self.now c.args.i c.args.key c.requires.facts o (read_as c.read_turn-turn.result) (c.read_turn-turn.ensures o.0 o.1) c.rs.result.0 (c.rs.ensures o.0 o.1) c.mark.new.self
    c.mark.ensures (λ h x d. requested h c.args.i c.args.key a.master x d) (Away a.master) (ap read_as a.is) refl c.request.new.self c.request.ensures
