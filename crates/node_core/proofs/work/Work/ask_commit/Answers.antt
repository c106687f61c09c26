use Rattle.std.proofs.Common.{sym, ◌∙◌}
use Rattle.node_core.proofs.Whole.Moves.{did_as, fits_as}
use Rattle.node_core.proofs.Rules.ScriptSteps.{ask_certifies, ask_closes, ask_is}
use Rattle.node_core.proofs.work.Work.ask_commit.Goals as goal

pub certify_now-requires-clause-own : goal.certify_now-requires-clause-own
certify_now-requires-clause-own c =
    let o = c.requires.own in
    ask_certifies c.args.self.now c.args.i o (sym (c.writes.ensures o.0 o.1) ∙ c.if-writes.true)

pub certify_now-requires-clause-fits : goal.certify_now-requires-clause-fits
certify_now-requires-clause-fits c =
    let o = c.requires.own in
    fits_as c.args.self.now _ _ (sym (ask_is c.args.self.now c.args.i o (sym (c.writes.ensures o.0 o.1) ∙ c.if-writes.true))) c.requires.fits

pub returns-then-writes : goal.returns-then-writes
returns-then-writes c =
    let o = c.requires.own in
    did_as c.args.self.now c.certify_now.new.self _ _ (ask_is c.args.self.now c.args.i o (sym (c.writes.ensures o.0 o.1) ∙ c.if-writes.true)) c.certify_now.ensures

pub returns-else-writes : goal.returns-else-writes
returns-else-writes c =
    let o = c.requires.own in
    did_as c.args.self.now c.set_phase.new.self _ _ (ask_closes c.args.self.now c.args.i o (sym (c.writes.ensures o.0 o.1) ∙ c.if-writes.false)) c.set_phase.ensures
