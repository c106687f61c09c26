use Rattle.std.proofs.Common.{sym, ◌∙◌}
use Rattle.node_core.proofs.Whole.BodySteps.{client_does, client_fits, deliver_does, deliver_fits, deliver_named, strange_rests}
use Rattle.node_core.proofs.work.Work.rule.Goals as goal

pub client-requires-clause-fits : goal.client-requires-clause-fits
client-requires-clause-fits c = let a = c.in-Client in client_fits c.args.self.now c.args.input.now a.session a.reading a.is c.requires.fits

pub returns-in-Client : goal.returns-in-Client
returns-in-Client c = let a = c.in-Client in client_does c.args.self.now c.args.input.now a.session a.reading a.is c.client.result c.client.new.self c.client.ensures

pub deliver-requires-clause-named : goal.deliver-requires-clause-named
deliver-requires-clause-named c = deliver_named c.args.self.now c.args.input.now c.in-Deliver.message (sym c.is_valid.ensures ∙ c.if-is_valid.true)

pub deliver-requires-clause-fits : goal.deliver-requires-clause-fits
deliver-requires-clause-fits c = let a = c.in-Deliver in deliver_fits c.args.self.now c.args.input.now a.message a.is (sym c.is_valid.ensures ∙ c.if-is_valid.true) c.requires.fits

pub returns-then-is_valid : goal.returns-then-is_valid
returns-then-is_valid c =
    let a = c.in-Deliver in
    deliver_does c.args.self.now c.args.input.now a.message a.is (sym c.is_valid.ensures ∙ c.if-is_valid.true) c.deliver.result c.deliver.new.self c.deliver.ensures

pub returns-else-is_valid : goal.returns-else-is_valid
returns-else-is_valid c = let a = c.in-Deliver in strange_rests c.args.self.now c.args.input.now a.message c.is_valid.result a.is c.is_valid.ensures c.if-is_valid.false
