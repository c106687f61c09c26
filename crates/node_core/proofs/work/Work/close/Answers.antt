use Rattle.std.proofs.Common.{ap, sym, ◌∙◌}
use Rattle.node_core.proofs.PassTurns.TurnSteps.{close_rests, closing_does, closing_fits, closing_waits}
use Rattle.str_base.proofs.Lists.{slice_get_there}
use Rattle.str_model.specs.Views.{Closing, is_decided, lc_of}
use Rattle.node_core.proofs.work.Work.close.Goals as goal

pub returns-then-depends : goal.returns-then-depends
returns-then-depends c =
    let o = slice_get_there c.args.self.now.doing.view.own c.args.i c.requires.there in
    closing_waits c.args.self.now c.args.i o.0 o.1 c.in-Closing.wish (sym (c.in-Closing.ensures o.0 o.1)) (sym (c.depends.ensures o.0 o.1) ∙ c.if-depends.true)

pub abort-requires-clause-own : goal.abort-requires-clause-own
abort-requires-clause-own c =
    let o = slice_get_there c.args.self.now.doing.view.own c.args.i c.requires.there in
    (o.0, o.1, ap is_decided (sym (c.in-Closing.ensures o.0 o.1)))

pub abort-requires-clause-fits : goal.abort-requires-clause-fits
abort-requires-clause-fits c =
    let o = slice_get_there c.args.self.now.doing.view.own c.args.i c.requires.there in
    let e = sym (c.in-Closing.ensures o.0 o.1) ∙ ap Closing c.if-wish.true in
    closing_fits c.args.self.now c.args.i o.0 o.1 _ e (sym (c.depends.ensures o.0 o.1) ∙ c.if-depends.false) c.requires.fits

pub close_free-requires-clause-own : goal.close_free-requires-clause-own
close_free-requires-clause-own c =
    let o = slice_get_there c.args.self.now.doing.view.own c.args.i c.requires.there in
    (o.0, o.1, (ap is_decided (sym (c.in-Closing.ensures o.0 o.1)), ap lc_of (sym (c.in-Closing.ensures o.0 o.1))))

pub close_free-requires-clause-fits : goal.close_free-requires-clause-fits
close_free-requires-clause-fits c =
    let o = slice_get_there c.args.self.now.doing.view.own c.args.i c.requires.there in
    let e = sym (c.in-Closing.ensures o.0 o.1) ∙ ap Closing c.if-wish.false in
    closing_fits c.args.self.now c.args.i o.0 o.1 _ e (sym (c.depends.ensures o.0 o.1) ∙ c.if-depends.false) c.requires.fits

pub returns-then-wish : goal.returns-then-wish
returns-then-wish c =
    let o = slice_get_there c.args.self.now.doing.view.own c.args.i c.requires.there in
    let e = sym (c.in-Closing.ensures o.0 o.1) ∙ ap Closing c.if-wish.true in
    closing_does c.args.self.now c.args.i o.0 o.1 _ e (sym (c.depends.ensures o.0 o.1) ∙ c.if-depends.false) c.abort.new.self c.abort.ensures

pub returns-else-wish : goal.returns-else-wish
returns-else-wish c =
    let o = slice_get_there c.args.self.now.doing.view.own c.args.i c.requires.there in
    let e = sym (c.in-Closing.ensures o.0 o.1) ∙ ap Closing c.if-wish.false in
    closing_does c.args.self.now c.args.i o.0 o.1 _ e (sym (c.depends.ensures o.0 o.1) ∙ c.if-depends.false) c.close_free.new.self c.close_free.ensures

pub returns-in_default : goal.returns-in_default
returns-in_default c =
    let o = slice_get_there c.args.self.now.doing.view.own c.args.i c.requires.there in
    let n = c.in_default in
    close_rests c.args.self.now c.args.i o.0 o.1 c.phase.result (c.phase.ensures o.0 o.1) n.not-Closing n.not-Local n.not-Global
