use Rattle.std.proofs.Common.{ap, sym, ◌∙◌}
use Rattle.cascade_abort.specs.declared.fates.DepTurn.TheVariants.{Late, Lost}
use Rattle.str_base.specs.declared.names.Cause.TheVariants.{Late as IsLate, Lost as IsLost}
use Rattle.str_base.specs.declared.names.TxId.{TxId}
use Rattle.str_model.specs.Acts.{aborted}
use Rattle.str_model.specs.Turns.{dep_turn, left_by}
use Rattle.str_model.specs.Views.{Own, put}
use Rattle.str_scene.specs.Scenes.{Here}
use Rattle.node_core.proofs.PassTurns.TurnSteps.{resolve_does, resolve_facts, resolve_fits, resolve_keeps, resolve_open, resolve_rests}
use Rattle.node_core.proofs.work.Work.resolve.Goals as goal

pub returns-then-not-depends : goal.returns-then-not-depends
returns-then-not-depends c = let o = c.requires.own in resolve_rests c.args.self.now c.args.i o (sym (c.depends.ensures o.0 o.1) ∙ c.if-not-depends.true)

pub abort-requires-clause-facts : goal.abort-requires-clause-facts
abort-requires-clause-facts c = let o = c.requires.own in resolve_facts c.args.self.now c.args.i o c.requires.facts c.look.result (c.look.ensures.turn o.0 o.1) c.look.new.self c.look.ensures.done

pub abort-requires-clause-own : goal.abort-requires-clause-own
abort-requires-clause-own c = let o = c.requires.own in resolve_open c.args.self.now c.args.i o c.requires.facts c.look.result (c.look.ensures.turn o.0 o.1) c.look.new.self c.look.ensures.done

pub abort-requires-clause-fits : goal.abort-requires-clause-fits
abort-requires-clause-fits c =
    let o = c.requires.own in
    let node = c.id-node.ensures.value ∙ ap (λ (h : Here). h.node) c.site.ensures.value in
    let y : Own = record (o.0) { snap = left_by (dep_turn c.args.self.now.doing.view.own o.0.snap) o.0.snap } in
    resolve_fits c.args.self.now c.args.i o c.requires.facts c.look.result (c.look.ensures.turn o.0 o.1) c.look.new.self c.look.ensures.done
    (λ h x d. aborted h c.args.i (IsLost (record { node = c.id-node.result; seq = c.in-Lost.by })) x d) (Lost c.in-Lost.by) c.in-Lost.is
    (ap (λ n. let t : TxId = record { node = n; seq = c.in-Lost.by } in aborted c.args.self.now.here c.args.i (IsLost t) y (put c.args.i y c.args.self.now.doing)) (sym node)) c.requires.fits

pub abort-requires-in-Late-clause-facts : goal.abort-requires-in-Late-clause-facts
abort-requires-in-Late-clause-facts c = let o = c.requires.own in resolve_facts c.args.self.now c.args.i o c.requires.facts c.look.result (c.look.ensures.turn o.0 o.1) c.look.new.self c.look.ensures.done

pub abort-requires-in-Late-clause-own : goal.abort-requires-in-Late-clause-own
abort-requires-in-Late-clause-own c = let o = c.requires.own in resolve_open c.args.self.now c.args.i o c.requires.facts c.look.result (c.look.ensures.turn o.0 o.1) c.look.new.self c.look.ensures.done

pub abort-requires-in-Late-clause-fits : goal.abort-requires-in-Late-clause-fits
abort-requires-in-Late-clause-fits c =
    let o = c.requires.own in
    let node = c.id-node.ensures.value ∙ ap (λ (h : Here). h.node) c.site.ensures.value in
    let y : Own = record (o.0) { snap = left_by (dep_turn c.args.self.now.doing.view.own o.0.snap) o.0.snap } in
    resolve_fits c.args.self.now c.args.i o c.requires.facts c.look.result (c.look.ensures.turn o.0 o.1) c.look.new.self c.look.ensures.done
    (λ h x d. aborted h c.args.i (IsLate (record { node = c.id-node.result; seq = c.in-Late.by }) c.in-Late.fc) x d) (Late c.in-Late.by c.in-Late.fc) c.in-Late.is
    (ap (λ n. let t : TxId = record { node = n; seq = c.in-Late.by } in aborted c.args.self.now.here c.args.i (IsLate t c.in-Late.fc) y (put c.args.i y c.args.self.now.doing)) (sym node)) c.requires.fits

pub returns-in-Keep : goal.returns-in-Keep
returns-in-Keep c = let o = c.requires.own in resolve_keeps c.args.self.now c.args.i o c.requires.facts c.look.result (c.look.ensures.turn o.0 o.1) c.look.new.self c.look.ensures.done c.in-Keep.is

pub returns-in-Lost : goal.returns-in-Lost
returns-in-Lost c =
    let o = c.requires.own in
    let node = c.id-node.ensures.value ∙ ap (λ (h : Here). h.node) c.site.ensures.value in
    let y : Own = record (o.0) { snap = left_by (dep_turn c.args.self.now.doing.view.own o.0.snap) o.0.snap } in
    resolve_does c.args.self.now c.args.i o c.requires.facts c.look.result (c.look.ensures.turn o.0 o.1) c.look.new.self c.look.ensures.done
    (λ h x d. aborted h c.args.i (IsLost (record { node = c.id-node.result; seq = c.in-Lost.by })) x d) (Lost c.in-Lost.by) c.in-Lost.is
    (ap (λ n. let t : TxId = record { node = n; seq = c.in-Lost.by } in aborted c.args.self.now.here c.args.i (IsLost t) y (put c.args.i y c.args.self.now.doing)) (sym node)) c.abort.new.self c.abort.ensures

pub returns-in-Late : goal.returns-in-Late
returns-in-Late c =
    let o = c.requires.own in
    let node = c.id-node.ensures.value ∙ ap (λ (h : Here). h.node) c.site.ensures.value in
    let y : Own = record (o.0) { snap = left_by (dep_turn c.args.self.now.doing.view.own o.0.snap) o.0.snap } in
    resolve_does c.args.self.now c.args.i o c.requires.facts c.look.result (c.look.ensures.turn o.0 o.1) c.look.new.self c.look.ensures.done
    (λ h x d. aborted h c.args.i (IsLate (record { node = c.id-node.result; seq = c.in-Late.by }) c.in-Late.fc) x d) (Late c.in-Late.by c.in-Late.fc) c.in-Late.is
    (ap (λ n. let t : TxId = record { node = n; seq = c.in-Late.by } in aborted c.args.self.now.here c.args.i (IsLate t c.in-Late.fc) y (put c.args.i y c.args.self.now.doing)) (sym node)) c.abort-in-Late.new.self
    c.abort-in-Late.ensures
