use Rattle.std.proofs.Common.{ap, arith, subst, sym, ◌+◌, ◌∙◌}
use Rattle.node_parts.proofs.Owning.LastPlaces.{last_within}
use Rattle.node_parts.specs.Phases.{phase_of}
use Rattle.str_scene.specs.declared.names.TxPlace.{TxPlace}
use Rattle.node_core.specs.Beginning.{MayBegin, script_of}
use Rattle.node_core.specs.Working.{FitsRule, Ruled}
use Rattle.str_model.specs.Clients.{begin, place_in}
use Rattle.str_model.specs.Scripts.{op_or_commit, own_op}
use Rattle.str_model.specs.Views.{is_decided}
use Rattle.str_model.proofs.ViewFacts.QuietTurns.{open_does}
use Rattle.node_core.proofs.Rules.ClientSteps.{open_less, rule_active, rule_decided, rule_first, rule_waits}
use Rattle.node_core.proofs.Rules.ClientWork.{index_few, last_owns, next_begins, session_at, session_none}
use Rattle.node_core.proofs.Whole.Moves.{did_as, did_rule, fits_as, fits_rule, fits_rule_as, idle_rule, rule_as}
use Rattle.node_core.proofs.Parts.PhaseWords.{is_active}
use Rattle.node_core.proofs.work.Work.client.Goals as goal

pub returns-then-not-has_session : goal.returns-then-not-has_session
returns-then-not-has_session c = idle_rule c.args.self.now _ (session_none c.args.self.now c.args.session c.site.result.now c.has_session.result c.site.ensures.value c.has_session.ensures c.if-not-has_session.true c.args.reading)

pub begin_at-requires-clause-fits : goal.begin_at-requires-clause-fits
begin_at-requires-clause-fits c =
    let a = session_at c.args.self.now c.args.session c.site.result.now c.has_session.result c.site.ensures.value c.has_session.ensures c.if-not-has_session.false in
    fits_rule_as c.args.self.now _ _ (rule_first c.args.self.now.here c.args.session c.args.reading c.args.self.now.doing a (sym c.last_of.ensures ∙ c.in_default.is)) c.requires.fits

pub returns-in_default : goal.returns-in_default
returns-in_default c =
    let a = session_at c.args.self.now c.args.session c.site.result.now c.has_session.result c.site.ensures.value c.has_session.ensures c.if-not-has_session.false in
    rule_as c.args.self.now c.begin_at.new.self _ _ c.begin_at.result (rule_first c.args.self.now.here c.args.session c.args.reading c.args.self.now.doing a (sym c.last_of.ensures ∙ c.in_default.is)) c.begin_at.ensures

pub phase-phase-requires : goal.phase-phase-requires
phase-phase-requires c = last_within _ c.args.self.now.doing.view.own c.in-Some.i (sym c.last_of.ensures ∙ c.in-Some.is)

pub place-index-requires : goal.place-index-requires
place-index-requires c = last_within _ c.args.self.now.doing.view.own c.in-Some.i (sym c.last_of.ensures ∙ c.in-Some.is)

pub overflow_add-index : goal.overflow_add-index
overflow_add-index c =
    let a = session_at c.args.self.now c.args.session c.site.result.now c.has_session.result c.site.ensures.value c.has_session.ensures c.if-not-has_session.false in
    let l = sym c.last_of.ensures ∙ c.in-Some.is in
    let x = last_owns c.args.self.now c.args.session a c.in-Some.i l in
    let q = index_few c.args.self.now c.requires.facts c.in-Some.i x.0 x.1 in
    let e = ap (λ (z : TxPlace). z.index) (c.place-index.ensures x.0 x.1) in
    omega (arith, q, e)

pub begin_at-requires-then-is_decided-clause-next : goal.begin_at-requires-then-is_decided-clause-next
begin_at-requires-then-is_decided-clause-next c =
    let a = session_at c.args.self.now c.args.session c.site.result.now c.has_session.result c.site.ensures.value c.has_session.ensures c.if-not-has_session.false in
    let l = sym c.last_of.ensures ∙ c.in-Some.is in
    let x = last_owns c.args.self.now c.args.session a c.in-Some.i l in
    let f = sym (ap is_decided (c.phase-phase.ensures x.0 x.1)) ∙ (sym c.is_decided.ensures ∙ c.if-is_decided.true) in
    subst (λ (z : TxPlace). MayBegin c.args.self.now (place_in c.args.session (z.index + 1))) (sym (c.place-index.ensures x.0 x.1)) (next_begins c.args.self.now c.args.session a c.in-Some.i l x.0 x.1 f)

pub begin_at-requires-then-is_decided-clause-fits : goal.begin_at-requires-then-is_decided-clause-fits
begin_at-requires-then-is_decided-clause-fits c =
    let a = session_at c.args.self.now c.args.session c.site.result.now c.has_session.result c.site.ensures.value c.has_session.ensures c.if-not-has_session.false in
    let l = sym c.last_of.ensures ∙ c.in-Some.is in
    let x = last_owns c.args.self.now c.args.session a c.in-Some.i l in
    let f = sym (ap is_decided (c.phase-phase.ensures x.0 x.1)) ∙ (sym c.is_decided.ensures ∙ c.if-is_decided.true) in
    subst (λ (z : TxPlace). FitsRule c.args.self.now (begin c.args.self.now.here (place_in c.args.session (z.index + 1)) c.args.reading (script_of c.args.self.now.here (place_in c.args.session (z.index + 1))) c.args.self.now.doing)) (sym (c.place-index.ensures x.0 x.1))
    (fits_rule_as c.args.self.now _ _ (rule_decided c.args.self.now.here c.args.session c.args.reading c.args.self.now.doing a c.in-Some.i x.0 l x.1 f) c.requires.fits)

pub returns-then-is_decided : goal.returns-then-is_decided
returns-then-is_decided c =
    let a = session_at c.args.self.now c.args.session c.site.result.now c.has_session.result c.site.ensures.value c.has_session.ensures c.if-not-has_session.false in
    let l = sym c.last_of.ensures ∙ c.in-Some.is in
    let x = last_owns c.args.self.now c.args.session a c.in-Some.i l in
    let f = sym (ap is_decided (c.phase-phase.ensures x.0 x.1)) ∙ (sym c.is_decided.ensures ∙ c.if-is_decided.true) in
    rule_as c.args.self.now c.begin_at-then-is_decided.new.self _ _ c.begin_at-then-is_decided.result (rule_decided c.args.self.now.here c.args.session c.args.reading c.args.self.now.doing a c.in-Some.i x.0 l x.1 f)
    (subst (λ (z : TxPlace). Ruled (begin c.args.self.now.here (place_in c.args.session (z.index + 1)) c.args.reading (script_of c.args.self.now.here (place_in c.args.session (z.index + 1))) c.args.self.now.doing) c.begin_at-then-is_decided.result c.args.self.now c.begin_at-then-is_decided.new.self)
    (c.place-index.ensures x.0 x.1) c.begin_at-then-is_decided.ensures)

pub returns-in_default-phase : goal.returns-in_default-phase
returns-in_default-phase c =
    let a = session_at c.args.self.now c.args.session c.site.result.now c.has_session.result c.site.ensures.value c.has_session.ensures c.if-not-has_session.false in
    let l = sym c.last_of.ensures ∙ c.in-Some.is in
    let x = last_owns c.args.self.now c.args.session a c.in-Some.i l in
    let f = sym (ap is_decided (c.phase-phase.ensures x.0 x.1)) ∙ (sym c.is_decided.ensures ∙ c.if-is_decided.false) in
    let n = c.in_default-phase.not-Active in
    idle_rule c.args.self.now _ (rule_waits c.args.self.now.here c.args.session c.args.reading c.args.self.now.doing a c.in-Some.i x.0 l x.1 f (λ e. n (is_active c.phase-phase.result (c.phase-phase.ensures x.0 x.1 ∙ e))))

pub go_on-requires-clause-own : goal.go_on-requires-clause-own
go_on-requires-clause-own c =
    let a = session_at c.args.self.now c.args.session c.site.result.now c.has_session.result c.site.ensures.value c.has_session.ensures c.if-not-has_session.false in
    let l = sym c.last_of.ensures ∙ c.in-Some.is in
    let x = last_owns c.args.self.now c.args.session a c.in-Some.i l in
    (x.0, x.1, sym (c.phase-phase.ensures x.0 x.1) ∙ ap phase_of c.in-Active.is)

pub go_on-requires-clause-open_ : goal.go_on-requires-clause-open_
go_on-requires-clause-open_ c =
    let m = last_within _ c.args.self.now.doing.view.own c.in-Some.i (sym c.last_of.ensures ∙ c.in-Some.is) in
    open_less c.args.self.now.doing.view (c.in-Some.i + 1) _ (omega (arith, m)) c.requires.open_

pub go_on-requires-clause-fits : goal.go_on-requires-clause-fits
go_on-requires-clause-fits c =
    let a = session_at c.args.self.now c.args.session c.site.result.now c.has_session.result c.site.ensures.value c.has_session.ensures c.if-not-has_session.false in
    let l = sym c.last_of.ensures ∙ c.in-Some.is in
    let x = last_owns c.args.self.now c.args.session a c.in-Some.i l in
    let e = sym (c.phase-phase.ensures x.0 x.1) ∙ ap phase_of c.in-Active.is in
    fits_as c.args.self.now _ _ (sym (open_does c.in-Some.i (λ z. op_or_commit c.args.self.now.here c.in-Some.i z (own_op c.args.self.now.here z)) c.args.self.now.doing x.0 x.1 (ap is_decided e)))
    (fits_rule c.args.self.now _ _ (rule_active c.args.self.now.here c.args.session c.args.reading c.args.self.now.doing a c.in-Some.i x.0 l x.1 e) c.requires.fits)

pub returns : goal.returns
returns c =
    let a = session_at c.args.self.now c.args.session c.site.result.now c.has_session.result c.site.ensures.value c.has_session.ensures c.if-not-has_session.false in
    let l = sym c.last_of.ensures ∙ c.in-Some.is in
    let x = last_owns c.args.self.now c.args.session a c.in-Some.i l in
    let e = sym (c.phase-phase.ensures x.0 x.1) ∙ ap phase_of c.in-Active.is in
    did_rule c.args.self.now c.go_on.new.self _ _ (rule_active c.args.self.now.here c.args.session c.args.reading c.args.self.now.doing a c.in-Some.i x.0 l x.1 e)
    (did_as c.args.self.now c.go_on.new.self _ _ (open_does c.in-Some.i (λ z. op_or_commit c.args.self.now.here c.in-Some.i z (own_op c.args.self.now.here z)) c.args.self.now.doing x.0 x.1 (ap is_decided e)) c.go_on.ensures)
