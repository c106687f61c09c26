use Rattle.std.proofs.Common.{ap, arith, is_some, not, sym, ◌+◌, ◌∙◌}
use Rattle.node_parts.proofs.Owning.LastPlaces.{last_within}
use Rattle.node_parts.specs.Phases.{phase_of}
use Rattle.node_parts.specs.Sites.{has_script}
use Rattle.str_model.specs.Clients.{place_in}
use Rattle.str_model.specs.Views.{is_decided}
use Rattle.str_scene.specs.declared.names.TxPlace.{TxPlace}
use Rattle.str_scene.specs.Scenes.{nth}
use Rattle.node_core.proofs.Rules.ClientWork.{idle_active, idle_first, idle_next, idle_waits, index_few, last_owns, session_at, session_none}
use Rattle.node_core.proofs.Parts.PhaseWords.{is_active}
use Rattle.node_core.proofs.work.Work.client_idle.Goals as goal

pub returns-then-not-has_session : goal.returns-then-not-has_session
returns-then-not-has_session c t = sym (ap (λ o. not (is_some o)) (session_none c.args.self.now c.args.session c.site.result.now c.has_session.result c.site.ensures.value c.has_session.ensures c.if-not-has_session.true t))

pub returns-in_default : goal.returns-in_default
returns-in_default c t =
    let a = session_at c.args.self.now c.args.session c.site.result.now c.has_session.result c.site.ensures.value c.has_session.ensures c.if-not-has_session.false in
    idle_first c.args.self.now c.args.session t a (sym c.last_of.ensures ∙ c.in_default.is) c.site-in_default.result.now c.site-in_default.ensures.value c.has_script.result c.has_script.ensures

pub phase-phase-requires : goal.phase-phase-requires
phase-phase-requires c = last_within _ c.args.self.now.doing.view.own c.in-Some.i (sym c.last_of.ensures ∙ c.in-Some.is)

pub place-index-requires : goal.place-index-requires
place-index-requires c = last_within _ c.args.self.now.doing.view.own c.in-Some.i (sym c.last_of.ensures ∙ c.in-Some.is)

pub overflow_add-index : goal.overflow_add-index
overflow_add-index c =
    let a = session_at c.args.self.now c.args.session c.site.result.now c.has_session.result c.site.ensures.value c.has_session.ensures c.if-not-has_session.false in
    let l = sym c.last_of.ensures ∙ c.in-Some.is in
    let x = last_owns c.args.self.now c.args.session a c.in-Some.i l in
    let q = index_few c.args.self.now c.requires c.in-Some.i x.0 x.1 in
    let e = ap (λ (z : TxPlace). z.index) (c.place-index.ensures x.0 x.1) in
    omega (arith, q, e)

pub returns-then-is_decided : goal.returns-then-is_decided
returns-then-is_decided c t =
    let a = session_at c.args.self.now c.args.session c.site.result.now c.has_session.result c.site.ensures.value c.has_session.ensures c.if-not-has_session.false in
    let l = sym c.last_of.ensures ∙ c.in-Some.is in
    let x = last_owns c.args.self.now c.args.session a c.in-Some.i l in
    let f = sym (ap is_decided (c.phase-phase.ensures x.0 x.1)) ∙ (sym c.is_decided.ensures ∙ c.if-is_decided.true) in
    let p = c.place-index.ensures x.0 x.1 in
    idle_next c.args.self.now c.args.session t a c.in-Some.i x.0 l x.1 f c.site-then-is_decided.result.now c.site-then-is_decided.ensures.value c.has_script-then-is_decided.result
    (c.has_script-then-is_decided.ensures ∙ ap (λ (z : TxPlace). has_script (nth c.site-then-is_decided.result.now.scene.sessions c.args.session.0) (place_in c.args.session (z.index + 1))) p)

pub returns-in_default-phase : goal.returns-in_default-phase
returns-in_default-phase c t =
    let a = session_at c.args.self.now c.args.session c.site.result.now c.has_session.result c.site.ensures.value c.has_session.ensures c.if-not-has_session.false in
    let l = sym c.last_of.ensures ∙ c.in-Some.is in
    let x = last_owns c.args.self.now c.args.session a c.in-Some.i l in
    let f = sym (ap is_decided (c.phase-phase.ensures x.0 x.1)) ∙ (sym c.is_decided.ensures ∙ c.if-is_decided.false) in
    let n = c.in_default-phase.not-Active in
    idle_waits c.args.self.now c.args.session t a c.in-Some.i x.0 l x.1 f (λ e. n (is_active c.phase-phase.result (c.phase-phase.ensures x.0 x.1 ∙ e)))

pub returns : goal.returns
returns c t =
    let a = session_at c.args.self.now c.args.session c.site.result.now c.has_session.result c.site.ensures.value c.has_session.ensures c.if-not-has_session.false in
    let l = sym c.last_of.ensures ∙ c.in-Some.is in
    let x = last_owns c.args.self.now c.args.session a c.in-Some.i l in
    idle_active c.args.self.now c.args.session t a c.in-Some.i x.0 l x.1 (sym (c.phase-phase.ensures x.0 x.1) ∙ ap phase_of c.in-Active.is)
