use Rattle.std.proofs.Common.{ap, sym, ◌∙◌}
use Rattle.node_parts.specs.Sites.{has_script}
use Rattle.str_model.specs.Acts.{begun}
use Rattle.str_scene.specs.Scenes.{Here, nth}
use Rattle.node_core.proofs.Rules.ClientSteps.{begin_is, begin_none, begins}
use Rattle.node_core.proofs.Whole.Moves.{did_rule, fits_rule, idle_rule}
use Rattle.node_core.proofs.PassTurns.OwnMoments.{begun_moment}
use Rattle.node_core.proofs.work.Work.begin_at.Goals as goal

pub returns-then-not-has_script : goal.returns-then-not-has_script
returns-then-not-has_script c =
    let w = c.args.self.now in
    let has = c.has_script.ensures ∙ ap (λ (h : Here). has_script (nth h.scene.sessions c.args.place.session.0) c.args.place) c.site.ensures.value in
    idle_rule w _ (begin_none w.here c.args.place c.args.reading w.doing (sym has ∙ c.if-not-has_script.true))

pub begin-requires-clause-fits : goal.begin-requires-clause-fits
begin-requires-clause-fits c =
    let w = c.args.self.now in
    let has = c.has_script.ensures ∙ ap (λ (h : Here). has_script (nth h.scene.sessions c.args.place.session.0) c.args.place) c.site.ensures.value in
    fits_rule w _ (begun c.args.place c.begin_rs-rs.result.0 w.doing)
    (begin_is w.here c.args.place c.args.reading c.begin_rs-rs.result.0 w.doing (sym has ∙ c.if-not-has_script.false) c.begin_rs-rs.ensures) c.requires.fits

pub begin-requires-clause-facts : goal.begin-requires-clause-facts
begin-requires-clause-facts c =
    let w = c.args.self.now in
    let has = c.has_script.ensures ∙ ap (λ (h : Here). has_script (nth h.scene.sessions c.args.place.session.0) c.args.place) c.site.ensures.value in
    begun_moment w.here c.requires.facts.limits c.requires.facts.exists w.doing c.requires.facts.moment c.args.place c.begin_rs-rs.result.0
    (begins w c.args.place c.args.reading c.begin_rs-rs.result.0 c.requires.next (sym has ∙ c.if-not-has_script.false) c.begin_rs-rs.ensures)

pub returns : goal.returns
returns c =
    let w = c.args.self.now in
    let has = c.has_script.ensures ∙ ap (λ (h : Here). has_script (nth h.scene.sessions c.args.place.session.0) c.args.place) c.site.ensures.value in
    did_rule w c.begin.new.self _ (begun c.args.place c.begin_rs-rs.result.0 w.doing)
    (begin_is w.here c.args.place c.args.reading c.begin_rs-rs.result.0 w.doing (sym has ∙ c.if-not-has_script.false) c.begin_rs-rs.ensures) c.begin.ensures
