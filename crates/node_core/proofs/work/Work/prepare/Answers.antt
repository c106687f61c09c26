use Rattle.std.proofs.Common.{ap, refl}
use Rattle.prepare_master.specs.MasterTurns.{turn_of as judged_as}
use Rattle.str_model.specs.Acts.{accepted, refused, waits}
use Rattle.str_model.specs.declared.messages.Waiter.TheVariants.{Held}
use Rattle.str_model.specs.Proposals.{Accept, Ignore, Park, Refuse}
use Rattle.node_core.proofs.Whole.Moves.{idle_rule}
use Rattle.node_core.proofs.Rules.ReplicaSteps.{prepare_done, prepare_fits, prepare_place, prepare_ruled}
use Rattle.node_core.proofs.work.Work.prepare.Goals as goal

pub accept-requires-clause-can : goal.accept-requires-clause-can
accept-requires-clause-can c =
    prepare_place c.args.self.now c.requires.facts c.args.a (judged_as c.prepare_turn.result) (Accept c.in-Accept.ts.0) c.prepare_turn.ensures (ap judged_as c.in-Accept.is) c.requires.named (λ e. cc e)

pub accept-requires-clause-fits : goal.accept-requires-clause-fits
accept-requires-clause-fits c =
    prepare_fits c.args.self.now c.requires.facts c.args.a (judged_as c.prepare_turn.result) (Accept c.in-Accept.ts.0) c.prepare_turn.ensures (ap judged_as c.in-Accept.is)
    (λ h d. accepted h c.args.a c.in-Accept.ts.0 d) refl c.requires.fits

pub refuse-requires : goal.refuse-requires
refuse-requires c =
    prepare_fits c.args.self.now c.requires.facts c.args.a (judged_as c.prepare_turn.result) (Refuse c.in-Refuse.by c.in-Refuse.key) c.prepare_turn.ensures (ap judged_as c.in-Refuse.is)
    (λ h d. refused h c.args.a c.in-Refuse.by c.in-Refuse.key d) refl c.requires.fits

pub wait-requires : goal.wait-requires
wait-requires c =
    prepare_fits c.args.self.now c.requires.facts c.args.a (judged_as c.prepare_turn.result) (Park c.in-Park.by) c.prepare_turn.ensures (ap judged_as c.in-Park.is)
    (λ h d. waits (Held c.args.a) d) refl c.requires.fits

pub returns-in-Ignore : goal.returns-in-Ignore
returns-in-Ignore c =
    idle_rule c.args.self.now _ (prepare_done c.args.self.now c.requires.facts c.args.a (judged_as c.prepare_turn.result) Ignore c.prepare_turn.ensures (ap judged_as c.in-Ignore.is))

pub returns-in-Accept : goal.returns-in-Accept
returns-in-Accept c =
    prepare_ruled c.args.self.now c.requires.facts c.args.a (judged_as c.prepare_turn.result) (Accept c.in-Accept.ts.0) c.prepare_turn.ensures (ap judged_as c.in-Accept.is)
    (λ h d. accepted h c.args.a c.in-Accept.ts.0 d) refl c.accept.new.self c.accept.ensures

pub returns-in-Refuse : goal.returns-in-Refuse
returns-in-Refuse c =
    prepare_ruled c.args.self.now c.requires.facts c.args.a (judged_as c.prepare_turn.result) (Refuse c.in-Refuse.by c.in-Refuse.key) c.prepare_turn.ensures (ap judged_as c.in-Refuse.is)
    (λ h d. refused h c.args.a c.in-Refuse.by c.in-Refuse.key d) refl c.refuse.new.self c.refuse.ensures

pub returns-in-Park : goal.returns-in-Park
returns-in-Park c =
    prepare_ruled c.args.self.now c.requires.facts c.args.a (judged_as c.prepare_turn.result) (Park c.in-Park.by) c.prepare_turn.ensures (ap judged_as c.in-Park.is)
    (λ h d. waits (Held c.args.a) d) refl c.wait.new.self c.wait.ensures
