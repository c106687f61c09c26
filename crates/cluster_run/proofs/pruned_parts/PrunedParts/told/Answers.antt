use Rattle.std.proofs.Common.{ap, option_map, subst, sym, ◌∙◌, ◌≡◌}
use Rattle.cluster_run.proofs.Settling.{told_is, told_nobody, told_nothing}
use Rattle.cluster_run.proofs.pruned_parts.PrunedParts.told.Goals as goal
use Rattle.cluster_run.specs.Marks.{hearing}
use Rattle.cluster_run.specs.PrunedStates.{pruned_of}
use Rattle.std.specs.Prelude.{Some}
use Rattle.str_base.specs.declared.names.Ts.{Ts}
use Rattle.str_model.specs.PrunedRuns.{hears}
use Rattle.str_scene.specs.declared.names.Event.{Event}

pub returns-in_default-sender_of : goal.returns-in_default-sender_of
returns-in_default-sender_of c row =
    subst (λ (e : Event). hears (pruned_of c.args.self.now) e row ≡ row) (sym c.in-Deliver.is) (told_nobody (pruned_of c.args.self.now) c.in-Deliver.index row (sym c.in_default-sender_of.is ∙ c.sender_of.ensures))

pub returns-in_default-get : goal.returns-in_default-get
returns-in_default-get c row =
    subst (λ (e : Event). hears (pruned_of c.args.self.now) e row ≡ row) (sym c.in-Deliver.is)
    (told_nothing (pruned_of c.args.self.now) c.in-Deliver.index row (sym (ap (option_map (λ (t : Ts). t.0)) c.in_default-get.is) ∙ c.get.ensures))

pub returns : goal.returns
returns c row =
    subst (λ (e : Event). hears (pruned_of c.args.self.now) e row ≡ hearing (Some (record { place = c.in-Some.place; mark = c.in-Some-get.mark })) row) (sym c.in-Deliver.is)
    (told_is (pruned_of c.args.self.now) c.in-Deliver.index c.in-Some.place c.in-Some-get.mark row c.in-Some.ensures c.in-Some-get.ensures)
