-- One pass by rising number ends every cascade, over every run.
use Rattle.std.proofs.Common.{Option, Some, length, refl, subst, ◌≡◌}
use Rattle.str_model.proofs.OwnFacts.TurnsBelow.{Below}
use Rattle.str_model.proofs.OwnFacts.EarlierDependencies.{depends-act}
use Rattle.str_model.proofs.OwnFacts.LocalOwners.{Depends}
use Rattle.str_model.proofs.OwnFacts.DependenciesStand.{open_opening, pass_open, step_open}
use Rattle.str_model.proofs.Principle.SingleChanges.{InRule, Path, PathTo, along}
use Rattle.str_model.proofs.Principle.Everywhere.{at_each_event, at_place}
use Rattle.str_model.proofs.Principle.RulePaths.{rule-path}
use Rattle.spsi_laws.proofs.Dependencies.DependenciesHold.{stands_below}
use Rattle.spsi_laws.specs.Laws.Cascades.{CascadesEnd}
use Rattle.str_model.specs.declared.messages.Input.{Input}
use Rattle.str_model.specs.Pass.{pass_to}
use Rattle.str_model.specs.Steps.{rule}
use Rattle.str_model.specs.Views.{Doing, View, starts}
use Rattle.str_scene.specs.Scenes.{Here}

-- after a rule each dependency is of a transaction that is undecided or was decided since
ruled_depends : (here : Here) (input : Input) (v : View) (ruled : Doing) → rule here input (starts v) ≡ Some ruled → Depends here v → Depends here ruled.view
ruled_depends here input v ruled e h =
    let d : Doing = starts v in
    let p : Path here input InRule d ruled = subst (λ (o : Option Doing). PathTo here input InRule d o) e (rule-path here input InRule refl d) in
    along here input InRule (λ z. Depends here z.view) (depends-act here input InRule) d ruled p h

pub cascades_end : CascadesEnd
cascades_end scene ok events n v is input ruled m i k x dep e lt own op at =
    let here : Here = at_place scene n in
    let h = at_each_event scene ok (λ here v. Below here (length v.own) v) (λ here. open_opening here scene) (λ here good input v e p h. step_open here input v e p h) events n v is in
    let below = pass_open here input m ruled (ruled_depends here input v ruled e h.base) in
    stands_below here m (pass_to here m ruled).view below i k x dep lt own op at
