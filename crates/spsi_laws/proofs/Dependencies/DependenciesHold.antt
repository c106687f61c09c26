-- After each event every dependency of an undecided transaction stands, over every run.
use Rattle.std.proofs.Common.{Some, add-sub_cancel, ap, false, length, slice_get, sym, ℕ, ◌-◌, ◌<◌, ◌∙◌, ◌≡◌}
use Rattle.std.proofs.lemmas.Option.{slice_get_within}
use Rattle.dependency_set.specs.declared.names.Dep.{Dep}
use Rattle.spsi_laws.specs.Laws.Dependencies.{DependenciesStand, StandsFor}
use Rattle.str_model.specs.Owned.{Owns}
use Rattle.str_model.specs.Turns.{own_fate, phase_fate}
use Rattle.str_model.specs.Turns
use Rattle.str_model.specs.Views.{Own, View, is_decided}
use Rattle.str_model.proofs.OwnFacts.TurnsBelow.{Below}
use Rattle.str_model.proofs.OwnFacts.DependenciesStand.{fate_open, open_opening, step_open}
use Rattle.str_model.proofs.Principle.Everywhere.{at_each_event}
use Rattle.str_scene.specs.Scenes.{Here}
use Rattle.str_base.proofs.Members.{in_at}
use Rattle.str_base.specs.Members.{In}

-- in a view whose first transactions depend on undecided ones alone each of their dependencies stands
pub stands_below : (here : Here) (m : ℕ) (v : View) → Below here m v → (i k : ℕ) (x : Own) (dep : Dep) → i < m → Owns v i x → is_decided x.phase ≡ false → slice_get x.snap.deps k ≡ Some dep → StandsFor v x dep
stands_below here m v h i k x dep lt own op at =
    let mem : In dep x.snap.deps = in_at x.snap.deps k dep at in
    let w = h.base.deps i x dep own op mem in
    let t = h.base.times.each w.place w.owner w.owns in
    let fate : phase_fate w.owner.phase ≡ Turns.Open =
    sym (ap own_fate (ap (λ m. slice_get v.own m) (ap (λ m. m - 1) w.seq ∙ add-sub_cancel w.place 1) ∙ w.owns)) ∙ h.below i x dep lt own op mem in
    record {
      place = w.place;
      owner = w.owner;
      seq = w.seq;
      owns = w.owns;
      rs = w.rs;
      open_ = fate_open v.floor w.lc w.owner t w.is_lc fate;
      lc = w.lc;
      is_lc = w.is_lc;
      above = (t.lc w.lc w.is_lc).0;
      below = w.below;
    }

pub dependencies_stand : DependenciesStand
dependencies_stand scene ok events n v is i k x dep own op at =
    let h = at_each_event scene ok (λ here v. Below here (length v.own) v) (λ here. open_opening here scene) (λ here good input v e p h. step_open here input v e p h) events n v is in
    stands_below _ (length v.own) v h i k x dep (slice_get_within v.own i x own) own op at
