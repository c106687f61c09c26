-- Around a Local version, over every run: at each event, and that Pre and Local versions do not meet.
use Rattle.std.proofs.Common.{List, Some, ap, length, slice_get, suc, sym, zero, ℕ, ◌-◌, ◌∙◌, ◌≡◌}
use Rattle.std.proofs.lemmas.Option.{slice_get_within}
use Rattle.str_base.specs.declared.names.NodeId.{NodeId}
use Rattle.str_scene.specs.declared.names.Event.{Event}
use Rattle.str_scene.specs.SceneLimits.{IsScene}
use Rattle.str_scene.specs.Scenes.{Here, Scene, nth}
use Rattle.str_model.specs.declared.messages.Input.{Input}
use Rattle.str_model.specs.Owned.{IsView}
use Rattle.str_model.specs.Runs.{opening_view, run}
use Rattle.str_model.specs.Turns
use Rattle.str_model.specs.Turns.{CommittedAt, own_fate}
use Rattle.str_model.specs.Views.{Doing, View, starts}
use Rattle.str_model.proofs.Principle.StepPaths.{StepPath, step-keeps}
use Rattle.str_model.proofs.Principle.Everywhere.{at_each_event, at_place}
use Rattle.si_laws.proofs.Dependencies.AroundLocal.{Around, AroundAfter, EachAround, Stand, after_above, after_below, after_final, final_below, final_late, local_above, local_below, owner_at}
use Rattle.si_laws.proofs.Dependencies.AroundKept.{stand-act}
use Rattle.str_model.proofs.OwnFacts.TurnsBelow.{Below}
use Rattle.str_model.proofs.OwnFacts.DependenciesStand.{open_opening, step_open}
use Rattle.si_laws.specs.Laws.Apart.{PreApartLocal}
use Rattle.str_base.proofs.Members.{in_at}

-- after each event: what stands at each moment, and each dependency is undecided
pub record StandAfter (here : Here) (v : View) : Type 0 where
  pub stand : Stand here v
  pub deps_open : Below here (length v.own) v

pub stand_opening : (here : Here) (scene : Scene) → Stand here (opening_view scene)
stand_opening here scene = record {
  base = (open_opening here scene).base;
  finals = λ q h k. absurd h;
  around = λ i x p q own h k s j key ne. absurd h;
  apart = λ p q h k j l key. h;
}

pub stand_step : (here : Here) (input : Input) (v : View) (e : Doing) → StepPath here input (starts v) e → StandAfter here v → StandAfter here e.view
stand_step here input v e p h = record {
  stand = step-keeps here input (λ d. Stand here d.view) (λ w d f a s. stand-act here input w d f a s) (starts v) e p h.stand;
  deps_open = step_open here input v e p h.deps_open;
}

-- at each node after each event
pub stand_after : (scene : Scene) → IsScene scene → (events : List Event) (n : ℕ) (v : View) → IsView scene events n v → StandAfter (at_place scene n) v
stand_after scene ok events n v is =
    at_each_event scene ok StandAfter (λ here. record { stand = stand_opening here scene; deps_open = open_opening here scene }) (λ here good input u e p h. stand_step here input u e p h) events n v is

-- after each event no dependency is late
pub around_after : (here : Here) (v : View) → StandAfter here v → EachAround here v (AroundAfter here v)
around_after here v h i x p q own hp k s hq key ne = by_around (h.stand.around i x p q own hp k s hq key ne)
  where
    by_around : Around here v i x p.ts.0 q → AroundAfter here v i x p.ts.0 q
    by_around (final_below l le) = after_final l le
    by_around (final_late l n m f) =
        let o = owner_at here v p (h.stand.base.locals p hp k) i x own s in
        let t : own_fate (slice_get v.own (q.tx.seq - 1)) ≡ Turns.Open = ap (λ z. own_fate (slice_get v.own (z - 1))) (sym m.2) ∙ h.deps_open.below i x m.0 (slice_get_within v.own i x own) own o.0 m.1 in
        absurd (cc (sym f ∙ t))
    by_around (local_below l le m) = after_below l le m
    by_around (local_above j y l t oy le m) = after_above j y l t oy le m

-- the law's first part: Pre and Local versions of one key never stand together
pub pre_apart_local : (scene : Scene) → IsScene scene → (events : List Event) (n : NodeId) (v : View) → nth (run scene events).nodes n.0 ≡ Some v → PreApartLocal v
pre_apart_local scene ok events n v is q r hq hr key pre local = by_place n.0 is
  where
    by_place : (k : ℕ) → nth (run scene events).nodes k ≡ Some v → ⊥
    by_place zero e = absurd cc
    by_place (suc m) e = (stand_after scene ok events m v e).stand.apart r q (in_at v.versions hr.0 r hr.1) local (in_at v.versions hq.0 q hq.1) pre key
