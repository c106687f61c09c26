-- The one run of a scene, and what is promised of it.
use Rattle.std.proofs.Common.{Bool, List, [], ap, append-nil, cond, false, sym, true, ◌++◌, ◌∙◌, ◌≡◌}
use Rattle.cluster_run.specs.Clusters.{drained_from}
use Rattle.spsi_laws.proofs.Rest.RunEnds.{ends_at_rest}
use Rattle.spsi_laws.proofs.Speculation.HeadlineHolds.{headline_holds}
use Rattle.spsi_laws.specs.Headline.{Headline}
use Rattle.str_model.proofs.Principle.Everywhere.{run-append}
use Rattle.str_model.specs.Drains.{cluster_events, cluster_run, drain_events, drained}
use Rattle.str_model.specs.Runs.{World, opening, run_from}
use Rattle.str_model.specs.Work.{left}
use Rattle.str_scene.specs.SceneLimits.{IsScene}
use Rattle.str_scene.specs.Scenes.{Scene}
use Rattle.str_scene.specs.declared.names.Event.{Event}
use Rattle.strun.specs.Outputs.{RunHolds}

-- the run of a scene without a drain
run_schedule : (scene : Scene) (w : World) → w ≡ run_from scene (opening scene) scene.schedule → scene.drain ≡ false → w ≡ cluster_run scene
unfolding cluster_run cluster_events
run_schedule scene w e k =
    let r : World = run_from scene (opening scene) scene.schedule in
    let none : drained scene r ≡ [] = ap (λ (b : Bool). cond b (drain_events scene (left scene r) r) []) k in
    e ∙ sym (ap (λ (es : List Event). run_from scene (opening scene) (scene.schedule ++ es)) none ∙ ap (λ (es : List Event). run_from scene (opening scene) es) (append-nil scene.schedule))

-- the run of a scene with a drain
run_drained : (scene : Scene) (w v : World) → w ≡ run_from scene (opening scene) scene.schedule → scene.drain ≡ true → v ≡ drained_from scene w → v ≡ cluster_run scene
unfolding cluster_run cluster_events
run_drained scene w v e k d =
    let r : World = run_from scene (opening scene) scene.schedule in
    let events : drained scene r ≡ drain_events scene (left scene r) r = ap (λ (b : Bool). cond b (drain_events scene (left scene r) r) []) k in
    d ∙ (ap (drained_from scene) e ∙ sym (run-append scene (opening scene) scene.schedule (drained scene r) ∙ ap (λ (es : List Event). run_from scene r es) events))

-- the schedule of a scene from a state, for a scene and a state that are told to be these
from_opening : (scene s : Scene) (w w' : World) → s ≡ scene → w ≡ opening scene → w' ≡ run_from s w s.schedule → w' ≡ run_from scene (opening scene) scene.schedule
from_opening scene s w w' q o e = e ∙ (ap (λ (z : Scene). run_from z w z.schedule) q ∙ ap (λ (z : World). run_from scene z scene.schedule) o)

-- the run of a scene without a drain, as a cluster does it
pub ran_schedule : (scene s : Scene) (w w' : World) → s ≡ scene → w ≡ opening scene → w' ≡ run_from s w s.schedule → scene.drain ≡ false → w' ≡ cluster_run scene
ran_schedule scene s w w' q o e k = run_schedule scene w' (from_opening scene s w w' q o e) k

-- the run of a scene with a drain, as a cluster does it
pub ran_drained : (scene s s' : Scene) (w w' v : World) → s ≡ scene → w ≡ opening scene → w' ≡ run_from s w s.schedule → s' ≡ scene → scene.drain ≡ true
    → v ≡ drained_from s' w' → v ≡ cluster_run scene
ran_drained scene s s' w w' v q o e q' k d = run_drained scene w' v (from_opening scene s w w' q o e) k (d ∙ ap (λ (z : Scene). drained_from z w') q')

-- all that is promised of the run of a scene holds
pub run_holds : (scene : Scene) → IsScene scene → RunHolds scene
unfolding cluster_run
run_holds scene s =
    let h : Headline scene (cluster_events scene) = headline_holds scene s (cluster_events scene) in
    record {
      isolation = h.isolation;
      speculation = h.speculation;
      gate = h.gate;
      causes = h.causes;
      aborts = h.aborts;
      commits = h.commits;
      closed = λ d. (ends_at_rest scene s d).closed;
    }
