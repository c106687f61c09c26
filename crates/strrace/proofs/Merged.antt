-- The cluster that goes on from a race is the run of the merge of its logs.
use Rattle.std.proofs.Common.{Err, IfErr, IfOk, List, Ok, OnErr, OnOk, Option, Result, None, [], ap, refl, subst, sym, ℕ, ◌++◌, ◌∙◌, ◌≡◌}
use Rattle.cluster_run.specs.Clusters.{ClusterState, IsRun, drained_from, events_of as journal_events, resumed, views_of}
use Rattle.lamport_log.proofs.MergeRuns.MergeHolds.{merge_holds}
use Rattle.lamport_log.specs.Closed.{Closed}
use Rattle.lamport_log.specs.Logs.{Log}
use Rattle.lamport_log.specs.Merge.{merge_of, world_told}
use Rattle.lamport_log.specs.Merging.{IsRun as IsRunOf, Lists}
use Rattle.lamport_log.specs.Replays.{AllReplay, AreLogs}
use Rattle.node_core.specs.Working.{NodeState}
use Rattle.run_io.proofs.RunCalls.{run_done, run_unwritten}
use Rattle.run_io.specs.Inputs.{HasRead}
use Rattle.run_io.specs.RunCalls.{RunDone, RunFails}
use Rattle.run_io.specs.declared.inputs.Form.TheVariants.{Text}
use Rattle.spsi_laws.proofs.Speculation.HeadlineHolds.{headline_holds}
use Rattle.spsi_laws.specs.Laws.Drain.{drain_from}
use Rattle.spsi_laws.specs.Laws.Ends.{Ended}
use Rattle.std.specs.Io.KnownBytes.{Appends}
use Rattle.str_model.proofs.Principle.Everywhere.{run-append}
use Rattle.str_model.specs.Drains.{next_event}
use Rattle.str_model.specs.Lines.{render_j}
use Rattle.str_model.specs.Runs.{World, run}
use Rattle.str_outer.specs.Pieces.{AppendsPrefix}
use Rattle.str_scene.specs.SceneLimits.{IsScene}
use Rattle.str_scene.specs.Scenes.{Scene}
use Rattle.str_scene.specs.declared.names.Event.{Event}
use Rattle.strrace.proofs.Spelled.{spelled}
use Rattle.strrace.specs.RaceRuns.{AreRaceLogs, IsRaceRun, IsRaced, merged_events}
use Rattle.strrace.specs.RaceWords.{AskRace, AskRounds}
use Rattle.top_status.specs.Failures.{HasWriteCause}
use Rattle.top_status.specs.declared.failure.Failure.{Failure}

-- ---- the cluster after the rounds

module _ (scene : Scene) (ns : List NodeState) (logs : List Log) (are : AreLogs scene logs) (replay : AllReplay scene logs (views_of ns)) (closed : Closed logs)
    (lists : Lists) (is : IsRunOf lists (run scene (merged_events logs))) where
  law : run scene (merged_events logs) ≡ world_told (views_of ns) (merge_of logs)
  law = merge_holds scene logs (views_of ns) are replay closed

  -- what the nodes and the merged lists show is the run of the merge
  pub resumes : resumed ns lists.sent lists.delivered lists.journal lists.answers ≡ run scene (merged_events logs)
  resumes = λ j. record {
    nodes = sym (ap (λ (w : World). w.nodes) law) j;
    sent = is.sent j;
    given = is.delivered j;
    journal = is.journal j;
    answers = is.answers j;
  }

  -- and so the run of its own journal
  pub resumes_run : IsRun scene (resumed ns lists.sent lists.delivered lists.journal lists.answers)
  resumes_run = resumes ∙ ap (run scene) (sym (ap journal_events is.journal ∙ spelled scene (merged_events logs)))

-- where that cluster is made, it is seen so
pub world_is : {E : Type 0} (r : Result ClusterState E) (w v : World) → w ≡ v → IfOk r (λ c. c.world ≡ w) → IfOk r (λ c. c.world ≡ v)
world_is (Err e) w v q h = tt
world_is (Ok c) w v q h = h ∙ q

-- ---- the drain

-- a race is its rounds and the drain after them
pub raced : (scene : Scene) (count : ℕ) (logs : List Log) (w v : World) → AreRaceLogs scene count logs → w ≡ run scene (merged_events logs) → v ≡ drained_from scene w
    → next_event scene v ≡ None → IsRaced scene count v
raced scene count logs w v are ran drains stop =
    let merged : List Event = merged_events logs in
    let drain : List Event = drain_from scene (run scene merged) in
    let all : v ≡ run scene (merged ++ drain) =
    drains ∙ (ap (drained_from scene) ran ∙ sym (run-append scene (run scene []) merged drain)) in
    record {
      events = merged ++ drain;
      race = record {
        logs = logs;
        are = are;
        whole = refl;
        stop = subst (λ (u : World). next_event scene u ≡ None) all stop;
      };
      ran = all;
    }

-- ---- what is written

-- the run of a race is one that the program writes for its words
pub race_run : (words : List (List ℕ)) (scene : Scene) (count : ℕ) (w : World) → AskRounds words count → IsScene scene → (r : IsRaced scene count w) → Ended scene w
    → IsRaceRun words scene r.events
race_run words scene count w asked limits r ended = record {
  count = count;
  asked = asked;
  race = r.race;
  spelled = spelled scene r.events;
  headline = headline_holds scene limits r.events;
  ended = subst (λ (u : World). Ended scene u) r.ran ended;
}

-- the run was written
pub race_done : {E : Type 0} (words : List (List ℕ)) (left left' held held' : Option (List ℕ)) (scene s : Scene) (count : ℕ) (w : World) (r : Result (Unit {0}) E) → AskRounds words count
    → HasRead Text left left' scene → s ≡ scene → IsRaced scene count w → Ended s w → OnOk r (Appends held held' (render_j s w)) → OnOk r (RunDone (IsRaceRun words) left left' held held')
race_done words left left' held held' scene s count w r asked has same race ended written =
    run_done (IsRaceRun words) left left' held held' scene race.events w r has
    (race_run words scene count w asked has.spelled.scene_ race (subst (λ (z : Scene). Ended z w) same ended)) race.ran
    (subst (λ (z : Scene). OnOk r (Appends held held' (render_j z w))) same written)

-- writing it failed
pub race_unwritten : (words : List (List ℕ)) (left left' : Option (List ℕ)) (read read' : ℕ) (held held' : Option (List ℕ)) (write write' : ℕ) (scene s : Scene) (count : ℕ) (w : World)
    (r : Result (Unit {0}) Failure) → AskRounds words count → HasRead Text left left' scene → s ≡ scene → IsRaced scene count w → Ended s w
    → OnErr r (AppendsPrefix held held' (render_j s w)) → IfErr r (HasWriteCause write write')
    → IfErr r (RunFails (AskRace words) (IsRaceRun words) left left' read read' held held' write write')
race_unwritten words left left' read read' held held' write write' scene s count w r asked has same race ended partial cause =
    run_unwritten (AskRace words) (IsRaceRun words) left left' read read' held held' write write' scene race.events w r (count, asked) has
    (race_run words scene count w asked has.spelled.scene_ race (subst (λ (z : Scene). Ended z w) same ended)) race.ran
    (subst (λ (z : Scene). OnErr r (AppendsPrefix held held' (render_j z w))) same partial) cause

-- where a race was written, the words ask for one
pub race_asked : {E : Type 0} (words : List (List ℕ)) (left left' held held' : Option (List ℕ)) (r : Result (Unit {0}) E) → OnOk r (RunDone (IsRaceRun words) left left' held held')
    → OnOk r (AskRace words)
race_asked words left left' held held' (Err e) d = tt
race_asked words left left' held held' (Ok u) d = (d.fits.count, d.fits.asked)
