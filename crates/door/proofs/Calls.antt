-- What a call comes to.
use Rattle.cluster_run.specs.Clusters.{IsRun, events_of}
use Rattle.door.specs.Tops.{IsDoorRun}
use Rattle.run_io.proofs.RunCalls.{run_done, run_unwritten}
use Rattle.run_io.specs.Inputs.{HasRead}
use Rattle.run_io.specs.RunCalls.{RunDone, RunFails}
use Rattle.run_io.specs.declared.inputs.Form.TheVariants.{Text}
use Rattle.spsi_laws.proofs.Speculation.HeadlineHolds.{headline_holds}
use Rattle.spsi_laws.specs.Laws.Ends.{Ended}
use Rattle.std.proofs.Common.{Bool, Err, IfErr, IsErrAnd, List, None, OnErr, OnOk, Option, Result, ap, arith, inl, refl, subst, sym, true, ℕ, ◌==◌, ◌∙◌, ◌≡◌}
use Rattle.std.proofs.lemmas.Result.{err_from_is_err_and}
use Rattle.std.specs.Io.KnownBytes.{Appends}
use Rattle.str_model.specs.Drains.{next_event}
use Rattle.str_model.specs.Lines.{render_j}
use Rattle.str_model.specs.Runs.{World}
use Rattle.str_outer.specs.Pieces.{AppendsPrefix}
use Rattle.str_scene.specs.SceneLimits.{IsScene}
use Rattle.str_scene.specs.Scenes.{Scene}
use Rattle.top_status.specs.Failures.{HasWriteCause}
use Rattle.top_status.specs.declared.failure.Failure.{Failure}
use Rattle.top_status.specs.declared.failure.Failure.TheVariants.{Memory}

-- a list that is told to be empty has no element
pub none_there : (n : ℕ) (b : Bool) → b ≡ (n == 0) → b ≡ true → n ≡ 0
none_there n b q e = grind (arith, q, e)

-- nothing was written then
pub memory_wanted : (n : ℕ) (b : Bool) (left left' : Option (List ℕ)) (read read' : ℕ) (held : Option (List ℕ)) (write write' : ℕ) (r : Result (Unit {0}) Failure) → b ≡ (n == 0)
    → b ≡ true → IsErrAnd r (λ f. f ≡ Memory) → IfErr r (RunFails (n ≡ 0) IsDoorRun left left' read read' held held write write')
memory_wanted n b left left' read read' held write write' r q e h =
    let p = err_from_is_err_and r h in
    subst (λ (s : Result (Unit {0}) Failure). IfErr s (RunFails (n ≡ 0) IsDoorRun left left' read read' held held write write')) (sym (p.1 ∙ ap Err p.2))
    (none_there n b q e, inl refl)

-- a run at the drain's stop is one that the program writes
pub is_door_run : (scene : Scene) (w : World) → IsScene scene → IsRun scene w → next_event scene w ≡ None → Ended scene w → IsDoorRun scene (events_of w.journal)
is_door_run scene w ok r stop ended =
    record {
      spelled = ap (λ (v : World). events_of v.journal) (sym r);
      stop = subst (λ (v : World). next_event scene v ≡ None) r stop;
      ended = subst (λ (v : World). Ended scene v) r ended;
      headline = headline_holds scene ok (events_of w.journal);
    }

-- it was written
pub door_done : (left left' held held' : Option (List ℕ)) (scene s : Scene) (w : World) (r : Result (Unit {0}) Failure) → HasRead Text left left' scene → s ≡ scene → IsScene s → IsRun s w
    → next_event s w ≡ None → Ended s w → OnOk r (Appends held held' (render_j s w)) → OnOk r (RunDone IsDoorRun left left' held held')
door_done left left' held held' scene s w r h q ok is stop ended o =
    run_done IsDoorRun left left' held held' s (events_of w.journal) w r (subst (HasRead Text left left') (sym q) h) (is_door_run s w ok is stop ended) is o

-- writing it failed
pub door_unwritten : (n : ℕ) (left left' : Option (List ℕ)) (read read' : ℕ) (held held' : Option (List ℕ)) (write write' : ℕ) (scene s : Scene) (w : World) (r : Result (Unit {0}) Failure) → n ≡ 0
    → HasRead Text left left' scene → s ≡ scene → IsScene s → IsRun s w → next_event s w ≡ None → Ended s w → OnErr r (AppendsPrefix held held' (render_j s w)) → IfErr r (HasWriteCause write write')
    → IfErr r (RunFails (n ≡ 0) IsDoorRun left left' read read' held held' write write')
door_unwritten n left left' read read' held held' write write' scene s w r asked h q ok is stop ended p cause =
    run_unwritten (n ≡ 0) IsDoorRun left left' read read' held held' write write' s (events_of w.journal) w r asked (subst (HasRead Text left left') (sym q) h) (is_door_run s w ok is stop ended) is p cause
