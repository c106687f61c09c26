-- What a task writes of what it works on, and what is promised of that.
use Rattle.cluster_run.specs.PrunedStates.{kept_versions}
use Rattle.prune_laws.specs.PrunedClusters.{pruned_cluster_run}
use Rattle.request_frame.specs.Frames.{frames_of}
use Rattle.request_frame.specs.Spelling.{bytes_of}
use Rattle.si_laws.specs.GateLaw.{GateLaw}
use Rattle.si_laws.specs.Laws.Answers.{AbortsAnswered, CommitsAnswered}
use Rattle.si_laws.specs.SnapshotIsolation.{SIRun}
use Rattle.si_laws.specs.SpeculativeIsolation.{SPSI}
use Rattle.si_laws.specs.TrueCause.{TrueCause}
use Rattle.spsi_laws.specs.Laws.Ends.{NoneOpen}
use Rattle.std.specs.Prelude.{List, codes, decimal, false, min, take, true, ℕ, ⊤, ◌++◌, ◌-◌, ◌^◌, ◌≡◌}
use Rattle.str_model.specs.Drains.{cluster_events, cluster_run}
use Rattle.str_model.specs.Lines.{counts, end_line, render, render_j}
use Rattle.str_model.specs.Runs.{run}
use Rattle.str_model.specs.Traces.{trace}
use Rattle.str_scene.specs.SceneLimits.{IsScene}
use Rattle.str_scene.specs.Scenes.{Scene}
use Rattle.str_scene.specs.Spelling.{spelling}
use Rattle.strun.specs.Audits.{TellsIsolation, at_lines, verdict_line}
use Rattle.strun.specs.Banks.{BankRunHolds, balances_after, bank_lines}
use Rattle.strun.specs.Inputs.{Subject, origin_of}
use Rattle.strun_words.specs.declared.task.Task.{Task}
use Rattle.strun_words.specs.declared.task.Task.TheVariants.{At, Audit, Bank, Generate, Pack, Run, RunPruned, Show}

-- the line of so many kept versions
abbrev pub kept_line : ℕ → List ℕ
kept_line kept = codes "kept versions=" ++ decimal kept ++ codes "\n"

-- how many versions all nodes have after the run of a scene in a cluster that prunes; the greatest number of 64 bits where there are more
abbrev pub kept_after : Scene → ℕ
kept_after scene = min (kept_versions (pruned_cluster_run scene).world) (2 ^ 64 - 1)

-- what a task writes: of its one run the rendering (the events of the schedule, and then those of the drain where it has one), with or
-- without its journal, with the kept versions of the pruned run or the balances of a bank behind it, or the last line alone; the scene's frames, or its text; or of a history what
-- its audit finds, or the values at a timestamp
abbrev pub output : (task : Task) → Subject (origin_of task) → List ℕ
output (Run frames false) scene = render scene (cluster_run scene)
output (Run frames true) scene = render_j scene (cluster_run scene)
output RunPruned scene = render scene (cluster_run scene) ++ kept_line (kept_after scene)
output Pack scene = bytes_of (frames_of scene)
output Show scene = spelling scene
output (Generate seed false) scene = spelling scene
output (Generate seed true) scene = end_line (counts scene (cluster_run scene))
output Bank scene = render scene (cluster_run scene) ++ bank_lines scene.keys (balances_after scene)
output Audit a = verdict_line a.answers a.verdict
output (At time) a = at_lines time a.scene a.answers a.verdict

-- what is promised of the answers of the run of a scene
pub record RunHolds (scene : Scene) : Type 0 where
  -- the answers of that run are a run of the snapshot isolation machine
  pub isolation : SIRun scene (cluster_run scene).answers
  -- after each event, what undecided transactions have read meets speculative snapshot isolation at their nodes
  pub speculation : (n : ℕ) → SPSI (run scene (take n (cluster_events scene)))
  -- nothing commits before what it depends on or has read from has committed, and where that aborts, all that depend on it abort in the same event
  pub gate : GateLaw (trace scene (cluster_events scene))
  -- each transaction that aborts has the cause that it names
  pub causes : TrueCause scene (cluster_run scene) (trace scene (cluster_events scene))
  -- each answer of an abort names the cause for which its transaction aborted in an event
  pub aborts : AbortsAnswered scene (cluster_run scene) (trace scene (cluster_events scene))
  -- each answer of a commit has the final timestamp and the gets with which its transaction committed in an event
  pub commits : CommitsAnswered (cluster_run scene) (trace scene (cluster_events scene))
  -- where the scene has a drain, the last line has `held=0` and `unbegun=0`
  pub closed : scene.drain ≡ true → NoneOpen scene (cluster_run scene)

-- what is promised of what a task writes; a made scene keeps the limits of a scene
abbrev pub Promised : (task : Task) → Subject (origin_of task) → Type 0
Promised (Run frames journal) scene = RunHolds scene
Promised RunPruned scene = RunHolds scene
Promised Pack scene = ⊤
Promised Show scene = ⊤
Promised (Generate seed false) scene = IsScene scene
Promised (Generate seed true) scene = RunHolds scene
Promised Bank scene = RunHolds scene × BankRunHolds scene
Promised Audit a = TellsIsolation a
Promised (At time) a = TellsIsolation a
