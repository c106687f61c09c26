-- The law Answers: each answer was given where its transaction was decided, and tells that decision.
use Rattle.std.specs.Prelude.{List, Option, Some, option_map, ℕ, ◌+◌, ◌≡◌}
use Rattle.str_base.specs.declared.names.Cause.{Cause}
use Rattle.str_base.specs.declared.names.Ts.{Ts}
use Rattle.str_base.specs.declared.names.TxId.{TxId}
use Rattle.str_base.specs.Versions.{stamp}
use Rattle.str_model.specs.declared.messages.Answer.{Answer}
use Rattle.str_model.specs.declared.messages.Outcome.TheVariants.{Aborted as Aborts, Committed as Commits}
use Rattle.str_model.specs.declared.names.Got.{Got}
use Rattle.str_model.specs.Runs.{World, run}
use Rattle.str_model.specs.Traces.{Happening, MomentAt, trace}
use Rattle.str_model.specs.Views.{Committed, Doing, Own}
use Rattle.str_scene.specs.declared.names.Event.{Event}
use Rattle.str_scene.specs.SceneLimits.{IsScene}
use Rattle.str_scene.specs.Scenes.{Scene, nth}
use Rattle.si_laws.specs.SnapshotIsolation.{IsAnswer}
use Rattle.si_laws.specs.Standing.{IsOpen}
use Rattle.si_laws.specs.TrueCause.{AbortsAt, IsTrue}

-- between two moments of event j the transaction t commits: it stood like x at the first one, d
pub record CommitsAt (tr : List Happening) (j : ℕ) (t : TxId) (d : Doing) (x : Own) (fc : Option ℕ) : Type 0 where
  pub moment : ℕ
  pub next : Doing
  pub gone : Own
  pub lc : Option ℕ
  pub before : MomentAt tr j moment t.node d
  pub after : MomentAt tr j (moment + 1) t.node next
  pub stood : nth d.view.own t.seq ≡ Some x
  pub was_open : IsOpen x
  pub stands : nth next.view.own t.seq ≡ Some gone
  pub committed : gone.phase ≡ Committed lc fc

-- the answer has the transaction's place and snapshot
abbrev pub IsOf : Answer → Own → Type 0
IsOf a x = (a.place ≡ x.place) × (a.rs ≡ stamp x.snap.rs)

-- each answer of an abort: its transaction aborted in an event by the cause that the answer names, which is true
abbrev pub AbortsAnswered : Scene → World → List Happening → Type 0
AbortsAnswered scene w tr =
    (i : ℕ) (a : Answer) (cause : Cause) → IsAnswer w.answers i a → a.outcome ≡ Aborts cause
    → (j : ℕ) × (d : Doing) × (x : Own) × AbortsAt tr j a.tx d x cause × IsTrue scene w tr j a.tx d x cause × IsOf a x

-- each answer of a commit: its transaction committed in an event with that final timestamp, and its gets had given this
abbrev pub CommitsAnswered : World → List Happening → Type 0
CommitsAnswered w tr =
    (i : ℕ) (a : Answer) (fc : Option Ts) (gets : List Got) → IsAnswer w.answers i a → a.outcome ≡ Commits fc gets
    → (j : ℕ) × (d : Doing) × (x : Own) × CommitsAt tr j a.tx d x (option_map (λ t. t.0) fc) × (x.gets ≡ gets) × IsOf a x

-- the law of aborts
abbrev pub AbortsAnsweredHold : Type 0
AbortsAnsweredHold =
    (scene : Scene) → IsScene scene → (events : List Event) → AbortsAnswered scene (run scene events) (trace scene events)

-- the law of commits
abbrev pub CommitsAnsweredHold : Type 0
CommitsAnsweredHold =
    (scene : Scene) → IsScene scene → (events : List Event) → CommitsAnswered (run scene events) (trace scene events)
