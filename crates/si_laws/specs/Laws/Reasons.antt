-- The law Reasons: the gate law and true causes of every run.
use Rattle.std.specs.Prelude.{List, Option, Some, slice_get, ℕ, ◌≡◌}
use Rattle.str_base.specs.declared.names.Cause.{Cause}
use Rattle.str_model.specs.declared.messages.Answer.{Answer}
use Rattle.str_model.specs.declared.messages.Outcome.TheVariants.{Aborted as Aborts}
use Rattle.str_model.specs.Owned.{OfEachState}
use Rattle.str_model.specs.Views.{Aborted, Own}
use Rattle.si_laws.specs.Standing.{Begun}
use Rattle.str_scene.specs.declared.names.Event.{Event}
use Rattle.si_laws.specs.GateLaw.{GateLaw}
use Rattle.str_model.specs.Runs.{World, run}
use Rattle.str_scene.specs.SceneLimits.{IsScene}
use Rattle.str_scene.specs.Scenes.{Scene}
use Rattle.str_model.specs.Traces.{trace}
use Rattle.si_laws.specs.TrueCause.{TrueCause}

-- the law
abbrev pub ReasonsHold : Type 0
ReasonsHold =
    (scene : Scene) → IsScene scene → (events : List Event)
    → GateLaw (trace scene events) × TrueCause scene (run scene events) (trace scene events)

-- each answer of an abort names the cause with which its transaction stands aborted
abbrev pub AnswersName : World → Type 0
AnswersName w =
    (i : ℕ) (a : Answer) (cause : Cause) → slice_get w.answers i ≡ Some a → a.outcome ≡ Aborts cause → (x : Own) × (lc : Option ℕ) × Begun w a.tx x × (x.phase ≡ Aborted lc cause)

-- the law
abbrev pub CausesNamed : Type 0
CausesNamed = OfEachState (λ scene w. AnswersName w)

-- the first half of the law: the gate law of every run
abbrev pub GateLawHolds : Type 0
GateLawHolds = (scene : Scene) → IsScene scene → (events : List Event) → GateLaw (trace scene events)
