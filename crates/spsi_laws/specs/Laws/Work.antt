-- The law Work: each event that does something for the first time leaves less to do.
use Rattle.std.specs.List.{count_by}
use Rattle.std.specs.Prelude.{List, Some, [], false, not, slice_get, take, true, ℕ, ◌++◌, ◌+◌, ◌<◌, ◌∷◌, ◌≡◌, ◌≤◌}
use Rattle.str_scene.specs.declared.names.Event.{Event}
use Rattle.str_scene.specs.declared.names.Event.TheVariants.{Client}
use Rattle.str_scene.specs.declared.names.Event.TheVariants.{Deliver}
use Rattle.str_base.specs.declared.names.SessionId.{SessionId}
use Rattle.str_model.specs.Drains.{moves}
use Rattle.str_model.specs.Runs.{opening, run}
use Rattle.str_scene.specs.SceneLimits.{IsScene}
use Rattle.str_scene.specs.Scenes.{Scene, nth}
use Rattle.str_model.specs.Work.{body_weight, left, work}
use Rattle.str_model.specs.declared.messages.Message.{Message}

-- no event gives a message that an earlier event gave
abbrev pub NoRepeats : Scene → List Event → Type 0
NoRepeats scene events =
    (n i : ℕ) → slice_get events n ≡ Some (Deliver i) → nth (run scene (take n events)).given i ≡ Some true → ⊥

-- a run without repeats has at most so many events that are not idle
abbrev pub WorkBounded : Type 0
WorkBounded =
    (scene : Scene) → IsScene scene → (events : List Event) → NoRepeats scene events
    → count_by (λ d. not d.idle) (run scene events).journal ≤ work scene

-- at the opening all work is left
abbrev pub LeftAtOpening : Type 0
LeftAtOpening = (scene : Scene) → IsScene scene → left scene (opening scene) ≡ work scene

-- a first delivery leaves less
abbrev pub DeliveryLowers : Type 0
DeliveryLowers =
    (scene : Scene) → IsScene scene → (events : List Event) (i : ℕ) → nth (run scene events).given i ≡ Some false
    → left scene (run scene (events ++ Deliver i ∷ [])) < left scene (run scene events)

-- a client step that is not idle leaves less
abbrev pub StepLowers : Type 0
StepLowers =
    (scene : Scene) → IsScene scene → (events : List Event) (s : SessionId) (t : ℕ) → moves scene (run scene events) s.0 ≡ true
    → left scene (run scene (events ++ Client s t ∷ [])) < left scene (run scene events)

-- a message that is given again raises what is left by less than it counts for: by nothing but for a ReadReq, a Prepare and a Replicate
abbrev pub RepeatsRaise : Type 0
RepeatsRaise =
    (scene : Scene) → IsScene scene → (events : List Event) (i : ℕ) (m : Message) → nth (run scene events).given i ≡ Some true → nth (run scene events).sent i ≡ Some m
    → left scene (run scene (events ++ Deliver i ∷ [])) < left scene (run scene events) + body_weight scene m.body
