-- The law on valid messages: each message of a run goes to a node of the scene, which doesn't take it for a strange one.
use Rattle.std.specs.Prelude.{List, Some, slice_get, true, ℕ, ◌≡◌}
use Rattle.partition_map.specs.Maps.{Exists}
use Rattle.str_model.specs.Runs.{run}
use Rattle.str_model.specs.Strange.{is_valid}
use Rattle.str_model.specs.declared.messages.Message.{Message}
use Rattle.str_scene.specs.SceneLimits.{IsScene}
use Rattle.str_scene.specs.Scenes.{Scene}
use Rattle.str_scene.specs.declared.names.Event.{Event}

-- the law: the receiver of each message of a run exists, and the message is valid there
abbrev pub MessagesValid : Type 0
MessagesValid =
    (scene : Scene) → IsScene scene → (events : List Event) (i : ℕ) (m : Message) → slice_get (run scene events).sent i ≡ Some m
    → Exists m.receiver.0 scene.nodes × (is_valid (record { scene = scene; node = m.receiver }) m ≡ true)
