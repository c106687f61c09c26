-- The law Drain: the drain goes on to where its rule stops, and there nothing is left to do.
use Rattle.std.specs.Prelude.{List, None, Some, [], ◌<◌, ◌∷◌, ◌≡◌}
use Rattle.str_scene.specs.declared.names.Event.{Event}
use Rattle.str_model.specs.Drains.{AtRest, drain_events, next_event}
use Rattle.str_model.specs.Owned.{OfEachState}
use Rattle.str_model.specs.Runs.{World, happens, run_from}
use Rattle.str_model.specs.Work.{left}
use Rattle.str_scene.specs.Scenes.{Scene}

-- the drain's events, from a state on
abbrev pub drain_from : Scene → World → List Event
drain_from scene w = drain_events scene (left scene w) w

-- one event of the drain leaves less
abbrev pub DrainLowers : Type 0
DrainLowers = OfEachState (λ scene w. (e : Event) → next_event scene w ≡ Some e → left scene (happens scene w e) < left scene w)

-- after the drain's events its rule names no event
abbrev pub DrainStops : Type 0
DrainStops = OfEachState (λ scene w. next_event scene (run_from scene w (drain_from scene w)) ≡ None)

-- the events are those that the rule names one after the other, and none where it names none
pub record FollowsRule (scene : Scene) (w : World) : Type 0 where
  pub on : (e : Event) → next_event scene w ≡ Some e → drain_from scene w ≡ e ∷ drain_from scene (happens scene w e)
  pub stop : next_event scene w ≡ None → drain_from scene w ≡ []

-- the drain's events follow the rule
abbrev pub DrainFollows : Type 0
DrainFollows = OfEachState (λ scene w. FollowsRule scene w)

-- the rule names no event exactly where the state is at rest
pub record StopsAtRest (scene : Scene) (w : World) : Type 0 where
  pub rest : next_event scene w ≡ None → AtRest scene w
  pub stop : AtRest scene w → next_event scene w ≡ None

-- the drain stops exactly at rest
abbrev pub DrainRests : Type 0
DrainRests = OfEachState (λ scene w. StopsAtRest scene w)
