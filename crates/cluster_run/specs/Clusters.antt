-- What contracts see of a cluster and of its parts.
use Rattle.node_parts.specs.Sending.{OutState}
use Rattle.node_core.specs.Working.{NodeState, Steps, here_of}
use Rattle.cluster_run.specs.declared.parts.Parts.{Parts}
use Rattle.spsi_laws.specs.Laws.Drain.{drain_from}
use Rattle.std.specs.List.{sum_by}
use Rattle.std.specs.Prelude.{Bool, List, MatchOption, None, Option, Some, [], false, length, map, slice_get, slice_set, take, true, vec_capacity, vec_len, ℕ, ◌++◌, ◌+◌, ◌<◌, ◌∷◌, ◌≡◌, ◌≤◌}
use Rattle.str_base.specs.declared.names.NodeId.{NodeId}
use Rattle.str_model.specs.declared.messages.Input.{Input}
use Rattle.str_model.specs.declared.messages.Answer.{Answer}
use Rattle.str_model.specs.declared.names.Done.{Done}
use Rattle.str_model.specs.declared.messages.Message.{Message}
use Rattle.str_model.specs.Pruning.{pruned}
use Rattle.str_model.specs.Runs.{World, happens, run, run_from}
use Rattle.str_model.specs.Steps.{need, step}
use Rattle.str_model.specs.Views.{Doing, View}
use Rattle.str_scene.specs.declared.names.Event.{Event}
use Rattle.str_scene.specs.SceneLimits.{IsScene}
use Rattle.str_scene.specs.Scenes.{Scene, nth}

-- a cluster: its scene, and all that has happened
pub record ClusterState : Type 0 where
  pub scene : Scene
  pub world : World

-- ---- nodes

-- the views of these nodes
abbrev pub views_of : List NodeState → List View
views_of ns = map (λ (n : NodeState). n.view) ns

-- the i-th of these nodes, counted from 0, is the scene's node i + 1
pub record ArePlaced (scene : Scene) (ns : List NodeState) : Type 0 where
  pub scene_ : (i : ℕ) (n : NodeState) → slice_get ns i ≡ Some n → n.scene ≡ scene
  pub id : (i : ℕ) (n : NodeState) → slice_get ns i ≡ Some n → n.id ≡ record { 0 = i + 1 }

-- the views are as they were, and so is where the nodes are placed
pub record SameNodes (old new : List NodeState) : Type 0 where
  pub views : views_of new ≡ views_of old
  pub placed : (scene : Scene) → ArePlaced scene old → ArePlaced scene new

-- the node at the place has pruned at a mark
pub record PrunedAt (g i : ℕ) (old new : List NodeState) : Type 0 where
  pub views : (v : View) → slice_get (views_of old) i ≡ Some v → views_of new ≡ slice_set (views_of old) i (pruned g v)
  pub placed : (scene : Scene) → ArePlaced scene old → ArePlaced scene new

-- there are so many free places for the step of a node on an input, if the node is there
abbrev pub HasRoom : ℕ → Input → Option NodeState → Type 0
HasRoom room input None = Unit {0}
HasRoom room input (Some n) = need (here_of n) input n.view ≤ room

-- the node has room for its step on the input, if it is there
abbrev pub IsReady : Input → Option NodeState → Type 0
IsReady input None = Unit {0}
IsReady input (Some n) = need (here_of n) input n.view ≤ n.room

-- the node at the place stepped and did d
abbrev pub DidAt : List NodeState → List NodeState → ℕ → NodeState → OutState → OutState → Doing → Type 0
DidAt old new i n before after d = (m : NodeState) × (new ≡ slice_set old i m) × Steps n m before after d

-- nothing has changed
pub record IsIdle (old new : List NodeState) (before after : OutState) (moves : Bool) : Type 0 where
  pub moves_ : moves ≡ false
  pub nodes : new ≡ old
  pub out : after ≡ before

-- the node at the place stepped on the input; nothing has changed where there is none or the input is idle
abbrev pub StepsAt : Input → List NodeState → List NodeState → ℕ → Option NodeState → OutState → OutState → Bool → Type 0
StepsAt input old new i None before after moves = IsIdle old new before after moves
StepsAt input old new i (Some n) before after moves =
    MatchOption (step (here_of n) input n.view) (IsIdle old new before after moves) (λ d. (moves ≡ true) × DidAt old new i n before after d)

-- ---- parts

-- the world that these parts show
abbrev pub world_of : Parts → World
world_of p =
    record { nodes = views_of p.nodes.items; sent = p.out.messages; given = p.given.flags; journal = p.journal.items; answers = p.out.answers }

-- the world of these nodes, messages, given flags, journal and answers
abbrev pub resumed : List NodeState → List Message → List Bool → List Done → List Answer → World
resumed nodes sent given journal answers = record { nodes = views_of nodes; sent = sent; given = given; journal = journal; answers = answers }

-- the events of a journal
abbrev pub events_of : List Done → List Event
events_of ds = map (λ (d : Done). d.event) ds

-- the world is the run of its journal
abbrev pub IsRun : Scene → World → Type 0
IsRun scene w = w ≡ run scene (events_of w.journal)

-- what a cluster keeps of its parts: the scene's limits, the nodes at their places, and that what has happened is the run of the journal
pub record IsCluster (p : Parts) : Type 0 where
  pub limits : IsScene p.scene
  pub placed : ArePlaced p.scene p.nodes.items
  pub run_ : IsRun p.scene (world_of p)

-- the world is as it was
pub record SameParts (old new : Parts) : Type 0 where
  pub scene_ : new.scene ≡ old.scene
  pub placed : (scene : Scene) → ArePlaced scene old.nodes.items → ArePlaced scene new.nodes.items
  pub world : world_of new ≡ world_of old

-- what an event needs of the parts: the nodes at their places, a flag for each message, and answers that can be counted after it
pub record MayHappen (p : Parts) (e : Event) : Type 0 where
  pub placed : ArePlaced p.scene p.nodes.items
  pub even : length p.given.flags ≡ length p.out.messages
  pub few : length (happens p.scene (world_of p) e).answers ≤ 1024

-- few transactions have begun, and few are answered
pub record AreFew (w : World) : Type 0 where
  pub begun : sum_by (λ (v : View). length v.own) w.nodes ≤ 1024
  pub answers : length w.answers ≤ 1024

-- there is room for a journal entry, and for a step of the node on the input
pub record MayStep (node : NodeId) (input : Input) (p : Parts) : Type 0 where
  pub journal : vec_len p.journal < vec_capacity p.journal
  pub node_ : IsReady input (nth p.nodes.items node.0)
  pub out : HasRoom p.out.space input (nth p.nodes.items node.0)
  pub given : HasRoom p.given.spare input (nth p.nodes.items node.0)

-- the scene is the same, the nodes are at its places, and the world is w
pub record Comes (w : World) (old new : Parts) : Type 0 where
  pub scene_ : new.scene ≡ old.scene
  pub placed : ArePlaced new.scene new.nodes.items
  pub world : world_of new ≡ w

-- the event was entered in the journal, as idle or not
abbrev pub Entered : Event → Bool → World → World → Type 0
Entered e idle old new = (answers : ℕ) × (new.journal ≡ old.journal ++ record { event = e; idle = idle; answers = answers } ∷ [])

-- ---- the schedule and the drain

-- the first of the schedule's events have happened
pub record PartlyScheduled (scene : Scene) (old new : World) : Type 0 where
  pub count : ℕ
  pub ran : new ≡ run_from scene old (take count scene.schedule)

-- the state after the whole drain of a state
abbrev pub drained_from : Scene → World → World
drained_from scene w = run_from scene w (drain_from scene w)

-- the first of the drain's events have happened
pub record PartlyDrained (scene : Scene) (old new : World) : Type 0 where
  pub done : List Event
  pub ran : new ≡ run_from scene old done
  pub rest : done ++ drain_from scene new ≡ drain_from scene old
