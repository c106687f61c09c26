-- What contracts see of a node, of its work in a step, and of what a step leaves.
use Rattle.std.specs.Prelude.{Bool, List, MatchOption, None, Option, Some, [], false, if◌then◌else◌, length, option_map, slice_get, true, ℕ, ◌++◌, ◌+◌, ◌-◌, ◌<◌, ◌≡◌, ◌≤◌}
use Rattle.node_parts.specs.declared.held.Held.{Held}
use Rattle.node_parts.specs.Holding.{HasRoom, StandsAt}
use Rattle.node_parts.specs.NodeScripts.{scripts_of}
use Rattle.node_parts.specs.Owning.{OwnState}
use Rattle.node_parts.specs.Sending.{OutState}
use Rattle.str_base.specs.declared.names.NodeId.{NodeId}
use Rattle.str_base.specs.declared.names.PartId.{PartId}
use Rattle.str_base.specs.declared.names.TxId.{TxId}
use Rattle.str_model.specs.Acts.{abort_came, acked}
use Rattle.str_model.specs.declared.messages.Answer.{Answer}
use Rattle.str_model.specs.declared.messages.Message.{Message}
use Rattle.str_model.specs.NodeFacts.{MomentFacts, NodeFacts}
use Rattle.str_model.specs.Returns.{own_named, with_ack}
use Rattle.str_model.specs.Steps.{decides, drop_held}
use Rattle.str_model.specs.Strange.{has_node}
use Rattle.str_model.specs.Views.{Doing, Own, View, is_decided}
use Rattle.version_chain.specs.ChainLists.{IsOrdered}
use Rattle.str_scene.specs.SceneLimits.{IsScene}
use Rattle.str_scene.specs.Scenes.{Here, Scene}

-- ---- a node

-- a node: its scene, its number, its plain view, and room for so many versions and list items
pub record NodeState : Type 0 where
  pub scene : Scene
  pub id : NodeId
  pub view : View
  pub room : ℕ

-- what the type of a node keeps
pub record IsNode (here : Here) (v : View) : Type 0 where
  pub limits : IsScene here.scene
  pub exists : has_node here here.node ≡ true
  pub facts : NodeFacts here v
  pub ordered : IsOrdered v.versions

-- the place at which a node steps
abbrev pub here_of : NodeState → Here
here_of n = record { scene = n.scene; node = n.id }

-- the scene, the number and the view are as they were
pub record SameNode (old new : NodeState) : Type 0 where
  pub scene : new.scene ≡ old.scene
  pub id : new.id ≡ old.id
  pub view : new.view ≡ old.view

-- the lists are as they were
pub record SameLists (old new : OutState) : Type 0 where
  pub messages : new.messages ≡ old.messages
  pub answers : new.answers ≡ old.answers

-- the node and the outbox after a step that did d
pub record Steps (old new : NodeState) (before after : OutState) (d : Doing) : Type 0 where
  pub scene : new.scene ≡ old.scene
  pub id : new.id ≡ old.id
  pub view : new.view ≡ d.view
  pub messages : after.messages ≡ before.messages ++ d.sent
  pub answers : after.answers ≡ before.answers ++ d.released
  pub room : old.room ≤ new.room + d.added
  pub space : before.space ≤ after.space + (length d.sent + length d.released)

-- the node and the outbox after a step on an input by whose rule this is done; where it is idle nothing changes, and the answer is false
abbrev pub Stepped : Option Doing → Bool → NodeState → NodeState → OutState → OutState → Type 0
Stepped o moves old new before after = MatchOption o ((moves ≡ false) × (new ≡ old) × (after ≡ before)) (λ d. (moves ≡ true) × Steps old new before after d)

-- ---- the work of a step

-- The work of a step: where it is done, what was done so far, the room and the space that the step began with, and the messages and answers that
-- stood in the outbox before it.
pub record WorkState : Type 0 where
  pub here : Here
  pub doing : Doing
  pub room : ℕ
  pub space : ℕ
  pub earlier : List Message
  pub answered : List Answer

-- What the type of a work keeps of its parts: the stores are the node's, the own transactions are too and can be told apart by session, there is
-- room for one of each script of the node, and what is left of the room stands in each list.
pub record IsWork (here : Here) (h : Held) (o : OwnState) (left room : ℕ) : Type 0 where
  pub limits : IsScene here.scene
  pub exists : has_node here here.node ≡ true
  pub stands : StandsAt here h
  pub own_node : o.node ≡ here.node
  pub sessions : o.sessions ≡ length here.scene.sessions + 1
  pub own_room : scripts_of here.node here.scene.sessions ≤ length o.all + o.spare
  pub has_room : HasRoom left h
  pub within : left ≤ room

-- where it is done, and what stood in the outbox, stay; room and space do not shrink
pub record Stays (old new : WorkState) : Type 0 where
  pub here : new.here ≡ old.here
  pub room : new.room ≡ old.room
  pub space : old.space ≤ new.space
  pub earlier : new.earlier ≡ old.earlier
  pub answered : new.answered ≡ old.answered

-- d is done now
pub record Did (d : Doing) (old new : WorkState) : Type 0 where
  pub done : new.doing ≡ d
  pub stays : Stays old new

-- d is done now where the rule is not idle, else nothing changes and the answer is false
abbrev pub Ruled : Option Doing → Bool → WorkState → WorkState → Type 0
Ruled None moves old new = (moves ≡ false) × (new ≡ old)
Ruled (Some d) moves old new = (moves ≡ true) × Did d old new

-- the room and the space of the step are enough to have done d
pub record Fits (w : WorkState) (d : Doing) : Type 0 where
  pub room : d.added ≤ w.room
  pub space : length d.sent + length d.released ≤ w.space

-- so they are where the rule is not idle
abbrev pub FitsRule : WorkState → Option Doing → Type 0
FitsRule w None = Unit {0}
FitsRule w (Some d) = Fits w d

-- it is done at a node of a scene, and the facts of the view hold as it is
pub record HasFacts (w : WorkState) : Type 0 where
  pub limits : IsScene w.here.scene
  pub exists : has_node w.here w.here.node ≡ true
  pub moment : MomentFacts w.here w.doing.view

-- there is an own transaction at the place, of which this holds
abbrev pub OwnIs : (Own → Type 0) → ℕ → WorkState → Type 0
OwnIs P i w = (x : Own) × (slice_get w.doing.view.own i ≡ Some x) × P x

-- an own transaction at the place, which is undecided
abbrev pub IsOpen : ℕ → WorkState → Type 0
IsOpen i w = OwnIs (λ x. is_decided x.phase ≡ false) i w

-- the place of the own transaction with this name; none where the name is not of this node or there is none yet
abbrev pub IsPlaceOf : TxId → WorkState → Option ℕ → Type 0
IsPlaceOf tx w result =
    MatchOption result (own_named w.here tx w.doing ≡ None) (λ i. (i ≡ tx.seq - 1) × (i < length w.doing.view.own) × (own_named w.here tx w.doing ≡ slice_get w.doing.view.own i))

-- the own transaction at the place keeps the answer of a participant, where it awaits one
abbrev pub KeepsAck : ℕ → PartId → NodeId → ℕ → Bool → WorkState → WorkState → Type 0
KeepsAck i part node ts result old new =
    (x : Own) → slice_get old.doing.view.own i ≡ Some x → Ruled (option_map (λ ps. acked i ps x old.doing) (with_ack x.parts part node ts)) result old new

-- the work with the abort of a transaction in a partition
abbrev pub with_abort : TxId → PartId → WorkState → Doing
with_abort tx part w = abort_came tx part (drop_held tx part w.doing.view.waiters) w.doing

-- what was done where a decision of the pair is the first one, and nothing where it isn't
abbrev pub if_decides : TxId → PartId → WorkState → Doing → Option Doing
if_decides tx part w d = if decides w.here tx part w.doing.view then Some d else None

-- nothing was sent, released or added yet
pub record IsFresh (w : WorkState) : Type 0 where
  pub sent : w.doing.sent ≡ []
  pub released : w.doing.released ≡ []
  pub added : w.doing.added ≡ 0
