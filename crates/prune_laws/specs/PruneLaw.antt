-- The law Prune: over every scene and every list of events a cluster that prunes does what one does that keeps all versions.
use Rattle.std.specs.List.{last_or}
use Rattle.std.specs.Prelude.{List, None, Option, Some, [], false, length, option_map, slice_get, true, ℕ, ◌++◌, ◌∷◌, ◌≡◌, ◌≢◌, ◌≤◌, ◌⊎◌}
use Rattle.prune_laws.specs.PrunedClusters.{pruned_cluster_events, pruned_cluster_run}
use Rattle.si_laws.specs.Standing.{Begun}
use Rattle.str_base.specs.declared.names.KeyId.{KeyId}
use Rattle.str_base.specs.declared.names.NodeId.{NodeId}
use Rattle.str_base.specs.declared.names.PartId.{PartId}
use Rattle.str_base.specs.declared.names.Ts.{Ts}
use Rattle.str_base.specs.declared.names.TxId.{TxId}
use Rattle.str_base.specs.declared.names.Value.{Value}
use Rattle.str_model.specs.declared.messages.Body.TheVariants.{ReadReply, Refuse}
use Rattle.str_model.specs.declared.messages.Message.{Message}
use Rattle.str_model.specs.declared.names.Done.{Done}
use Rattle.str_model.specs.Drains.{cluster_events, cluster_run, next_event}
use Rattle.str_model.specs.Lines.{render, render_j}
use Rattle.str_model.specs.Owned.{IsView, Owns}
use Rattle.str_model.specs.PrunedRuns.{PrunedWorld, bound, pruned_run, row_or}
use Rattle.str_model.specs.Pruning.{low, pruned}
use Rattle.str_model.specs.Runs.{World, run}
use Rattle.str_model.specs.Views.{Own, View, is_decided}
use Rattle.str_model.specs.Work.{left}
use Rattle.str_scene.specs.declared.names.Event.{Event}
use Rattle.str_scene.specs.declared.names.Event.TheVariants.{Deliver as DeliverEvent}
use Rattle.str_scene.specs.Scenes.{Scene, nth}

-- the pruned run has the journal and the answers of the run, and the same messages count as given
pub record IsSameRun (w : World) (p : PrunedWorld) : Type 0 where
  pub journal : p.world.journal ≡ w.journal
  pub answers : p.world.answers ≡ w.answers
  pub given : p.world.given ≡ w.given

-- the law of the journal and the answers
abbrev pub PruneHolds : Type 0
PruneHolds = (scene : Scene) (events : List Event) → IsSameRun (run scene events) (pruned_run scene events)

-- the transaction has its decision
abbrev pub IsDecidedIn : World → TxId → Type 0
IsDecidedIn w t = (x : Own) × Begun w t x × (is_decided x.phase ≡ true)

-- two messages are one, or replies to one read that may tell of different versions, or refusals of one pair for one key that may name
-- different writers; these are of a transaction that has its decision
pub data IsAlike (w : World) : Message → Message → Type 0 where
  one_message : (m : Message) → IsAlike w m m
  replies : (from to : NodeId) (tx : TxId) (k : KeyId) (v v' : Value) (by by' : Option TxId) (fc fc' : Ts) → IsDecidedIn w tx
      → IsAlike w (record { sender = from; receiver = to; body = ReadReply tx k v by fc }) (record { sender = from; receiver = to; body = ReadReply tx k v' by' fc' })
  refusals : (from to : NodeId) (tx : TxId) (p : PartId) (by by' : TxId) (k : KeyId) → IsDecidedIn w tx
      → IsAlike w (record { sender = from; receiver = to; body = Refuse tx p by k }) (record { sender = from; receiver = to; body = Refuse tx p by' k })

-- the messages of two lists, one by one
abbrev pub AreAlike : World → List Message → List Message → Type 0
AreAlike w [] [] = Unit {0}
AreAlike w [] (n ∷ ns) = ⊥
AreAlike w (m ∷ ms) [] = ⊥
AreAlike w (m ∷ ms) (n ∷ ns) = IsAlike w m n × AreAlike w ms ns

-- what an event sends in both runs, alike in the state before it
pub record SendsAlike (scene : Scene) (early : List Event) (e : Event) : Type 0 where
  pub new : List Message
  pub pruned_new : List Message
  pub sent : (run scene (early ++ e ∷ [])).sent ≡ (run scene early).sent ++ new
  pub pruned_sent : (pruned_run scene (early ++ e ∷ [])).world.sent ≡ (pruned_run scene early).world.sent ++ pruned_new
  pub alike : AreAlike (run scene early) new pruned_new

-- the law of the messages
abbrev pub MessagesAlike : Type 0
MessagesAlike = (scene : Scene) (early : List Event) (e : Event) → SendsAlike scene early e

-- a view pruned at the bound of the n-th node, counted from 0
abbrev pub pruned_view : PrunedWorld → ℕ → View → View
pruned_view p n v = pruned (bound (low v) n (row_or (slice_get p.heard n))) v

-- the nodes are those of the state, each pruned at its bound
abbrev pub ArePruned : World → PrunedWorld → Type 0
ArePruned w p = (n : ℕ) → slice_get p.world.nodes n ≡ option_map (pruned_view p n) (slice_get w.nodes n)

-- the law of the views
abbrev pub ViewsPruned : Type 0
ViewsPruned = (scene : Scene) (events : List Event) → ArePruned (run scene events) (pruned_run scene events)

-- the low mark is at least this, and so is the snapshot of each own transaction that is undecided or stands at the k-th place or after
pub record IsAbove (g k : ℕ) (v : View) : Type 0 where
  pub mark : g ≤ low v
  pub above : (i : ℕ) (x : Own) → Owns v i x → (is_decided x.phase ≡ false) ⊎ (k ≤ i) → g ≤ x.snap.rs

-- the law of the low mark: it never falls, and no transaction that is undecided later or begins later has a snapshot below it
abbrev pub LowNeverFalls : Type 0
LowNeverFalls =
    (scene : Scene) (early late : List Event) (n : ℕ) (v u : View) → IsView scene early n v → IsView scene (early ++ late) n u
    → IsAbove (low v) (length v.own) u

-- the last entry of the journal is of an idle event
abbrev pub EndsIdle : List Done → Type 0
EndsIdle journal = (d : Done) × (last_or None journal ≡ Some d) × (d.idle ≡ true)

-- the i-th message, counted from 1, differs in the two states
abbrev pub Differ : World → PrunedWorld → ℕ → Type 0
Differ w p i = (m : Message) × (n : Message) × (nth w.sent i ≡ Some m) × (nth p.world.sent i ≡ Some n) × (m ≢ n)

-- the law of messages that differ: given now, they are idle in both runs
abbrev pub LateIdle : Type 0
LateIdle =
    (scene : Scene) (events : List Event) (i : ℕ) → Differ (run scene events) (pruned_run scene events) i
    → EndsIdle (run scene (events ++ DeliverEvent i ∷ [])).journal × EndsIdle (pruned_run scene (events ++ DeliverEvent i ∷ [])).world.journal

-- what is left to be done is the same
abbrev pub LeftAlike : Type 0
LeftAlike = (scene : Scene) (events : List Event) → left scene (pruned_run scene events).world ≡ left scene (run scene events)

-- the next event of a drain is the same
abbrev pub DrainsAlike : Type 0
DrainsAlike = (scene : Scene) (events : List Event) → next_event scene (pruned_run scene events).world ≡ next_event scene (run scene events)

-- the events of a scene with its drain are the same
abbrev pub WholeDrainsAlike : Type 0
WholeDrainsAlike = (scene : Scene) → pruned_cluster_events scene ≡ cluster_events scene

-- both runs write the same bytes
pub record WritesAlike (scene : Scene) (p : PrunedWorld) (w : World) : Type 0 where
  pub plain : render scene p.world ≡ render scene w
  pub journal : render_j scene p.world ≡ render_j scene w

-- the law of what is written
abbrev pub OutputsAlike : Type 0
OutputsAlike = (scene : Scene) → WritesAlike scene (pruned_cluster_run scene) (cluster_run scene)
