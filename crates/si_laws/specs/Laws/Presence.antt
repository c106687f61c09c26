-- The law Presence: where the versions of a transaction stand.
use Rattle.std.specs.Prelude.{Some, false, slice_get, true, ℕ, ◌≡◌, ◌≤◌, ◌⊎◌}
use Rattle.partition_map.specs.declared.rows.Asked.{Asked}
use Rattle.str_base.specs.declared.names.KeyId.{KeyId}
use Rattle.str_base.specs.declared.names.Kind.TheVariants.{Final, Pre}
use Rattle.str_base.specs.declared.names.NodeId.{NodeId}
use Rattle.str_base.specs.declared.names.PartId.{PartId}
use Rattle.str_base.specs.declared.names.Ts.{Ts}
use Rattle.str_base.specs.declared.names.TxId.{TxId}
use Rattle.str_base.specs.declared.names.Version.{Version}
use Rattle.str_model.specs.declared.messages.Body.{Body}
use Rattle.str_model.specs.declared.messages.Body.TheVariants.{Abort}
use Rattle.str_model.specs.declared.messages.Body.TheVariants.{Commit}
use Rattle.str_model.specs.declared.messages.Message.{Message}
use Rattle.str_model.specs.Owned.{OfEachState}
use Rattle.str_model.specs.Proposals.{is_done}
use Rattle.str_model.specs.Runs.{World}
use Rattle.str_scene.specs.Scenes.{Scene, hosts, nth, part_of}
use Rattle.si_laws.specs.Standing.{Begun, IsCommitted, IsOpen, Wrote}
use Rattle.str_model.specs.Views.{Own, View, is_decided}

-- the message tells the decision of the transaction for the partition
abbrev pub Decides : TxId → PartId → Body → Type 0
Decides tx p (Commit t q fc ms) = (t ≡ tx) × (q ≡ p)
Decides tx p (Abort t q) = (t ≡ tx) × (q ≡ p)
Decides tx p _ = ⊥

-- the decision of the transaction for the partition was never given to the node
abbrev pub NeverTold : World → NodeId → TxId → PartId → Type 0
NeverTold w r tx p =
    (i : ℕ) (m : Message) → slice_get w.sent i ≡ Some m → m.receiver ≡ r → Decides tx p m.body → slice_get w.given i ≡ Some false

-- the node has this version of the transaction's key
abbrev pub Holds : World → NodeId → TxId → KeyId → Version → Type 0
Holds w r tx k q = (v : View) × (i : ℕ) × (nth w.nodes r.0 ≡ Some v) × (slice_get v.versions i ≡ Some q) × (q.tx ≡ tx) × (q.key ≡ k)

-- Final at fc, or Pre at or below fc with the decision still under way
abbrev pub IsArrived : World → NodeId → TxId → PartId → ℕ → Version → Type 0
IsArrived w r tx p fc q =
    ((q.kind ≡ Final) × (q.ts.0 ≡ fc)) ⊎ ((q.kind ≡ Pre) × (q.ts.0 ≤ fc) × NeverTold w r tx p)

-- each replica of what a committed transaction wrote has it
abbrev pub CommittedPresent : Scene → World → Type 0
CommittedPresent scene w =
    (t : TxId) (x : Own) (fc : ℕ) (k : KeyId) (r : NodeId) → Begun w t x → IsCommitted x fc → Wrote x k → hosts scene r (part_of scene k) ≡ true
    → (q : Version) × Holds w r t k q × IsArrived w r t (part_of scene k) fc q

-- an undecided transaction has Pre versions at the answered timestamp at each participant that answered
abbrev pub AnsweredPresent : Scene → World → Type 0
AnsweredPresent scene w =
    (t : TxId) (x : Own) (i : ℕ) (a : Asked) (ts : Ts) (k : KeyId) → Begun w t x → IsOpen x → slice_get x.parts i ≡ Some a → a.ack ≡ Some ts
    → Wrote x k → part_of scene k ≡ a.part → (q : Version) × Holds w a.node t k q × (q.kind ≡ Pre) × (q.ts ≡ ts)

-- where the transaction of a Pre version is decided, the node was never told
abbrev pub DecidedUntold : World → Type 0
DecidedUntold w =
    (t : TxId) (x : Own) (r : NodeId) (k : KeyId) (q : Version) → Begun w t x → is_decided x.phase ≡ true → Holds w r t k q → q.kind ≡ Pre
    → NeverTold w r t q.part

-- the pair is not in the node's done list
abbrev pub NotDone : World → NodeId → TxId → PartId → Type 0
NotDone w r tx p = (v : View) → nth w.nodes r.0 ≡ Some v → is_done v tx p ≡ false

-- Final at fc, or Pre at or below fc with the pair not done
abbrev pub IsStanding : World → NodeId → TxId → PartId → ℕ → Version → Type 0
IsStanding w r tx p fc q =
    ((q.kind ≡ Final) × (q.ts.0 ≡ fc)) ⊎ ((q.kind ≡ Pre) × (q.ts.0 ≤ fc) × NotDone w r tx p)

-- the same three facts by the done lists of the nodes in place of what was given to them
pub record PresentByDone (scene : Scene) (w : World) : Type 0 where
  pub committed : (t : TxId) (x : Own) (fc : ℕ) (k : KeyId) (r : NodeId) → Begun w t x → IsCommitted x fc → Wrote x k → hosts scene r (part_of scene k) ≡ true
      → (q : Version) × Holds w r t k q × IsStanding w r t (part_of scene k) fc q
  pub answered : AnsweredPresent scene w
  pub undone : (t : TxId) (r : NodeId) (k : KeyId) (q : Version) → Holds w r t k q → q.kind ≡ Pre → NotDone w r t q.part

-- the law by done lists
abbrev pub PresenceStands : Type 0
PresenceStands = OfEachState PresentByDone

-- the three facts on versions of a transaction
pub record Presence (scene : Scene) (w : World) : Type 0 where
  pub committed : CommittedPresent scene w
  pub answered : AnsweredPresent scene w
  pub untold : DecidedUntold w

-- the law
abbrev pub PresenceHolds : Type 0
PresenceHolds = OfEachState Presence
