-- The law Marks: who has read a key has left its mark.
use Rattle.str_model.specs.Owned.{WaitsFor}
use Rattle.std.specs.Prelude.{List, Some, false, slice_get, true, ℕ, ◌≡◌, ◌≤◌, ◌⊎◌}
use Rattle.partition_map.specs.declared.rows.Asked.{Asked}
use Rattle.str_scene.specs.declared.names.Event.{Event}
use Rattle.str_base.specs.declared.names.KeyId.{KeyId}
use Rattle.str_model.specs.declared.names.KeyMark.{KeyMark}
use Rattle.str_base.specs.declared.names.NodeId.{NodeId}
use Rattle.str_model.specs.declared.names.ReadDone.{ReadDone}
use Rattle.str_base.specs.declared.names.TxId.{TxId}
use Rattle.str_model.specs.declared.messages.Body.{Body}
use Rattle.str_model.specs.declared.messages.Body.TheVariants.{Commit, ReadReply}
use Rattle.str_model.specs.declared.messages.Message.{Message}
use Rattle.si_laws.specs.GateLaw.{StandsAt}
use Rattle.str_model.specs.Runs.{World, run}
use Rattle.str_scene.specs.SceneLimits.{IsScene}
use Rattle.str_scene.specs.Scenes.{Scene, is_master, nth, part_of}
use Rattle.si_laws.specs.Standing.{Begun, HasRead, IsCommitted, IsOpen}
use Rattle.str_model.specs.Traces.{Happening, trace}
use Rattle.str_base.specs.Versions.{mark_of}
use Rattle.str_model.specs.Views.{Own, View}

-- the mark of the key at the node is at least t
abbrev pub IsMarked : World → NodeId → KeyId → ℕ → Type 0
IsMarked w n k t = (v : View) × (nth w.nodes n.0 ≡ Some v) × (t ≤ mark_of v.marks k)

-- it has read the key or waits to read it
abbrev pub ReadsKey : Own → KeyId → Type 0
ReadsKey x k = ((r : ReadDone) × HasRead x r × (r.key ≡ k)) ⊎ WaitsFor x.phase k

-- the mark of the own node
abbrev pub MarkedAtHome : World → Type 0
MarkedAtHome w = (t : TxId) (x : Own) (k : KeyId) → Begun w t x → ReadsKey x k → IsMarked w t.node k x.snap.rs

-- the body is a reply to this read
abbrev pub IsReplyTo : Body → TxId → KeyId → Type 0
IsReplyTo (ReadReply t l v by fc) tx k = (t ≡ tx) × (l ≡ k)
IsReplyTo _ tx k = ⊥

-- where a reply was sent, its sender is the master of the key's partition, and has the mark too
abbrev pub MarkedByReply : Scene → World → Type 0
MarkedByReply scene w =
    (i : ℕ) (m : Message) (t : TxId) (x : Own) (k : KeyId) → slice_get w.sent i ≡ Some m → IsReplyTo m.body t k → Begun w t x
    → (is_master scene m.sender (part_of scene k) ≡ true) × IsMarked w m.sender k x.snap.rs

-- the body is a Commit that carries a mark of the key of at least r
abbrev pub CarriesMark : Body → TxId → KeyId → ℕ → Type 0
CarriesMark (Commit t p fc ms) tx k r = (t ≡ tx) × (i : ℕ) × (m : KeyMark) × (slice_get ms i ≡ Some m) × (m.key ≡ k) × (r ≤ m.mark.0)
CarriesMark _ tx k r = ⊥

-- a Commit that carries such a mark was never given to the node
abbrev pub MarkUnderWay : World → NodeId → TxId → KeyId → ℕ → Type 0
MarkUnderWay w n u k r =
    (i : ℕ) × (m : Message) × (slice_get w.sent i ≡ Some m) × (slice_get w.given i ≡ Some false) × (m.receiver ≡ n) × CarriesMark m.body u k r

-- at some moment it had read the key from u while u was undecided
abbrev pub ReadWhileOpen : List Happening → TxId → TxId → KeyId → Type 0
ReadWhileOpen tr t u k =
    (j : ℕ) × (m : ℕ) × (x : Own) × (y : Own) × (r : ReadDone) × StandsAt tr j m t x × StandsAt tr j m u y × HasRead x r × (r.key ≡ k) × (r.by ≡ Some u) × IsOpen y

-- then each participant of u for the key's partition has such a mark once u has committed, or will have it
abbrev pub MarkedByCommit : Scene → List Happening → World → Type 0
MarkedByCommit scene tr w =
    (t u : TxId) (x y : Own) (k : KeyId) (fc i : ℕ) (a : Asked) → ReadWhileOpen tr t u k → Begun w t x → Begun w u y → IsCommitted y fc
    → slice_get y.parts i ≡ Some a → a.part ≡ part_of scene k → IsMarked w a.node k x.snap.rs ⊎ MarkUnderWay w a.node u k x.snap.rs

-- the three facts on marks
pub record Marks (scene : Scene) (tr : List Happening) (w : World) : Type 0 where
  pub home : MarkedAtHome w
  pub reply : MarkedByReply scene w
  pub commit : MarkedByCommit scene tr w

-- the law
abbrev pub MarksHold : Type 0
MarksHold = (scene : Scene) → IsScene scene → (events : List Event) → Marks scene (trace scene events) (run scene events)

-- its first part alone
abbrev pub HomeMarksHold : Type 0
HomeMarksHold = (scene : Scene) → IsScene scene → (events : List Event) → MarkedAtHome (run scene events)
