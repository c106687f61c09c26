-- The law Under way: what an undecided transaction waits for from other nodes is under way.
use Rattle.std.specs.Prelude.{None, Some, false, slice_get, true, ℕ, ◌+◌, ◌≡◌}
use Rattle.partition_map.specs.declared.rows.Asked.{Asked}
use Rattle.str_base.specs.declared.names.KeyId.{KeyId}
use Rattle.str_base.specs.declared.names.PartId.{PartId}
use Rattle.str_base.specs.declared.names.Ts.{Ts}
use Rattle.str_base.specs.declared.names.TxId.{TxId}
use Rattle.str_model.specs.Owned.{OfEachState, Owns}
use Rattle.str_model.specs.Runs.{World}
use Rattle.str_model.specs.Views.{Own, Remote, View, is_decided, lc_of}
use Rattle.str_model.specs.declared.messages.Arrived.{Arrived}
use Rattle.str_model.specs.declared.messages.Body.{Body}
use Rattle.str_model.specs.declared.messages.Body.TheVariants.{Ack, Prepare, ReadReply, ReadReq, Refuse, Replicate}
use Rattle.str_model.specs.declared.messages.Message.{Message}
use Rattle.str_model.specs.declared.messages.Waiter.TheVariants.{Held, Read}
use Rattle.str_scene.specs.Scenes.{Scene, is_master, part_of}

-- such a message was never given
abbrev pub Undelivered : World → (Body → Type 0) → Type 0
Undelivered w P = (j : ℕ) × (m : Message) × (slice_get w.sent j ≡ Some m) × (slice_get w.given j ≡ Some false) × P m.body

-- the body asks the partition for the transaction, or answers that
abbrev pub IsOfPair : TxId → PartId → Body → Type 0
IsOfPair tx p (Prepare t q rs lc ws) = (t ≡ tx) × (q ≡ p)
IsOfPair tx p (Replicate t q rs lc ws) = (t ≡ tx) × (q ≡ p)
IsOfPair tx p (Ack t q ts) = (t ≡ tx) × (q ≡ p)
IsOfPair tx p (Refuse t q by k) = (t ≡ tx) × (q ≡ p)
IsOfPair tx p _ = ⊥

-- the body asks for the value of the key for the transaction, or tells it
abbrev pub IsOfRead : TxId → KeyId → Body → Type 0
IsOfRead tx k (ReadReq t l rs) = (t ≡ tx) × (l ≡ k)
IsOfRead tx k (ReadReply t l v by fc) = (t ≡ tx) × (l ≡ k)
IsOfRead tx k _ = ⊥

-- the name of the i-th own transaction of the n-th node, both counted from 0
abbrev pub name_at : ℕ → ℕ → TxId
name_at n i = record { node = record { 0 = n + 1 }; seq = i + 1 }

-- a message of the pair is under way, or its Prepare is parked at the partition's master
pub data AnswerUnderWay (scene : Scene) (w : World) (tx : TxId) (p : PartId) : Type 0 where
  u_message : Undelivered w (IsOfPair tx p) → AnswerUnderWay scene w tx p
  u_parked : (m k : ℕ) (u : View) (b : Arrived) → is_master scene (record { 0 = m + 1 }) p ≡ true → slice_get w.nodes m ≡ Some u → slice_get u.waiters k ≡ Some (Held b) → b.tx ≡ tx → b.part ≡ p
      → AnswerUnderWay scene w tx p

-- a message of the read is under way, or the read waits at the key's master
pub data ReadUnderWay (scene : Scene) (w : World) (tx : TxId) (k : KeyId) : Type 0 where
  ru_message : Undelivered w (IsOfRead tx k) → ReadUnderWay scene w tx k
  ru_waits : (m c : ℕ) (u : View) (rs : Ts) → is_master scene (record { 0 = m + 1 }) (part_of scene k) ≡ true → slice_get w.nodes m ≡ Some u → slice_get u.waiters c ≡ Some (Read tx k rs)
      → ReadUnderWay scene w tx k

-- what an undecided transaction waits for from other nodes: the answers of participants that it has asked, and the value of a key
pub record UnderWay (scene : Scene) (w : World) : Type 0 where
  pub answer : (n i k lc : ℕ) (v : View) (x : Own) (a : Asked) → slice_get w.nodes n ≡ Some v → Owns v i x → lc_of x.phase ≡ Some lc → is_decided x.phase ≡ false → slice_get x.parts k ≡ Some a → a.asked ≡ true → a.ack ≡ None
      → AnswerUnderWay scene w (name_at n i) a.part
  pub reading : (n i : ℕ) (v : View) (x : Own) (k : KeyId) → slice_get w.nodes n ≡ Some v → Owns v i x → x.phase ≡ Remote k → ReadUnderWay scene w (name_at n i) k

-- the law
abbrev pub UnderWayHolds : Type 0
UnderWayHolds = OfEachState UnderWay
