-- What a message is that a single change sends.
use Rattle.std.proofs.Common.{List, Some, [], false, filter, inl, inr, map, subst, true, ℕ, ◌++◌, ◌∷◌, ◌≡◌, ◌⊎◌}
use Rattle.partition_map.specs.declared.rows.Asked.{Asked}
use Rattle.str_base.specs.Versions.{stamp}
use Rattle.str_base.specs.declared.names.KeyId.{KeyId}
use Rattle.str_base.specs.declared.names.NodeId.{NodeId}
use Rattle.str_base.specs.declared.names.PartId.{PartId}
use Rattle.str_base.specs.declared.names.TxId.{TxId}
use Rattle.str_base.specs.declared.names.Value.{Value}
use Rattle.std.specs.Prelude.{Option}
use Rattle.str_model.proofs.Changes.SnapshotsGain.{if_elim}
use Rattle.str_model.proofs.Changes.VersionChanges.{Placed, by_master, by_slave}
use Rattle.str_model.proofs.Principle.SingleChanges.{Act, IsHere, Serves, Where, act_abort, act_abort_came, act_accept, act_ack, act_ask, act_begin, act_certify, act_close, act_commit, act_commit_came, act_mark, act_put, act_refuse, act_reply, act_request, act_take, act_unwait, act_wait}
use Rattle.str_model.specs.Acts
use Rattle.str_model.specs.Acts.{aborted, accepted, acked, asked, begun, certified, closed, commit_came, committed, in_phase, marked, refused, replied, requested, taken, waits}
use Rattle.str_model.specs.Gates.{Ask, gate_of}
use Rattle.str_model.specs.Owned.{Owns}
use Rattle.str_model.specs.Proposals.{Refuse, master_turn, proposed}
use Rattle.str_model.specs.Turns.{Away, read_turn}
use Rattle.str_model.specs.Views.{Doing, Own, Remote, lc_of, letter, name_of}
use Rattle.str_model.specs.declared.messages.Arrived.{Arrived}
use Rattle.str_model.specs.declared.messages.Body.{Body}
use Rattle.str_model.specs.declared.messages.Body.TheVariants.{Abort, Ack, Commit, Prepare, ReadReply, ReadReq, Refuse as Refusal, Replicate}
use Rattle.str_model.specs.declared.messages.Input.{Input}
use Rattle.str_model.specs.declared.messages.Message.{Message}
use Rattle.str_scene.specs.Scenes.{Here, first_or, in_part, leads, others, replicas}
use Rattle.str_base.proofs.Lists.{get_set}
use Rattle.str_base.proofs.Members.{in_append, in_map}
use Rattle.str_base.specs.Members.{In}

-- it tells a decision
abbrev pub IsDecision : Body → Type 0
IsDecision (Commit tx p fc ms) = Unit {0}
IsDecision (Abort tx p) = Unit {0}
IsDecision _ = ⊥

-- the writes of an own transaction in a partition
abbrev pub writes_in : Here → PartId → Own → List Rattle.str_base.specs.declared.names.Write.Write
writes_in here p x = filter (in_part here.scene p) x.writes

-- a message that has just been sent
pub data Post (here : Here) (input : Input) (d e : Doing) : Message → Type 0 where
  p_request : (i : ℕ) (k : KeyId) (to : NodeId) (x : Own) → Owns d.view i x → Owns e.view i (in_phase (Remote k) x) → read_turn here d.view x.snap k ≡ Away to → Post here input d e (letter here to (ReadReq (name_of here i) k (stamp x.snap.rs)))
  p_prepare : (i lc : ℕ) (p : PartId) (x : Own) → Owns d.view i x → lc_of x.phase ≡ Some lc → gate_of here d.view lc x ≡ Ask p → leads here.node (replicas here.scene p) ≡ false
      → Post here input d e (letter here (first_or here.node (replicas here.scene p)) (Prepare (name_of here i) p (stamp x.snap.rs) (stamp lc) (writes_in here p x)))
  p_replicate : (i lc : ℕ) (p : PartId) (x : Own) (r : NodeId) → Owns d.view i x → lc_of x.phase ≡ Some lc → gate_of here d.view lc x ≡ Ask p → leads here.node (replicas here.scene p) ≡ true
      → In r (others here.node (replicas here.scene p)) → Post here input d e (letter here r (Replicate (name_of here i) p (stamp x.snap.rs) (stamp lc) (writes_in here p x)))
  p_ack : (a : Arrived) (ts : ℕ) → Placed here input d a → Post here input d e (letter here a.tx.node (Ack a.tx a.part (stamp ts)))
  p_copy : (a : Arrived) (r : NodeId) → IsHere here input d a → In r (others a.tx.node (others here.node (replicas here.scene a.part)))
      → Post here input d e (letter here r (Replicate a.tx a.part a.rs a.lc a.writes))
  p_refuse : (a : Arrived) (by : TxId) (k : KeyId) → IsHere here input d a → master_turn d.view a ≡ Refuse by k → Post here input d e (letter here a.tx.node (Refusal a.tx a.part by k))
  p_reply : (tx : TxId) (k : KeyId) (rs : ℕ) (v : Value) (by : Option TxId) (fc : ℕ) → Serves here input d tx k rs v by fc → Post here input d e (letter here tx.node (ReadReply tx k v by (stamp fc)))
  p_decision : (to : NodeId) (b : Body) → IsDecision b → Post here input d e (letter here to b)

module _ (here : Here) (input : Input) (w : Where) where
  -- one of those that were sent before, or one of the new ones
  newly : (d e : Doing) (ms : List Message) (m : Message) → (In m ms → Post here input d e m) → In m (d.sent ++ ms) → In m d.sent ⊎ Post here input d e m
  newly d e ms m f h = elim (in_append d.sent ms m h) [ inl j ↦ inl j | inr j ↦ inr (f j) ]

  single : (d e : Doing) (l m : Message) → Post here input d e l → In m (l ∷ []) → Post here input d e m
  single d e l m p (inl q) = subst (Post here input d e) q p
  single d e l m p (inr z) = absurd z

  each : {A : Type 0} (d e : Doing) (f : A → Message) (xs : List A) (m : Message) → ((x : A) → In x xs → Post here input d e (f x)) → In m (map f xs) → Post here input d e m
  each d e f xs m p h = let r = in_map f xs m h in subst (Post here input d e) r.2 (p r.0 r.1)

  asks : (i lc : ℕ) (x : Own) (d e : Doing) (p : PartId) (m : Message) → Owns d.view i x → lc_of x.phase ≡ Some lc → gate_of here d.view lc x ≡ Ask p
      → In m (Acts.ask_letters here i lc x p (replicas here.scene p)) → Post here input d e m
  asks i lc x d e p m own l g =
      let rs = replicas here.scene p in
      if_elim (λ (ms : List Message). In m ms → Post here input d e m) (leads here.node rs)
      (map (λ (r : NodeId). letter here r (Replicate (name_of here i) p (stamp x.snap.rs) (stamp lc) (writes_in here p x))) (others here.node rs))
      (letter here (first_or here.node rs) (Prepare (name_of here i) p (stamp x.snap.rs) (stamp lc) (writes_in here p x)) ∷ [])
      (λ t h. each d e (λ (r : NodeId). letter here r (Replicate (name_of here i) p (stamp x.snap.rs) (stamp lc) (writes_in here p x))) (others here.node rs) m (λ r j. p_replicate i lc p x r own l g t j) h)
      (λ t h. single d e (letter here (first_or here.node rs) (Prepare (name_of here i) p (stamp x.snap.rs) (stamp lc) (writes_in here p x))) m (p_prepare i lc p x own l g t) h)

  pub posts : (d e : Doing) → Act here input w d e → (m : Message) → In m e.sent → In m d.sent ⊎ Post here input d e m
  unfolding begun marked aborted committed closed certified asked acked requested accepted taken refused waits replied commit_came Acts.abort_came
  posts d e (act_ask i lc p x d' own f l g) m h = newly d' e (Acts.ask_letters here i lc x p (replicas here.scene p)) m (asks i lc x d' e p m own.0 l g) h
  posts d e (act_request i k to x d' own g) m h =
      newly d' e (letter here to (ReadReq (name_of here i) k (stamp x.snap.rs)) ∷ []) m
      (single d' e (letter here to (ReadReq (name_of here i) k (stamp x.snap.rs))) m (p_request i k to x own.0 (get_set d'.view.own i x (in_phase (Remote k) x) own.0) g.away)) h
  posts d e (act_abort i cause x d' own f y) m h =
      newly d' e (Acts.abort_letters here i x.parts) m
      (each d' e (λ (a : Asked). letter here a.node (Abort (name_of here i) a.part)) (Acts.asked_ones x.parts) m (λ a j. p_decision a.node (Abort (name_of here i) a.part) tt)) h
  posts d e (act_commit i lc fc x d' own l n le f g) m h =
      newly d' e (Acts.commit_letters here i x fc d'.view) m
      (each d' e (λ (a : Asked). letter here a.node (Commit (name_of here i) a.part (stamp fc) (Acts.marks_in here d'.view a.part x.writes))) x.parts m
      (λ a j. p_decision a.node (Commit (name_of here i) a.part (stamp fc) (Acts.marks_in here d'.view a.part x.writes)) tt)) h
  posts d e (act_accept a ts d' g t) m h =
      newly d' e (letter here a.tx.node (Ack a.tx a.part (stamp ts)) ∷ Acts.copies here a (replicas here.scene a.part)) m
      (λ j. elim j [
        | inl q ↦ single d' e (letter here a.tx.node (Ack a.tx a.part (stamp ts))) m (p_ack a ts (by_master g)) (inl q)
        | inr k ↦ each d' e (λ (r : NodeId). letter here r (Replicate a.tx a.part a.rs a.lc a.writes)) (others a.tx.node (others here.node (replicas here.scene a.part))) m (λ r i. p_copy a r g i) k
      ]) h
  posts d e (act_take from a d' c t) m h =
      newly d' e (letter here a.tx.node (Ack a.tx a.part (stamp (proposed d'.view a))) ∷ []) m
      (single d' e (letter here a.tx.node (Ack a.tx a.part (stamp (proposed d'.view a)))) m (p_ack a (proposed d'.view a) (by_slave from c t))) h
  posts d e (act_refuse a u k d' g t) m h =
      newly d' e (letter here a.tx.node (Refusal a.tx a.part u k) ∷ []) m (single d' e (letter here a.tx.node (Refusal a.tx a.part u k)) m (p_refuse a u k g t)) h
  posts d e (act_reply tx k rs v u fc d' g) m h =
      newly d' e (letter here tx.node (ReadReply tx k v u (stamp fc)) ∷ []) m (single d' e (letter here tx.node (ReadReply tx k v u (stamp fc))) m (p_reply tx k rs v u fc g)) h
  posts d e (act_begin place rs d' r g) m h = inl h
  posts d e (act_mark k t d' rd) m h = inl h
  posts d e (act_put i x y d' own g) m h = inl h
  posts d e (act_certify i lc snap x d' own f n c) m h = inl h
  posts d e (act_ack i lc from t q ts parts x d' own c r g) m h = inl h
  posts d e (act_close i x d' own q n) m h = inl h
  posts d e (act_wait r d' g) m h = inl h
  posts d e (act_unwait kept rest r d' g) m h = inl h
  posts d e (act_commit_came from t q fc ms d' c g) m h = inl h
  posts d e (act_abort_came from t q d' c g) m h = inl h
