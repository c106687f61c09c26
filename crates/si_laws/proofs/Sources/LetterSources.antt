-- Where each message of a change, and each new Final version, comes from.
use Rattle.std.proofs.Common.{List, Option, Some, [], ap, false, filter, inl, inr, map, refl, slice_get, subst, sym, ℕ, ◌∙◌, ◌∷◌, ◌≡◌, ◌⊎◌}
use Rattle.partition_map.specs.declared.rows.Asked.{Asked}
use Rattle.str_base.specs.declared.names.KeyId.{KeyId}
use Rattle.str_base.specs.declared.names.Kind.TheVariants.{Final}
use Rattle.str_base.specs.declared.names.NodeId.{NodeId}
use Rattle.str_base.specs.declared.names.PartId.{PartId}
use Rattle.str_base.specs.declared.names.Ts.{Ts}
use Rattle.str_base.specs.declared.names.TxId.{TxId}
use Rattle.str_base.specs.declared.names.Value.{Value}
use Rattle.str_base.specs.declared.names.Version.{Version}
use Rattle.str_base.specs.Versions.{of_pair, of_tx, settled, stamp, without}
use Rattle.str_model.specs.declared.messages.Arrived.{Arrived}
use Rattle.str_model.specs.declared.messages.Body.{Body}
use Rattle.str_model.specs.declared.messages.Body.TheVariants.{Abort, Ack, Commit, Prepare, ReadReply, ReadReq, Refuse as Refusal, Replicate}
use Rattle.str_model.specs.declared.messages.Input.{Input}
use Rattle.str_model.specs.declared.messages.Message.{Message}
use Rattle.str_model.specs.declared.names.KeyMark.{KeyMark}
use Rattle.str_model.specs.Acts.{abort_came, aborted, accepted, acked, asked, begun, certified, closed, commit_came, committed, decided_as, decided_versions, is_hosted_of, local_version, marked, pre_version, refused, replied, requested, taken, waits}
use Rattle.str_model.specs.Acts
use Rattle.str_model.specs.Owned.{Owns}
use Rattle.str_model.specs.Proposals.{Refuse, master_turn, proposed}
use Rattle.str_model.specs.Turns.{CommittedAt, own_fate}
use Rattle.str_model.specs.Views.{Committed, Doing, Own, is_decided, lc_of, letter, name_of}
use Rattle.str_scene.specs.Scenes.{Here, first_or, in_part, leads, others, replicas}
use Rattle.str_model.proofs.Principle.SingleChanges.{Act, Comes, IsHere, Serves, Where, act_abort, act_abort_came, act_accept, act_ack, act_ask, act_begin, act_certify, act_close, act_commit, act_commit_came, act_mark, act_put, act_refuse, act_reply, act_request, act_take, act_unwait, act_wait}
use Rattle.str_model.proofs.Changes.SnapshotsGain.{if_elim}
use Rattle.str_model.proofs.Changes.PairWords.{hosted_name, pair-is}
use Rattle.str_base.proofs.Lists.{get_set}
use Rattle.str_base.proofs.Members.{in_append, in_filter, in_insert_all, in_map, in_without}
use Rattle.str_base.specs.Members.{In}

-- where a new message comes from
pub data LetterFrom (here : Here) (input : Input) (d e : Doing) (b : Body) : Type 0 where
  lf_commit : (n fc : ℕ) (p : PartId) (ms : List KeyMark) → b ≡ Commit (name_of here n) p (stamp fc) ms → own_fate (slice_get e.view.own n) ≡ CommittedAt fc → LetterFrom here input d e b
  lf_request : (n : ℕ) (k : KeyId) (x : Own) → Owns d.view n x → b ≡ ReadReq (name_of here n) k (stamp x.snap.rs) → LetterFrom here input d e b
  lf_reply : (tx : TxId) (k : KeyId) (rs : ℕ) (a : Value) (by : Option TxId) (fc : ℕ) → Serves here input d tx k rs a by fc → b ≡ ReadReply tx k a by (stamp fc) → LetterFrom here input d e b
  lf_prepare : (n lc : ℕ) (p : PartId) (x : Own) → Owns d.view n x → is_decided x.phase ≡ false → lc_of x.phase ≡ Some lc
      → b ≡ Prepare (name_of here n) p (stamp x.snap.rs) (stamp lc) (filter (in_part here.scene p) x.writes) → LetterFrom here input d e b
  lf_replicate : (n lc : ℕ) (p : PartId) (x : Own) → Owns d.view n x → is_decided x.phase ≡ false → lc_of x.phase ≡ Some lc
      → b ≡ Replicate (name_of here n) p (stamp x.snap.rs) (stamp lc) (filter (in_part here.scene p) x.writes) → LetterFrom here input d e b
  lf_copy : (a : Arrived) → IsHere here input d a → b ≡ Replicate a.tx a.part a.rs a.lc a.writes → LetterFrom here input d e b
  lf_refuse : (a : Arrived) (by : TxId) (k : KeyId) → IsHere here input d a → master_turn d.view a ≡ Refuse by k → b ≡ Refusal a.tx a.part by k → LetterFrom here input d e b
  lf_ack : (tx : TxId) (p : PartId) (ts : Ts) → b ≡ Ack tx p ts → LetterFrom here input d e b
  lf_abort : (tx : TxId) (p : PartId) → b ≡ Abort tx p → LetterFrom here input d e b

-- a new message is this node's
pub record IsLetter (here : Here) (input : Input) (d e : Doing) (m : Message) : Type 0 where
  pub sender : m.sender ≡ here.node
  pub from : LetterFrom here input d e m.body

module _ (here : Here) (input : Input) (w : Where) where
  sent_old : (d e : Doing) (m : Message) → e.sent ≡ d.sent → In m e.sent → In m d.sent ⊎ IsLetter here input d e m
  sent_old d e m q h = inl (subst (In m) q h)

  one_letter : (d e : Doing) (m : Message) (to : NodeId) (b : Body) → LetterFrom here input d e b → In m (letter here to b ∷ []) → IsLetter here input d e m
  one_letter d e m to b f (inl q) = record { sender = ap (λ (z : Message). z.sender) (sym q); from = subst (λ (z : Message). LetterFrom here input d e z.body) q f }
  one_letter d e m to b f (inr z) = absurd z

  ask_letter : (d e : Doing) (n lc : ℕ) (p : PartId) (x : Own) (rs : List NodeId) (m : Message) → Owns d.view n x → is_decided x.phase ≡ false → lc_of x.phase ≡ Some lc
      → In m (Acts.ask_letters here n lc x p rs) → IsLetter here input d e m
  ask_letter d e n lc p x rs m own op l =
      if_elim (λ ms. In m ms → IsLetter here input d e m) (leads here.node rs)
      (map (λ r. letter here r (Replicate (name_of here n) p (stamp x.snap.rs) (stamp lc) (filter (in_part here.scene p) x.writes))) (others here.node rs))
      (letter here (first_or here.node rs) (Prepare (name_of here n) p (stamp x.snap.rs) (stamp lc) (filter (in_part here.scene p) x.writes)) ∷ [])
      (λ b h. let r = in_map (λ (r : NodeId). letter here r (Replicate (name_of here n) p (stamp x.snap.rs) (stamp lc) (filter (in_part here.scene p) x.writes))) (others here.node rs) m h in
      one_letter d e m r.0 _ (lf_replicate n lc p x own op l refl) (inl r.2))
      (λ b h. one_letter d e m _ _ (lf_prepare n lc p x own op l refl) h)

  pub letter-act : (d e : Doing) → Act here input w d e → (m : Message) → In m e.sent → In m d.sent ⊎ IsLetter here input d e m
  unfolding begun marked aborted committed closed certified asked acked requested accepted taken refused waits replied commit_came abort_came
  letter-act d e (act_ask n lc p x d' own f l g) m h =
      elim (in_append d'.sent (Acts.ask_letters here n lc x p (replicas here.scene p)) m h) [ inl j ↦ inl j | inr j ↦ inr (ask_letter d' e n lc p x (replicas here.scene p) m own.0 f l j) ]
  letter-act d e (act_abort n cause x d' own f y) m h =
      elim (in_append d'.sent (Acts.abort_letters here n x.parts) m h) [
        | inl j ↦ inl j
        | inr j ↦ (let r = in_map (λ (a : Asked). letter here a.node (Abort (name_of here n) a.part)) (Acts.asked_ones x.parts) m j in inr (one_letter d' e m r.0.node _ (lf_abort (name_of here n) r.0.part refl) (inl r.2)))
      ]
  letter-act d e (act_commit n lc fc x d' own l none le f g) m h =
      elim (in_append d'.sent (Acts.commit_letters here n x fc d'.view) m h) [
        | inl j ↦ inl j
        | inr j ↦ (let r = in_map (λ (a : Asked). letter here a.node (Commit (name_of here n) a.part (stamp fc) (Acts.marks_in here d'.view a.part x.writes))) x.parts m j in
            inr (one_letter d' e m r.0.node _ (lf_commit n fc r.0.part (Acts.marks_in here d'.view r.0.part x.writes) refl
            (ap own_fate (get_set d'.view.own n x (decided_as (Committed (Some lc) (Some fc)) x) own.0))) (inl r.2)))
      ]
  letter-act d e (act_accept a ts d' g t) m h =
      elim (in_append d'.sent (letter here a.tx.node (Ack a.tx a.part (stamp ts)) ∷ Acts.copies here a (replicas here.scene a.part)) m h) [
        | inl j ↦ inl j
        | inr j ↦ (elim j [
          | inl q ↦ inr (one_letter d' e m _ _ (lf_ack a.tx a.part (stamp ts) refl) (inl q))
          | inr q ↦ (let r = in_map (λ (r : NodeId). letter here r (Replicate a.tx a.part a.rs a.lc a.writes)) (others a.tx.node (others here.node (replicas here.scene a.part))) m q in
              inr (one_letter d' e m r.0 _ (lf_copy a g refl) (inl r.2)))
        ])
      ]
  letter-act d e (act_request n k to x d' own g) m h =
      elim (in_append d'.sent (letter here to (ReadReq (name_of here n) k (stamp x.snap.rs)) ∷ []) m h) [ inl j ↦ inl j | inr j ↦ inr (one_letter d' e m to _ (lf_request n k x own.0 refl) j) ]
  letter-act d e (act_refuse a u k d' g t) m h =
      elim (in_append d'.sent (letter here a.tx.node (Refusal a.tx a.part u k) ∷ []) m h) [ inl j ↦ inl j | inr j ↦ inr (one_letter d' e m a.tx.node _ (lf_refuse a u k g t refl) j) ]
  letter-act d e (act_take from a d' c l) m h =
      elim (in_append d'.sent (letter here a.tx.node (Ack a.tx a.part (stamp (proposed d'.view a))) ∷ []) m h) [ inl j ↦ inl j | inr j ↦ inr (one_letter d' e m a.tx.node _ (lf_ack a.tx a.part (stamp (proposed d'.view a)) refl) j) ]
  letter-act d e (act_reply tx k rs v u fc d' g) m h =
      elim (in_append d'.sent (letter here tx.node (ReadReply tx k v u (stamp fc)) ∷ []) m h) [ inl j ↦ inl j | inr j ↦ inr (one_letter d' e m tx.node _ (lf_reply tx k rs v u fc g refl) j) ]
  letter-act d e (act_begin place rs d' r g) m h = sent_old d' e m refl h
  letter-act d e (act_mark k t d' rd) m h = sent_old d' e m refl h
  letter-act d e (act_put i x y d' own g) m h = sent_old d' e m refl h
  letter-act d e (act_certify i lc snap x d' own f n c) m h = sent_old d' e m refl h
  letter-act d e (act_close i x d' own p n) m h = sent_old d' e m refl h
  letter-act d e (act_ack i lc from tx p ts parts x d' own c q g) m h = sent_old d' e m refl h
  letter-act d e (act_wait r d' g) m h = sent_old d' e m refl h
  letter-act d e (act_unwait kept rest r d' g) m h = sent_old d' e m refl h
  letter-act d e (act_commit_came from tx p fc ms d' c g) m h = sent_old d' e m refl h
  letter-act d e (act_abort_came from tx p d' c g) m h = sent_old d' e m refl h

-- where a version of these comes from: it stood here, or its transaction commits now, or its commit has come
pub data FinalFrom (here : Here) (input : Input) (d e : Doing) (q : Version) : Type 0 where
  ff_old : In q d.view.versions → FinalFrom here input d e q
  ff_commit : (n : ℕ) → q.tx ≡ name_of here n → own_fate (slice_get e.view.own n) ≡ CommittedAt q.ts.0 → FinalFrom here input d e q
  ff_came : (from : NodeId) (tx : TxId) (p : PartId) (fc : Ts) (ms : List KeyMark) → Comes here input from (Commit tx p fc ms) → q.tx ≡ tx → q.ts.0 ≡ fc.0 → FinalFrom here input d e q

pub final-act : (here : Here) (input : Input) (w : Where) (d e : Doing) → Act here input w d e → (q : Version) → In q e.view.versions → q.kind ≡ Final → FinalFrom here input d e q
unfolding begun marked aborted committed closed certified asked acked requested accepted taken refused waits replied commit_came abort_came
final-act here input w d e (act_commit i lc fc x d' own l n le f g) q m k =
    elim (in_insert_all (map (settled fc) (filter (is_hosted_of here (name_of here i)) d'.view.versions)) (without (of_tx (name_of here i)) d'.view.versions) q m) [
      | inl j ↦ (let r = in_map (settled fc) (filter (is_hosted_of here (name_of here i)) d'.view.versions) q j in
          let u = in_filter (is_hosted_of here (name_of here i)) d'.view.versions r.0 r.1 in
          ff_commit i (ap (λ (z : Version). z.tx) (sym r.2) ∙ hosted_name here (name_of here i) r.0 u.1)
          (ap own_fate (get_set d'.view.own i x (decided_as (Committed (Some lc) (Some fc)) x) own.0) ∙ ap (λ (z : Version). CommittedAt z.ts.0) r.2))
      | inr j ↦ ff_old (in_without (of_tx (name_of here i)) d'.view.versions q j)
    ]
final-act here input w d e (act_commit_came from t p fc ms d' c g) q m k =
    elim (in_insert_all (map (settled fc.0) (filter (of_pair t p) d'.view.versions)) (without (of_pair t p) d'.view.versions) q m) [
      | inl j ↦ (let r = in_map (settled fc.0) (filter (of_pair t p) d'.view.versions) q j in
          let u = in_filter (of_pair t p) d'.view.versions r.0 r.1 in
          ff_came from t p fc ms c (ap (λ (z : Version). z.tx) (sym r.2) ∙ (pair-is t p r.0 u.1).0) (ap (λ (z : Version). z.ts.0) (sym r.2)))
      | inr j ↦ ff_old (in_without (of_pair t p) d'.view.versions q j)
    ]
final-act here input w d e (act_abort i cause x d' own f y) q m k = ff_old (in_without (of_tx (name_of here i)) d'.view.versions q m)
final-act here input w d e (act_abort_came from t p d' c g) q m k = ff_old (in_without (of_pair t p) d'.view.versions q m)
final-act here input w d e (act_certify i lc snap x d' own f n c) q m k =
    elim (in_insert_all (map (local_version here i lc) x.writes) d'.view.versions q m) [
      | inl j ↦ (let r = in_map (local_version here i lc) x.writes q j in absurd (cc (ap (λ (z : Version). z.kind) r.2, k)))
      | inr j ↦ ff_old j
    ]
final-act here input w d e (act_accept a ts d' g n) q m k =
    elim (in_insert_all (map (pre_version a ts) a.writes) d'.view.versions q m) [
      | inl j ↦ (let r = in_map (pre_version a ts) a.writes q j in absurd (cc (ap (λ (z : Version). z.kind) r.2, k)))
      | inr j ↦ ff_old j
    ]
final-act here input w d e (act_take from a d' c l) q m k =
    elim (in_insert_all (map (pre_version a (proposed d'.view a)) a.writes) d'.view.versions q m) [
      | inl j ↦ (let r = in_map (pre_version a (proposed d'.view a)) a.writes q j in absurd (cc (ap (λ (z : Version). z.kind) r.2, k)))
      | inr j ↦ ff_old j
    ]
final-act here input w d e (act_begin place rs d' r g) q m k = ff_old m
final-act here input w d e (act_mark g t d' rd) q m k = ff_old m
final-act here input w d e (act_put i x y d' own g) q m k = ff_old m
final-act here input w d e (act_request i g n x d' own r) q m k = ff_old m
final-act here input w d e (act_ask i lc p x d' own f l g) q m k = ff_old m
final-act here input w d e (act_ack i lc from t p ts parts x d' own c r g) q m k = ff_old m
final-act here input w d e (act_close i x d' own p n) q m k = ff_old m
final-act here input w d e (act_refuse a u g d' r n) q m k = ff_old m
final-act here input w d e (act_wait r d' g) q m k = ff_old m
final-act here input w d e (act_unwait kept rest r d' g) q m k = ff_old m
final-act here input w d e (act_reply t g rs v u fc d' r) q m k = ff_old m
