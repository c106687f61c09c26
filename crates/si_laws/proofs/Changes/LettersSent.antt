-- What the messages are that a single change sends.
use Rattle.partition_map.specs.declared.rows.Asked.{Asked}
use Rattle.str_model.proofs.Changes.VersionChanges.{Placed, by_master, by_slave}
use Rattle.str_model.proofs.Principle.SingleChanges.{Act, IsHere, Where, act_abort, act_abort_came, act_accept, act_ack, act_ask, act_begin, act_certify, act_close, act_commit, act_commit_came, act_mark, act_put, act_refuse, act_reply, act_request, act_take, act_unwait, act_wait}
use Rattle.str_model.proofs.Changes.SnapshotsGain.{if_elim}
use Rattle.std.proofs.Common.{Bool, List, Some, [], ap, false, filter, inl, inr, map, refl, subst, sym, true, ℕ, ◌++◌, ◌∙◌, ◌∷◌, ◌≡◌, ◌⊎◌}
use Rattle.str_base.specs.Versions.{insert_all, mark_of, stamp}
use Rattle.str_base.specs.declared.names.Cause.{Cause}
use Rattle.str_base.specs.declared.names.NodeId.{NodeId}
use Rattle.str_base.specs.declared.names.PartId.{PartId}
use Rattle.str_base.specs.declared.names.Ts.{Ts}
use Rattle.str_base.specs.declared.names.TxId.{TxId}
use Rattle.str_base.specs.declared.names.Write.{Write}
use Rattle.str_model.specs.Acts
use Rattle.str_model.specs.Acts.{abort_came, abort_letters, aborted, accepted, acked, ask_letters, asked, asked_ones, begun, certified, closed, commit_came, commit_letters, committed, copies, decided_as, marked, marks_in, pre_version, refused, replied, requested, taken, waits}
use Rattle.str_model.specs.Owned.{Owns}
use Rattle.str_model.specs.Proposals.{proposed}
use Rattle.str_model.specs.Views.{Aborted, Committed, Doing, Own, lc_of, letter, name_of}
use Rattle.str_model.specs.declared.messages.Arrived.{Arrived}
use Rattle.str_model.specs.declared.messages.Body.TheVariants.{Abort, Ack, Commit, Prepare, ReadReply, ReadReq, Refuse as Refusal, Replicate}
use Rattle.str_model.specs.declared.messages.Body.{Body}
use Rattle.str_model.specs.declared.messages.Input.{Input}
use Rattle.str_model.specs.declared.messages.Message.{Message}
use Rattle.str_model.specs.declared.names.KeyMark.{KeyMark}
use Rattle.str_scene.specs.Scenes.{Here, first_or, in_part, leads, others, replicas}
use Rattle.str_base.proofs.Lists.{get_set}
use Rattle.str_base.proofs.Members.{in_append, in_filter, in_map}
use Rattle.str_base.specs.Members.{In}

-- neither asked nor answered nor decided
abbrev pub is_plain : Body → Bool
is_plain (ReadReq tx k rs) = true
is_plain (ReadReply tx k v by fc) = true
is_plain (Refusal tx p by k) = true
is_plain _ = false

-- the body asks the partition with these writes
pub data AsksWith (tx : TxId) (p : PartId) (rs lc : ℕ) (ws : List Write) : Body → Type 0 where
  as_prepare : AsksWith tx p rs lc ws (Prepare tx p (stamp rs) (stamp lc) ws)
  as_replicate : AsksWith tx p rs lc ws (Replicate tx p (stamp rs) (stamp lc) ws)

-- the marks are of the keys of the writes, in their order
abbrev pub AreMarked : List KeyMark → List Write → Type 0
AreMarked ms ws = map (λ (m : KeyMark). m.key) ms ≡ map (λ (w : Write). w.key) ws

marked_keys : (f : Write → Ts) (ws : List Write) → AreMarked (map (λ (w : Write). record { key = w.key; mark = f w }) ws) ws
marked_keys f [] = refl
marked_keys f (w ∷ ws) = ap (λ ks. w.key ∷ ks) (marked_keys f ws)

-- a message that has just been sent
pub data NewLetter (here : Here) (input : Input) (d e : Doing) (m : Message) : Type 0 where
  n_ask : (i lc : ℕ) (p : PartId) (x : Own) → Owns d.view i x → lc_of x.phase ≡ Some lc → AsksWith (name_of here i) p x.snap.rs lc (filter (in_part here.scene p) x.writes) m.body
      → NewLetter here input d e m
  n_copy : (a : Arrived) → IsHere here input d a → m.body ≡ Replicate a.tx a.part a.rs a.lc a.writes → NewLetter here input d e m
  n_ack : (a : Arrived) (ts : ℕ) → Placed here input d a → m.sender ≡ here.node → m.body ≡ Ack a.tx a.part (stamp ts)
      → e.view.versions ≡ insert_all (map (pre_version a ts) a.writes) d.view.versions → e.view.done ≡ d.view.done → NewLetter here input d e m
  n_commit : (i lc fc : ℕ) (x : Own) (a : Asked) (ms : List KeyMark) → Owns d.view i x → Owns e.view i (decided_as (Committed (Some lc) (Some fc)) x) → In a x.parts → (m.sender ≡ here.node) × (m.receiver ≡ a.node)
      → (m.body ≡ Commit (name_of here i) a.part (stamp fc) ms) × AreMarked ms (filter (in_part here.scene a.part) x.writes) → NewLetter here input d e m
  n_abort : (i : ℕ) (cause : Cause) (x : Own) (a : Asked) → Owns d.view i x → Owns e.view i (decided_as (Aborted (lc_of x.phase) cause) x) → In a x.parts → (m.sender ≡ here.node) × (m.receiver ≡ a.node)
      → m.body ≡ Abort (name_of here i) a.part → NewLetter here input d e m
  n_plain : is_plain m.body ≡ true → NewLetter here input d e m

module _ (here : Here) (input : Input) (w : Where) where
  plain_one : (d e : Doing) (l m : Message) → is_plain l.body ≡ true → In m (d.sent ++ l ∷ []) → In m d.sent ⊎ NewLetter here input d e m
  plain_one d e l m q h = elim (in_append d.sent (l ∷ []) m h) [
    | inl j ↦ inl j
    | inr j ↦ (elim j [ inl z ↦ inr (n_plain (ap (λ (y : Message). is_plain y.body) (sym z) ∙ q)) | inr z ↦ absurd z ])
  ]

  ask_new : (i lc : ℕ) (x : Own) (d e : Doing) (p : PartId) (rs : List NodeId) (m : Message) → Owns d.view i x → lc_of x.phase ≡ Some lc → In m (Acts.ask_letters here i lc x p rs) → NewLetter here input d e m
  ask_new i lc x d e p rs m own l =
      let ws = filter (in_part here.scene p) x.writes in
      if_elim (λ ms. In m ms → NewLetter here input d e m) (leads here.node rs)
      (map (λ r. letter here r (Replicate (name_of here i) p (stamp x.snap.rs) (stamp lc) ws)) (others here.node rs))
      (letter here (first_or here.node rs) (Prepare (name_of here i) p (stamp x.snap.rs) (stamp lc) ws) ∷ [])
      (λ b h. let r = in_map (λ (r : NodeId). letter here r (Replicate (name_of here i) p (stamp x.snap.rs) (stamp lc) ws)) (others here.node rs) m h in
      n_ask i lc p x own l (subst (λ (z : Message). AsksWith (name_of here i) p x.snap.rs lc ws z.body) r.2 as_replicate))
      (λ b h. elim h [ inl q ↦ n_ask i lc p x own l (subst (λ (z : Message). AsksWith (name_of here i) p x.snap.rs lc ws z.body) q as_prepare) | inr z ↦ absurd z ])

  abort_new : (i : ℕ) (cause : Cause) (x : Own) (d e : Doing) (m : Message) → Owns d.view i x → Owns e.view i (decided_as (Aborted (lc_of x.phase) cause) x) → In m (Acts.abort_letters here i x.parts) → NewLetter here input d e m
  abort_new i cause x d e m own own' h =
      let r = in_map (λ (a : Asked). letter here a.node (Abort (name_of here i) a.part)) (Acts.asked_ones x.parts) m h in
      let k = in_filter (λ (a : Asked). a.asked) x.parts r.0 r.1 in
      n_abort i cause x r.0 own own' k.0 (ap (λ (z : Message). z.sender) (sym r.2), ap (λ (z : Message). z.receiver) (sym r.2)) (ap (λ (z : Message). z.body) (sym r.2))

  commit_new : (i lc fc : ℕ) (x : Own) (d e : Doing) (m : Message) → Owns d.view i x → Owns e.view i (decided_as (Committed (Some lc) (Some fc)) x) → In m (Acts.commit_letters here i x fc d.view) → NewLetter here input d e m
  commit_new i lc fc x d e m own own' h =
      let r = in_map (λ (a : Asked). letter here a.node (Commit (name_of here i) a.part (stamp fc) (Acts.marks_in here d.view a.part x.writes))) x.parts m h in
      n_commit i lc fc x r.0 (Acts.marks_in here d.view r.0.part x.writes) own own' r.1 (ap (λ (z : Message). z.sender) (sym r.2), ap (λ (z : Message). z.receiver) (sym r.2))
      (ap (λ (z : Message). z.body) (sym r.2), marked_keys (λ (w : Write). stamp (mark_of d.view.marks w.key)) (filter (in_part here.scene r.0.part) x.writes))

  pub letter_step : (d e : Doing) → Act here input w d e → (m : Message) → In m e.sent → In m d.sent ⊎ NewLetter here input d e m
  unfolding begun marked aborted committed closed certified asked acked requested accepted taken refused waits replied commit_came abort_came
  letter_step d e (act_ask i lc p x d' own f l g) m h =
      elim (in_append d'.sent (Acts.ask_letters here i lc x p (replicas here.scene p)) m h) [
        | inl j ↦ inl j
        | inr j ↦ inr (ask_new i lc x d' e p (replicas here.scene p) m own.0 l j)
      ]
  letter_step d e (act_abort i cause x d' own f y) m h =
      elim (in_append d'.sent (Acts.abort_letters here i x.parts) m h) [ inl j ↦ inl j | inr j ↦ inr (abort_new i cause x d' e m own.0 (get_set d'.view.own i x _ own.0) j) ]
  letter_step d e (act_commit i lc fc x d' own l n le f g) m h =
      elim (in_append d'.sent (Acts.commit_letters here i x fc d'.view) m h) [ inl j ↦ inl j | inr j ↦ inr (commit_new i lc fc x d' e m own.0 (get_set d'.view.own i x _ own.0) j) ]
  letter_step d e (act_accept a ts d' h t) m k =
      elim (in_append d'.sent (letter here a.tx.node (Ack a.tx a.part (stamp ts)) ∷ Acts.copies here a (replicas here.scene a.part)) m k) [
        | inl j ↦ inl j
        | inr j ↦ (elim j [
          | inl q ↦ inr (n_ack a ts (by_master h) (ap (λ (z : Message). z.sender) (sym q)) (ap (λ (z : Message). z.body) (sym q)) refl refl)
          | inr q ↦ (let r = in_map (λ (r : NodeId). letter here r (Replicate a.tx a.part a.rs a.lc a.writes)) (others a.tx.node (others here.node (replicas here.scene a.part))) m q in
              inr (n_copy a h (ap (λ (z : Message). z.body) (sym r.2))))
        ])
      ]
  letter_step d e (act_take from a d' c l) m k =
      elim (in_append d'.sent (letter here a.tx.node (Ack a.tx a.part (stamp (proposed d'.view a))) ∷ []) m k) [
        | inl j ↦ inl j
        | inr j ↦ (elim j [
          | inl q ↦ inr (n_ack a (proposed d'.view a) (by_slave from c l) (ap (λ (z : Message). z.sender) (sym q)) (ap (λ (z : Message). z.body) (sym q)) refl refl)
          | inr q ↦ absurd q
        ])
      ]
  letter_step d e (act_request i g n x d' own o) m h = plain_one d' e (letter here n (ReadReq (name_of here i) g (stamp x.snap.rs))) m refl h
  letter_step d e (act_refuse a u g d' o n) m h = plain_one d' e (letter here a.tx.node (Refusal a.tx a.part u g)) m refl h
  letter_step d e (act_reply t g rs v u fc d' o) m h = plain_one d' e (letter here t.node (ReadReply t g v u (stamp fc))) m refl h
  letter_step d e (act_begin place rs d' r o) m h = inl h
  letter_step d e (act_mark g t d' rd) m h = inl h
  letter_step d e (act_put i x y d' own g) m h = inl h
  letter_step d e (act_certify i lc snap x d' own f n c) m h = inl h
  letter_step d e (act_ack i lc from t q ts parts x d' own c r g) m h = inl h
  letter_step d e (act_close i x d' own q n) m h = inl h
  letter_step d e (act_wait r d' o) m h = inl h
  letter_step d e (act_unwait kept rest r d' o) m h = inl h
  letter_step d e (act_commit_came from t q fc ms d' c o) m h = inl h
  letter_step d e (act_abort_came from t q d' c o) m h = inl h
