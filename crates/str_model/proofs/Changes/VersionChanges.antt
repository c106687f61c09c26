-- What a single change does to a node's versions, to its waiters and to the messages that it has sent.
use Rattle.std.proofs.Common.{Bool, List, [], ap, append-nil, false, filter, if◌then◌else◌, inl, inr, map, refl, subst, sym, true, ℕ, ◌++◌, ◌∙◌, ◌∷◌, ◌≡◌}
use Rattle.partition_map.specs.declared.rows.Asked.{Asked}
use Rattle.str_base.specs.declared.names.NodeId.{NodeId}
use Rattle.str_base.specs.declared.names.PartId.{PartId}
use Rattle.str_base.specs.declared.names.TxId.{TxId}
use Rattle.str_base.specs.declared.names.Version.{Version}
use Rattle.str_model.specs.declared.messages.Arrived.{Arrived}
use Rattle.str_model.specs.declared.messages.Body.TheVariants.{Abort, Ack, Commit, Prepare, ReadReply, ReadReq, Refuse as Refusal, Replicate}
use Rattle.str_model.specs.declared.messages.Input.{Input}
use Rattle.str_model.specs.declared.messages.Message.{Message}
use Rattle.str_model.specs.declared.messages.Waiter.{Waiter}
use Rattle.str_model.specs.declared.messages.Waiter.TheVariants.{Held}
use Rattle.str_model.specs.Acts.{abort_came, aborted, accepted, acked, asked, begun, certified, closed, commit_came, committed, decided_versions, local_version, marked, pre_version, refused, replied, requested, taken, waits}
use Rattle.str_model.specs.Acts
use Rattle.str_model.specs.Owned.{Asks}
use Rattle.str_model.specs.Proposals.{holds_pair}
use Rattle.str_scene.specs.Scenes.{Here, first_or, in_part, leads, others, replicas}
use Rattle.str_model.specs.Steps.{drop_held}
use Rattle.str_base.specs.Versions.{finalise, insert_all, of_pair, of_tx, without}
use Rattle.str_model.specs.Views.{Doing, Own, letter, name_of}
use Rattle.str_model.proofs.Principle.SingleChanges.{Act, Arrives, Comes, IsHere, Takes, Where, it_comes, it_waits, left_waiting, act_abort, act_abort_came, act_accept, act_ack, act_ask, act_begin, act_certify, act_close, act_commit, act_commit_came, act_mark, act_put, act_refuse, act_reply, act_request, act_take, act_unwait, act_wait}
use Rattle.str_model.proofs.Changes.SnapshotsGain.{if_elim}
use Rattle.str_base.proofs.Members.{in_append, in_left, in_map, in_right}
use Rattle.str_base.specs.Members.{In}

-- ---- versions

-- where new Pre versions come from
pub data Placed (here : Here) (input : Input) (d : Doing) (a : Arrived) : Type 0 where
  by_master : IsHere here input d a → Placed here input d a
  by_slave : (from : NodeId) → Comes here input from (Replicate a.tx a.part a.rs a.lc a.writes) → Takes here d a → Placed here input d a

pub data VersionStep (here : Here) (input : Input) (d e : Doing) : Type 0 where
  v_rests : e.view.versions ≡ d.view.versions → VersionStep here input d e
  v_locals : (i lc : ℕ) (x : Own) → e.view.versions ≡ insert_all (map (local_version here i lc) x.writes) d.view.versions → VersionStep here input d e
  v_pres : (a : Arrived) (ts : ℕ) → Placed here input d a → e.view.versions ≡ insert_all (map (pre_version a ts) a.writes) d.view.versions → VersionStep here input d e
  v_without : (test : Version → Bool) → e.view.versions ≡ without test d.view.versions → VersionStep here input d e
  v_decided : (i fc : ℕ) → e.view.versions ≡ decided_versions here (name_of here i) fc d.view.versions → VersionStep here input d e
  v_finals : (tx : TxId) (p : PartId) (fc : ℕ) → e.view.versions ≡ finalise (of_pair tx p) fc d.view.versions → VersionStep here input d e

-- ---- waiters: each was there, or has just come

pub data WaitStep (here : Here) (input : Input) (d e : Doing) : Type 0 where
  w_fewer : ((w : Waiter) → In w e.view.waiters → In w d.view.waiters) → WaitStep here input d e
  w_more : (w : Waiter) → Arrives here input d w → e.view.waiters ≡ d.view.waiters ++ w ∷ [] → WaitStep here input d e

-- ---- messages

-- what a new message has to do with asking
pub data Letter (here : Here) (input : Input) (d : Doing) (m : Message) : Type 0 where
  l_ask : (tx : TxId) (p : PartId) → m.sender ≡ tx.node → Asks tx p m.body → Letter here input d m
  l_copy : (a : Arrived) → IsHere here input d a → Asks a.tx a.part m.body → Letter here input d m
  l_other : ((tx : TxId) (p : PartId) → Asks tx p m.body → ⊥) → Letter here input d m

pub record SentStep (here : Here) (input : Input) (d e : Doing) : Type 0 where
  pub new : List Message
  pub are : e.sent ≡ d.sent ++ new
  pub each : (m : Message) → In m new → Letter here input d m

dropped : (tx : TxId) (p : PartId) (ws : List Waiter) (w : Waiter) → In w (drop_held tx p ws) → In w ws
dropped tx p [] w h = h
dropped tx p (x ∷ ws) w h = by_test (dropped tx p ws w) (holds_pair tx p x) h
  where
    by_test : (In w (drop_held tx p ws) → In w ws) → (b : Bool) → In w (if b then ws else x ∷ drop_held tx p ws) → In w (x ∷ ws)
    by_test rec true k = inr k
    by_test rec false (inl e) = inl e
    by_test rec false (inr k) = inr (rec k)

-- those who still wait were waiting
pub still : (here : Here) (input : Input) (d : Doing) (a : Arrived) (h : IsHere here input d a) (x : Waiter) → In x (left_waiting h) → In x d.view.waiters
still here input d a (it_comes from c u z m) x k = k
still here input d a (it_waits kept rest q) x k =
    subst (In x) (sym q) (elim (in_append kept rest x k) [ inl j ↦ in_left kept (Held a ∷ rest) x j | inr j ↦ in_right kept (Held a ∷ rest) x (inr j) ])

module _ (here : Here) (input : Input) (w : Where) where
  pub version_step : (d e : Doing) → Act here input w d e → VersionStep here input d e
  unfolding begun marked aborted committed closed certified asked acked requested accepted taken refused waits replied commit_came abort_came
  version_step d e (act_begin place rs d' r h) = v_rests refl
  version_step d e (act_mark k t d' rd) = v_rests refl
  version_step d e (act_put i x y d' own g) = v_rests refl
  version_step d e (act_request i k m x d' own g) = v_rests refl
  version_step d e (act_certify i lc snap x d' own f n c) = v_locals i lc x refl
  version_step d e (act_ask i lc p x d' own f l g) = v_rests refl
  version_step d e (act_ack i lc from tx p ts parts x d' own c q g) = v_rests refl
  version_step d e (act_abort i cause x d' own f y) = v_without (of_tx (name_of here i)) refl
  version_step d e (act_commit i lc fc x d' own l n le f g) = v_decided i fc refl
  version_step d e (act_close i x d' own p n) = v_rests refl
  version_step d e (act_accept a ts d' h m) = v_pres a ts (by_master h) refl
  version_step d e (act_refuse a u k d' h m) = v_rests refl
  version_step d e (act_take from a d' c l) = v_pres a _ (by_slave from c l) refl
  version_step d e (act_wait r d' h) = v_rests refl
  version_step d e (act_unwait kept rest r d' h) = v_rests refl
  version_step d e (act_reply tx k rs v u fc d' h) = v_rests refl
  version_step d e (act_commit_came from tx p fc ms d' c h) = v_finals tx p fc.0 refl
  version_step d e (act_abort_came from tx p d' c h) = v_without (of_pair tx p) refl

  pub wait_step : (d e : Doing) → Act here input w d e → WaitStep here input d e
  unfolding begun marked aborted committed closed certified asked acked requested accepted taken refused waits replied commit_came abort_came
  wait_step d e (act_wait r d' h) = w_more r h refl
  wait_step d e (act_unwait kept rest r d' h) = w_fewer (λ x k. subst (In x) (sym h.waiters) (elim (in_append kept rest x k) [ inl a ↦ in_left kept (r ∷ rest) x a | inr b ↦ in_right kept (r ∷ rest) x (inr b) ]))
  wait_step d e (act_abort_came from tx p d' c h) = w_fewer (dropped tx p d'.view.waiters)
  wait_step d e (act_begin place rs d' r h) = w_fewer (λ w k. k)
  wait_step d e (act_mark k t d' rd) = w_fewer (λ w k. k)
  wait_step d e (act_put i x y d' own g) = w_fewer (λ w k. k)
  wait_step d e (act_request i k m x d' own g) = w_fewer (λ w k. k)
  wait_step d e (act_certify i lc snap x d' own f n c) = w_fewer (λ w k. k)
  wait_step d e (act_ask i lc p x d' own f l g) = w_fewer (λ w k. k)
  wait_step d e (act_ack i lc from tx p ts parts x d' own c q g) = w_fewer (λ w k. k)
  wait_step d e (act_abort i cause x d' own f y) = w_fewer (λ w k. k)
  wait_step d e (act_commit i lc fc x d' own l n le f g) = w_fewer (λ w k. k)
  wait_step d e (act_close i x d' own p n) = w_fewer (λ w k. k)
  wait_step d e (act_accept a ts d' h m) = w_fewer (still here input d' a h)
  wait_step d e (act_refuse a u k d' h m) = w_fewer (still here input d' a h)
  wait_step d e (act_take from a d' c l) = w_fewer (λ w k. k)
  wait_step d e (act_reply tx k rs v u fc d' h) = w_fewer (λ w k. k)
  wait_step d e (act_commit_came from tx p fc ms d' c h) = w_fewer (λ w k. k)

  none_sent : (d e : Doing) → e.sent ≡ d.sent → SentStep here input d e
  none_sent d e s = record { new = []; are = s ∙ sym (append-nil d.sent); each = λ m h. absurd h }

  ask_letter : (i lc : ℕ) (x : Own) (d : Doing) (p : PartId) (rs : List NodeId) (m : Message) → In m (Acts.ask_letters here i lc x p rs) → Letter here input d m
  ask_letter i lc x d p rs m =
      let ws = filter (in_part here.scene p) x.writes in
      if_elim (λ ms. In m ms → Letter here input d m) (leads here.node rs)
      (map (λ r. letter here r (Replicate (name_of here i) p (record { 0 = x.snap.rs }) (record { 0 = lc }) ws)) (others here.node rs))
      (letter here (first_or here.node rs) (Prepare (name_of here i) p (record { 0 = x.snap.rs }) (record { 0 = lc }) ws) ∷ [])
      (λ b h. let r = in_map (λ (r : NodeId). letter here r (Replicate (name_of here i) p (record { 0 = x.snap.rs }) (record { 0 = lc }) ws)) (others here.node rs) m h in
      l_ask (name_of here i) p (ap (λ z. z.sender) (sym r.2)) (subst (λ (z : Message). Asks (name_of here i) p z.body) r.2 (refl, refl)))
      (λ b h. elim h [ inl e ↦ l_ask (name_of here i) p (ap (λ z. z.sender) (sym e)) (subst (λ (z : Message). Asks (name_of here i) p z.body) e (refl, refl)) | inr k ↦ absurd k ])

  abort_letter : (i : ℕ) (parts : List Asked) (d : Doing) (m : Message) → In m (Acts.abort_letters here i parts) → Letter here input d m
  abort_letter i parts d m h =
      let r = in_map (λ (a : Asked). letter here a.node (Abort (name_of here i) a.part)) (Acts.asked_ones parts) m h in
      l_other (λ tx p k. subst (λ (z : Message). Asks tx p z.body) (sym r.2) k)

  pub sent_step : (d e : Doing) → Act here input w d e → SentStep here input d e
  unfolding begun marked aborted committed closed certified asked acked requested accepted taken refused waits replied commit_came abort_came
  sent_step d e (act_ask i lc p x d' own f l g) =
      record { new = Acts.ask_letters here i lc x p (replicas here.scene p); are = refl; each = ask_letter i lc x d p (replicas here.scene p) }
  sent_step d e (act_abort i cause x d' own f y) =
      record { new = Acts.abort_letters here i x.parts; are = refl; each = abort_letter i x.parts d }
  sent_step d e (act_commit i lc fc x d' own l n le f g) =
      record {
        new = Acts.commit_letters here i x fc d'.view;
        are = refl;
        each = λ m h. let r = in_map (λ (a : Asked). letter here a.node (Commit (name_of here i) a.part (record { 0 = fc }) (Acts.marks_in here d'.view a.part x.writes))) x.parts m h in l_other (λ tx p k. subst (λ (z : Message). Asks tx p z.body) (sym r.2) k);
      }
  sent_step d e (act_accept a ts d' h m) =
      record {
        new = letter here a.tx.node (Ack a.tx a.part (record { 0 = ts })) ∷ Acts.copies here a (replicas here.scene a.part);
        are = refl;
        each = λ l k. elim k [
          | inl q ↦ l_other (λ tx p z. subst (λ (y : Message). Asks tx p y.body) (sym q) z)
          | inr q ↦ (let r = in_map (λ (r : NodeId). letter here r (Replicate a.tx a.part a.rs a.lc a.writes)) (others a.tx.node (others here.node (replicas here.scene a.part))) l q in l_copy a h (subst (λ (y : Message). Asks a.tx a.part y.body) r.2 (refl, refl)))
        ];
      }
  sent_step d e (act_request i k m x d' own g) =
      record { new = letter here m (ReadReq (name_of here i) k (record { 0 = x.snap.rs })) ∷ []; are = refl; each = λ l h. elim h [ inl q ↦ l_other (λ tx p z. subst (λ (y : Message). Asks tx p y.body) (sym q) z) | inr k ↦ absurd k ] }
  sent_step d e (act_refuse a u k d' h m) =
      record { new = letter here a.tx.node (Refusal a.tx a.part u k) ∷ []; are = refl; each = λ l h. elim h [ inl q ↦ l_other (λ tx p z. subst (λ (y : Message). Asks tx p y.body) (sym q) z) | inr k ↦ absurd k ] }
  sent_step d e (act_take from a d' c l) =
      record { new = letter here a.tx.node (Ack a.tx a.part _) ∷ []; are = refl; each = λ l h. elim h [ inl q ↦ l_other (λ tx p z. subst (λ (y : Message). Asks tx p y.body) (sym q) z) | inr k ↦ absurd k ] }
  sent_step d e (act_reply tx k rs v u fc d' h) =
      record { new = letter here tx.node (ReadReply tx k v u (record { 0 = fc })) ∷ []; are = refl; each = λ l h. elim h [ inl q ↦ l_other (λ tx p z. subst (λ (y : Message). Asks tx p y.body) (sym q) z) | inr k ↦ absurd k ] }
  sent_step d e (act_begin place rs d' r h) = none_sent d e refl
  sent_step d e (act_mark k t d' rd) = none_sent d e refl
  sent_step d e (act_put i x y d' own g) = none_sent d e refl
  sent_step d e (act_certify i lc snap x d' own f n c) = none_sent d e refl
  sent_step d e (act_close i x d' own p n) = none_sent d e refl
  sent_step d e (act_ack i lc from tx p ts parts x d' own c q g) = none_sent d e refl
  sent_step d e (act_wait r d' h) = none_sent d e refl
  sent_step d e (act_unwait kept rest r d' h) = none_sent d e refl
  sent_step d e (act_commit_came from tx p fc ms d' c h) = none_sent d e refl
  sent_step d e (act_abort_came from tx p d' c h) = none_sent d e refl
