-- Where an Ack was sent, the pair is known.
use Rattle.std.proofs.Common.{List, Some, [], ap, arith, false, filter, inl, inr, map, refl, slice_get, slice_set, subst, sym, true, ℕ, ◌&&◌, ◌++◌, ◌+◌, ◌∙◌, ◌∷◌, ◌≡◌, ◌≢◌, ◌⊎◌}
use Rattle.std.specs.List.{list_any}
use Rattle.partition_map.specs.declared.rows.Asked.{Asked}
use Rattle.str_base.specs.declared.names.NodeId.{NodeId}
use Rattle.str_base.specs.declared.names.PartId.{PartId}
use Rattle.str_base.specs.declared.names.Ts.{Ts}
use Rattle.str_base.specs.declared.names.TxId.{TxId}
use Rattle.str_base.specs.declared.names.Write.{Write}
use Rattle.str_model.specs.declared.messages.Arrived.{Arrived}
use Rattle.str_model.specs.declared.messages.Body.{Body}
use Rattle.str_model.specs.declared.messages.Body.TheVariants.{Abort, Ack, Commit, Prepare, ReadReply, ReadReq, Refuse as Refusal, Replicate}
use Rattle.str_model.specs.declared.messages.Input.{Input}
use Rattle.str_model.specs.declared.messages.Message.{Message}
use Rattle.str_model.specs.declared.messages.Waiter.TheVariants.{Held}
use Rattle.str_model.specs.Acts.{abort_came, aborted, accepted, acked, asked, begun, certified, closed, commit_came, committed, marked, pre_version, refused, replied, requested, taken, waits}
use Rattle.str_model.specs.Acts
use Rattle.si_laws.specs.Laws.Stages.{AcksKnown}
use Rattle.si_laws.specs.Numbers.{is_ack}
use Rattle.str_model.specs.Proposals.{is_done, is_pair, is_parked, proposed}
use Rattle.str_model.specs.Runs.{opening, opening_view, run}
use Rattle.str_scene.specs.Scenes.{Here, Scene, first_or, in_part, leads, others, replicas}
use Rattle.str_model.specs.Strange.{has_named}
use Rattle.str_model.specs.Strange
use Rattle.str_base.specs.Versions.{insert_all, of_pair, same_node, stamp}
use Rattle.str_model.specs.Views.{Doing, View, letter, name_of}
use Rattle.str_model.proofs.Principle.SingleChanges.{Act, Comes, IsHere, Where, act_abort, act_abort_came, act_accept, act_ack, act_ask, act_begin, act_certify, act_close, act_commit, act_commit_came, act_mark, act_put, act_refuse, act_reply, act_request, act_take, act_unwait, act_wait, it_comes, it_waits}
use Rattle.str_model.proofs.Principle.Everywhere.{IsSeen, Stage, at_place, during, everywhere, stage_of}
use Rattle.str_model.proofs.Changes.SnapshotsGain.{if_elim}
use Rattle.str_model.proofs.Changes.VersionChanges.{wait_step}
use Rattle.str_model.proofs.Changes.PairWords.{Has, SomeWrites, same_pair, some_step, valid_some}
use Rattle.si_laws.proofs.Stages.PairsForward.{rank_two, second-act}
use Rattle.str_base.proofs.Members.{any_in, in_all_new, in_append, in_at, in_left, in_map, in_right, map_in}
use Rattle.str_base.proofs.Tests.{and_true_right}
use Rattle.str_base.proofs.Lists.{get_set, get_set_other, got_replicate, got_set}
use Rattle.str_base.specs.Members.{In}

-- a new Ack is of this node, and its pair's versions stand
pub record IsNew (here : Here) (e : Doing) (m : Message) : Type 0 where
  pub sender : m.sender ≡ here.node
  pub stands : (tx : TxId) (p : PartId) (ts : Ts) → m.body ≡ Ack tx p ts → Has (of_pair tx p) e.view.versions

module _ (here : Here) (input : Input) (w : Where) where
  letters : (A : Type 0) (f : A → Message) (xs : List A) (m : Message) (R : Type 0) → ((x : A) → is_ack (f x).body ≡ false) → In m (map f xs) → is_ack m.body ≡ true → R
  letters A f xs m R no_ack h k = let r = in_map f xs m h in absurd (cc (ap (λ (z : Message). is_ack z.body) r.2, no_ack r.0, k))

  new_placed : (a : Arrived) (ts : ℕ) (d e : Doing) (m : Message) → e.view.versions ≡ insert_all (map (pre_version a ts) a.writes) d.view.versions
      → letter here a.tx.node (Ack a.tx a.part (stamp ts)) ≡ m → ((x : Write) × In x a.writes) → IsNew here e m
  new_placed a ts d e m q g x =
      record {
        sender = ap (λ (z : Message). z.sender) (sym g);
        stands = λ tx p t b.
            let body : Ack a.tx a.part (stamp ts) ≡ Ack tx p t = ap (λ (z : Message). z.body) g ∙ b in
            let same_t : a.tx ≡ tx = cc body in
            let same_p : a.part ≡ p = cc body in (
              pre_version a ts x.0,
              subst (In (pre_version a ts x.0)) (sym q) (in_all_new (map (pre_version a ts) a.writes) d.view.versions (pre_version a ts x.0) (map_in (pre_version a ts) a.writes x.0 x.1)),
              same_pair a.tx tx a.part p (record { node = ap (λ (z : TxId). z.node.0) same_t; seq = ap (λ (z : TxId). z.seq) same_t; part = ap (λ (z : PartId). z.0) same_p }),
            );
      }

  pub comes_some : (from : NodeId) (a : Arrived) (b : Body) → Comes here input from b → has_named here b ≡ Strange.has_named_writes here a.tx a.part a.rs a.lc a.writes → (x : Write) × In x a.writes
  comes_some from a b c q =
      let named : has_named here c.0.body ≡ true = and_true_right (Strange.has_node here c.0.sender) (has_named here c.0.body) (and_true_right (same_node c.0.receiver here.node) (Strange.has_node here c.0.sender && has_named here c.0.body) c.4) in
      valid_some here a.tx a.part a.rs a.lc a.writes (sym q ∙ (ap (has_named here) (sym c.3) ∙ named))

  here_some : (d : Doing) (a : Arrived) → SomeWrites d.view → IsHere here input d a → (x : Write) × In x a.writes
  here_some d a some (it_comes from c u z m) = comes_some from a (Prepare a.tx a.part a.rs a.lc a.writes) c refl
  here_some d a some (it_waits kept rest q) = some a (subst (In (Held a)) (sym q) (in_right kept (Held a ∷ rest) (Held a) (inl refl)))

  pub ack_step : (d e : Doing) → Act here input w d e → SomeWrites d.view → (m : Message) → In m e.sent → is_ack m.body ≡ true → In m d.sent ⊎ IsNew here e m
  unfolding begun marked aborted committed closed certified asked acked requested accepted taken refused waits replied commit_came abort_came
  ack_step d e (act_ask i lc p x d' own f l g) some m h k =
      elim (in_append d.sent (Acts.ask_letters here i lc x p (replicas here.scene p)) m h) [
        | inl j ↦ inl j
        | inr j ↦ if_elim (λ ms. In m ms → In m d.sent ⊎ IsNew here e m) (leads here.node (replicas here.scene p))
            (map (λ r. letter here r (Replicate (name_of here i) p (stamp x.snap.rs) (stamp lc) (filter (in_part here.scene p) x.writes))) (others here.node (replicas here.scene p)))
            (letter here (first_or here.node (replicas here.scene p)) (Prepare (name_of here i) p (stamp x.snap.rs) (stamp lc) (filter (in_part here.scene p) x.writes)) ∷ [])
            (λ t z. letters NodeId (λ (r : NodeId). letter here r (Replicate (name_of here i) p (stamp x.snap.rs) (stamp lc) (filter (in_part here.scene p) x.writes))) (others here.node (replicas here.scene p)) m (In m d.sent ⊎ IsNew here e m) (λ r. refl) z k)
            (λ t z. elim z [ inl q ↦ absurd (cc (ap (λ (y : Message). is_ack y.body) q, k)) | inr q ↦ absurd q ]) j
      ]
  ack_step d e (act_abort i cause x d' own f y) some m h k =
      elim (in_append d.sent (Acts.abort_letters here i x.parts) m h) [
        | inl j ↦ inl j
        | inr j ↦ letters Asked (λ (a : Asked). letter here a.node (Abort (name_of here i) a.part)) (Acts.asked_ones x.parts) m (In m d.sent ⊎ IsNew here e m) (λ r. refl) j k
      ]
  ack_step d e (act_commit i lc fc x d' own l n le f g) some m h k =
      elim (in_append d.sent (Acts.commit_letters here i x fc d.view) m h) [
        | inl j ↦ inl j
        | inr j ↦ letters Asked (λ (a : Asked). letter here a.node (Commit (name_of here i) a.part (stamp fc) (Acts.marks_in here d.view a.part x.writes))) x.parts m (In m d.sent ⊎ IsNew here e m) (λ r. refl) j k
      ]
  ack_step d e (act_accept a ts d' here_ t) some m h k =
      elim (in_append d.sent (letter here a.tx.node (Ack a.tx a.part (stamp ts)) ∷ Acts.copies here a (replicas here.scene a.part)) m h) [
        | inl j ↦ inl j
        | inr j ↦ (elim j [
          | inl q ↦ inr (new_placed a ts d e m refl q (here_some d a some here_))
          | inr q ↦ letters NodeId (λ (r : NodeId). letter here r (Replicate a.tx a.part a.rs a.lc a.writes)) (others a.tx.node (others here.node (replicas here.scene a.part))) m (In m d.sent ⊎ IsNew here e m) (λ r. refl) q k
        ])
      ]
  ack_step d e (act_take from a d' c l) some m h k =
      elim (in_append d.sent (letter here a.tx.node (Ack a.tx a.part (stamp (proposed d.view a))) ∷ []) m h) [
        | inl j ↦ inl j
        | inr j ↦ (elim j [
          | inl q ↦ inr (new_placed a (proposed d.view a) d e m refl q (comes_some from a (Replicate a.tx a.part a.rs a.lc a.writes) c refl))
          | inr q ↦ absurd q
        ])
      ]
  ack_step d e (act_request i g n x d' own o) some m h k =
      elim (in_append d.sent (letter here n (ReadReq (name_of here i) g (stamp x.snap.rs)) ∷ []) m h) [ inl j ↦ inl j | inr j ↦ (elim j [ inl q ↦ absurd (cc (ap (λ (y : Message). is_ack y.body) q, k)) | inr q ↦ absurd q ]) ]
  ack_step d e (act_refuse a u g d' o n) some m h k =
      elim (in_append d.sent (letter here a.tx.node (Refusal a.tx a.part u g) ∷ []) m h) [ inl j ↦ inl j | inr j ↦ (elim j [ inl q ↦ absurd (cc (ap (λ (y : Message). is_ack y.body) q, k)) | inr q ↦ absurd q ]) ]
  ack_step d e (act_reply t g rs v u fc d' o) some m h k =
      elim (in_append d.sent (letter here t.node (ReadReply t g v u (stamp fc)) ∷ []) m h) [ inl j ↦ inl j | inr j ↦ (elim j [ inl q ↦ absurd (cc (ap (λ (y : Message). is_ack y.body) q, k)) | inr q ↦ absurd q ]) ]
  ack_step d e (act_begin place rs d' r o) some m h k = inl h
  ack_step d e (act_mark g t d' rd) some m h k = inl h
  ack_step d e (act_put i x y d' own g) some m h k = inl h
  ack_step d e (act_certify i lc snap x d' own f n c) some m h k = inl h
  ack_step d e (act_ack i lc from t q ts parts x d' own c r g) some m h k = inl h
  ack_step d e (act_close i x d' own q n) some m h k = inl h
  ack_step d e (act_wait r d' o) some m h k = inl h
  ack_step d e (act_unwait kept rest r d' o) some m h k = inl h
  ack_step d e (act_commit_came from t q fc ms d' c o) some m h k = inl h
  ack_step d e (act_abort_came from t q d' c o) some m h k = inl h

-- ---- over every run

abbrev Known : TxId → PartId → View → Type 0
Known tx p v = Has (is_pair tx p) v.done ⊎ Has (of_pair tx p) v.versions

-- what is kept
record Acked (s : Stage) : Type 0 where
  some : (n : ℕ) (v : View) → slice_get s.nodes n ≡ Some v → SomeWrites v
  acks : (m : Message) → In m s.sent → (n : ℕ) (v : View) → slice_get s.nodes n ≡ Some v → m.sender.0 ≡ n + 1 → (tx : TxId) (p : PartId) (ts : Ts) → m.body ≡ Ack tx p ts
      → tx.node.0 ≢ n + 1 → Known tx p v

acked-keeps : (scene : Scene) (s : Stage) (i : ℕ) (v : View) (input : Input) (w : Where) (d e : Doing) → slice_get s.nodes i ≡ Some v → IsSeen s input → Acked s
    → Act (at_place scene i) input w d e → Acked (during s i d) → Acked (during s i e)
acked-keeps scene s i v input w d e is seen hs a h =
    record {
      some = λ n u g. elim (got_set s.nodes i n e.view u g) [
        | inl q ↦ subst (λ (z : View). SomeWrites z) (sym q.1) (some_step (at_place scene i) input d e (wait_step (at_place scene i) input w d e a) some_d)
        | inr q ↦ h.some n u (get_set_other s.nodes i n d.view q.0 ∙ q.1)
      ];
      acks = λ m k n u g from tx p ts b other. by_age m k n u (got_set s.nodes i n e.view u g) from tx p ts b other;
    }
  where
    there : slice_get (slice_set s.nodes i d.view) i ≡ Some d.view
    there = get_set s.nodes i v d.view is

    some_d : SomeWrites d.view
    some_d = h.some i d.view there

    older_ : (m : Message) → In m (s.sent ++ d.sent) → (n : ℕ) (u : View) → ((n ≡ i) × (u ≡ e.view)) ⊎ ((n ≢ i) × (slice_get s.nodes n ≡ Some u)) → m.sender.0 ≡ n + 1
        → (tx : TxId) (p : PartId) (ts : Ts) → m.body ≡ Ack tx p ts → tx.node.0 ≢ n + 1 → Known tx p u
    older_ m k n u (inl q) from tx p ts b other =
        let same : n + 1 ≡ i + 1 = ap (λ z. z + 1) q.0 in
        let other_i : tx.node.0 ≢ i + 1 = λ z. other (z ∙ sym same) in
        subst (λ (z : View). Known tx p z) (sym q.1)
        (second-act (at_place scene i) input w tx p other_i d e a (h.acks m k i d.view there (from ∙ same) tx p ts b other_i))
    older_ m k n u (inr q) from tx p ts b other = h.acks m k n u (get_set_other s.nodes i n d.view q.0 ∙ q.1) from tx p ts b other

    newer : (m : Message) → IsNew (at_place scene i) e m → (n : ℕ) (u : View) → ((n ≡ i) × (u ≡ e.view)) ⊎ ((n ≢ i) × (slice_get s.nodes n ≡ Some u)) → m.sender.0 ≡ n + 1
        → (tx : TxId) (p : PartId) (ts : Ts) → m.body ≡ Ack tx p ts → Known tx p u
    newer m x n u (inl q) from tx p ts b = subst (λ (z : View). Known tx p z) (sym q.1) (inr (x.stands tx p ts b))
    newer m x n u (inr q) from tx p ts b = absurd (q.0 (omega (arith, from, ap (λ (z : NodeId). z.0) x.sender)))

    by_age : (m : Message) → In m (s.sent ++ e.sent) → (n : ℕ) (u : View) → ((n ≡ i) × (u ≡ e.view)) ⊎ ((n ≢ i) × (slice_get s.nodes n ≡ Some u)) → m.sender.0 ≡ n + 1
        → (tx : TxId) (p : PartId) (ts : Ts) → m.body ≡ Ack tx p ts → tx.node.0 ≢ n + 1 → Known tx p u
    by_age m k n u g from tx p ts b other = elim (in_append s.sent e.sent m k) [
      | inl j ↦ older_ m (in_left s.sent d.sent m j) n u g from tx p ts b other
      | inr j ↦ (elim (ack_step (at_place scene i) input w d e a some_d m j (ap is_ack b)) [
        | inl z ↦ older_ m (in_right s.sent d.sent m z) n u g from tx p ts b other
        | inr x ↦ newer m x n u g from tx p ts b
      ])
    ]

acked_opening : (scene : Scene) → Acked (stage_of (opening scene))
acked_opening scene = record {
  some = λ n v g a k. absurd (subst (λ (z : View). In (Held a) z.waiters) (got_replicate scene.nodes n (opening_view scene) v g) k);
  acks = λ m k n v g from tx p ts b other. absurd k;
}

pub acks_known : AcksKnown
acks_known scene ok es n k v m is sent from tx p ts b other =
    let h : Acked (stage_of (run scene es)) = everywhere scene Acked (acked-keeps scene) (acked_opening scene) es in
    rank_two (is_done v tx p) (list_any (of_pair tx p) v.versions) (is_parked v tx p)
    (elim (h.acks m (in_at (run scene es).sent k m sent) n v is from tx p ts b other) [
      | inl x ↦ inl (any_in (is_pair tx p) v.done x.0 x.1 x.2)
      | inr x ↦ inr (any_in (of_pair tx p) v.versions x.0 x.1 x.2)
    ])
