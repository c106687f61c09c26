-- Acks that were sent, each by its transaction, its partition and its sender: none of them was sent twice.
use Rattle.partition_map.specs.declared.rows.Asked.{Asked}
use Rattle.si_laws.proofs.Times.NoRepeats.{Once, once_push}
use Rattle.si_laws.proofs.Stages.LinkedStates.{Linked, Told}
use Rattle.si_laws.proofs.Stages.LinksKept.{kept_at, kept_known, placed_unknown}
use Rattle.si_laws.proofs.Stages.AllLinksKept.{linked_opening, linked_step}
use Rattle.str_model.proofs.Changes.VersionChanges.{Placed, by_master, by_slave}
use Rattle.si_laws.proofs.Times.ProposalsCounted.{acks_in, one_for}
use Rattle.str_model.proofs.Principle.SingleChanges.{Act, Where, act_abort, act_abort_came, act_accept, act_ack, act_ask, act_begin, act_certify, act_close, act_commit, act_commit_came, act_mark, act_put, act_refuse, act_reply, act_request, act_take, act_unwait, act_wait, it_comes, it_waits}
use Rattle.str_model.proofs.Principle.Everywhere.{IsSeen, Stage, at_place, during, everywhere, stage_of}
use Rattle.str_model.proofs.Changes.SnapshotsGain.{if_elim}
use Rattle.si_laws.specs.Numbers.{is_ack}
use Rattle.std.proofs.Common.{List, Some, [], ap, append-nil, append_assoc, arith, filter, inl, inr, length, length-append, map, refl, slice_get, slice_set, subst, sym, true, ℕ, ◌++◌, ◌∙◌, ◌∷◌, ◌≡◌}
use Rattle.std.proofs.lemmas.List.Sums.{sum_by-cons}
use Rattle.std.specs.List.{list_any}
use Rattle.str_base.specs.declared.names.NodeId.{NodeId}
use Rattle.str_base.specs.declared.names.PartId.{PartId}
use Rattle.str_base.specs.declared.names.Ts.{Ts}
use Rattle.str_base.specs.declared.names.TxId.{TxId}
use Rattle.str_base.specs.declared.names.Write.{Write}
use Rattle.str_base.specs.Versions.{same_node, stamp}
use Rattle.str_model.specs.Acts.{abort_came, aborted, accepted, acked, asked, begun, certified, closed, commit_came, committed, marked, refused, replied, requested, taken, waits}
use Rattle.str_model.specs.Acts
use Rattle.str_model.specs.declared.messages.Arrived.{Arrived}
use Rattle.str_model.specs.declared.messages.Body.{Body}
use Rattle.str_model.specs.declared.messages.Body.TheVariants.{Abort, Ack, Commit, Prepare, ReadReply, ReadReq, Refuse as Refusal, Replicate}
use Rattle.str_model.specs.declared.messages.Input.{Input}
use Rattle.str_model.specs.declared.messages.Message.{Message}
use Rattle.str_model.specs.declared.messages.Waiter.TheVariants.{Held}
use Rattle.str_model.specs.Proposals.{proposed}
use Rattle.str_model.specs.Runs.{run}
use Rattle.str_model.specs.Views.{Doing, Own, View, letter, name_of}
use Rattle.str_scene.specs.declared.names.Event.{Event}
use Rattle.str_scene.specs.Scenes.{Here, Scene, first_or, hosts, in_part, is_master, leads, others, replicas}
use Rattle.str_base.proofs.Lists.{get_set}
use Rattle.str_base.proofs.Members.{in_append, in_right}
use Rattle.str_base.specs.Members.{In}

-- a transaction, a partition and a node
pub record AckKey : Type 0 where
  pub tx : TxId
  pub part : PartId
  pub node : NodeId

abbrev pub key_of_body : NodeId → Body → List AckKey
key_of_body from (Ack tx p ts) = record { tx = tx; part = p; node = from } ∷ []
key_of_body from _ = []

-- the Acks of these messages
abbrev pub ack_keys : List Message → List AckKey
ack_keys [] = []
ack_keys (m ∷ ms) = key_of_body m.sender m.body ++ ack_keys ms

pub keys_append : (xs ys : List Message) → ack_keys (xs ++ ys) ≡ ack_keys xs ++ ack_keys ys
keys_append [] ys = refl
keys_append (m ∷ xs) ys =
    ap (λ zs. key_of_body m.sender m.body ++ zs) (keys_append xs ys) ∙ sym (append_assoc (key_of_body m.sender m.body) (ack_keys xs) (ack_keys ys))

keys_none : {A : Type 0} (f : A → Message) (xs : List A) → ((x : A) → key_of_body (f x).sender (f x).body ≡ []) → ack_keys (map f xs) ≡ []
keys_none f [] g = refl
keys_none f (x ∷ xs) g = rw (g x) (keys_none f xs g)

pub in_keys : (ms : List Message) (k : AckKey) → In k (ack_keys ms) → (m : Message) × In m ms × (ts : Ts) × (m.body ≡ Ack k.tx k.part ts) × (m.sender ≡ k.node)
in_keys [] k h = absurd h
in_keys (m ∷ ms) k h = elim (in_append (key_of_body m.sender m.body) (ack_keys ms) k h) [
  | inl j ↦ (let r = of_body m.sender m.body j in (m, inl refl, r.0, r.1, r.2))
  | inr j ↦ (let r = in_keys ms k j in (r.0, inr r.1, r.2, r.3, r.4))
]
  where
    of_body : (from : NodeId) (b : Body) → In k (key_of_body from b) → (ts : Ts) × (b ≡ Ack k.tx k.part ts) × (from ≡ k.node)
    of_body from (Ack tx p ts) (inl e) = (ts, λ j. Ack (e j).tx (e j).part ts, ap (λ (z : AckKey). z.node) e)
    of_body from (Ack tx p ts) (inr z) = absurd z
    of_body from (ReadReq tx l rs) z = absurd z
    of_body from (ReadReply tx l v by fc) z = absurd z
    of_body from (Prepare tx p rs lc ws) z = absurd z
    of_body from (Refusal tx p by l) z = absurd z
    of_body from (Replicate tx p rs lc ws) z = absurd z
    of_body from (Commit tx p fc ms) z = absurd z
    of_body from (Abort tx p) z = absurd z

pub keys_length : (ms : List Message) → length (ack_keys ms) ≡ acks_in ms
keys_length [] = refl
keys_length (m ∷ ms) =
    let rec = keys_length ms in
    let c = sum_by-cons (λ (z : Message). one_for (is_ack z.body)) m ms in
    let l = length-append (key_of_body m.sender m.body) (ack_keys ms) in
    let o = of_body m.sender m.body in omega (arith, rec, c, l, o)
  where
    of_body : (from : NodeId) (b : Body) → length (key_of_body from b) ≡ one_for (is_ack b)
    of_body from (Ack tx p ts) = refl
    of_body from (ReadReq tx l rs) = refl
    of_body from (ReadReply tx l v by fc) = refl
    of_body from (Prepare tx p rs lc ws) = refl
    of_body from (Refusal tx p by l) = refl
    of_body from (Replicate tx p rs lc ws) = refl
    of_body from (Commit tx p fc ms) = refl
    of_body from (Abort tx p) = refl

-- ---- each change

-- no Ack is sent, or one of a pair that is accepted or taken
pub data AcksMore (here : Here) (input : Input) (d e : Doing) : Type 0 where
  no_acks : ack_keys e.sent ≡ ack_keys d.sent → AcksMore here input d e
  one_ack : (a : Arrived) → Placed here input d a → ack_keys e.sent ≡ ack_keys d.sent ++ record { tx = a.tx; part = a.part; node = here.node } ∷ [] → AcksMore here input d e

module _ (here : Here) (input : Input) (w : Where) where
  without_acks : (xs ys : List Message) → ack_keys ys ≡ [] → ack_keys (xs ++ ys) ≡ ack_keys xs
  without_acks xs ys e = keys_append xs ys ∙ (ap (λ zs. ack_keys xs ++ zs) e ∙ append-nil (ack_keys xs))

  asks_none : (i lc : ℕ) (x : Own) (p : PartId) (rs : List NodeId) → ack_keys (Acts.ask_letters here i lc x p rs) ≡ []
  asks_none i lc x p rs =
      let ws : List Write = filter (in_part here.scene p) x.writes in
      if_elim (λ ms. ack_keys ms ≡ []) (leads here.node rs) (map (λ (n : NodeId). letter here n (Replicate (name_of here i) p (stamp x.snap.rs) (stamp lc) ws)) (others here.node rs))
      (letter here (first_or here.node rs) (Prepare (name_of here i) p (stamp x.snap.rs) (stamp lc) ws) ∷ [])
      (λ e. keys_none (λ (n : NodeId). letter here n (Replicate (name_of here i) p (stamp x.snap.rs) (stamp lc) ws)) (others here.node rs) (λ n. refl)) (λ e. refl)

  pub acks_act : (d e : Doing) → Act here input w d e → AcksMore here input d e
  unfolding begun marked aborted committed closed certified asked acked requested accepted taken refused waits replied commit_came abort_came
  acks_act d e (act_begin place rs d' r g) = no_acks refl
  acks_act d e (act_mark m t d' rd) = no_acks refl
  acks_act d e (act_put i x y d' own g) = no_acks refl
  acks_act d e (act_request i m n x d' own g) = no_acks (without_acks d'.sent (letter here n (ReadReq (name_of here i) m (stamp x.snap.rs)) ∷ []) refl)
  acks_act d e (act_certify i lc snap x d' own f n q) = no_acks refl
  acks_act d e (act_ask i lc p x d' own f l g) = no_acks (without_acks d'.sent (Acts.ask_letters here i lc x p (replicas here.scene p)) (asks_none i lc x p (replicas here.scene p)))
  acks_act d e (act_ack i lc from tx p ts parts x d' own m q g) = no_acks refl
  acks_act d e (act_abort i cause x d' own f y) =
      no_acks (without_acks d'.sent (Acts.abort_letters here i x.parts) (keys_none (λ (a : Asked). letter here a.node (Abort (name_of here i) a.part)) (Acts.asked_ones x.parts) (λ a. refl)))
  acks_act d e (act_commit i lc fc x d' own l n m f g) =
      no_acks (without_acks d'.sent (Acts.commit_letters here i x fc d'.view)
      (keys_none (λ (a : Asked). letter here a.node (Commit (name_of here i) a.part (stamp fc) (Acts.marks_in here d'.view a.part x.writes))) x.parts (λ a. refl)))
  acks_act d e (act_close i x d' own p n) = no_acks refl
  acks_act d e (act_accept a ts d' g m) =
      one_ack a (by_master g) (keys_append d'.sent (letter here a.tx.node (Ack a.tx a.part (stamp ts)) ∷ Acts.copies here a (replicas here.scene a.part))
      ∙ ap (λ zs. ack_keys d'.sent ++ record { tx = a.tx; part = a.part; node = here.node } ∷ zs)
      (keys_none (λ (n : NodeId). letter here n (Replicate a.tx a.part a.rs a.lc a.writes)) (others a.tx.node (others here.node (replicas here.scene a.part))) (λ n. refl)))
  acks_act d e (act_refuse a u m d' g q) = no_acks (without_acks d'.sent (letter here a.tx.node (Refusal a.tx a.part u m) ∷ []) refl)
  acks_act d e (act_take from a d' m t) = one_ack a (by_slave from m t) (keys_append d'.sent (letter here a.tx.node (Ack a.tx a.part (stamp (proposed d'.view a))) ∷ []))
  acks_act d e (act_wait r d' g) = no_acks refl
  acks_act d e (act_unwait kept rest r d' g) = no_acks refl
  acks_act d e (act_reply tx m rs v u fc d' g) = no_acks (without_acks d'.sent (letter here tx.node (ReadReply tx m v u (stamp fc)) ∷ []) refl)
  acks_act d e (act_commit_came from tx p fc ms d' m g) = no_acks refl
  acks_act d e (act_abort_came from tx p d' m g) = no_acks refl

-- ---- over every run

-- no Ack was sent twice, and each sender is a replica of the partition
pub record AcksOnce (scene : Scene) (s : Stage) : Type 0 where
  pub linked_ : Linked scene s
  pub once : Once (ack_keys s.sent)
  pub hosted : (k : AckKey) → In k (ack_keys s.sent) → hosts scene k.node k.part ≡ true

master_hosts : (scene : Scene) (n : NodeId) (p : PartId) → is_master scene n p ≡ true → hosts scene n p ≡ true
master_hosts scene n p e = by_row (replicas scene p) e
  where
    by_row : (row : List NodeId) → leads n row ≡ true → list_any (λ r. same_node r n) row ≡ true
    by_row [] e = absurd (cc e)
    by_row (r ∷ row) e = rw e refl

acks_keep : (scene : Scene) (s : Stage) (i : ℕ) (v : View) (input : Input) (w : Where) (d e : Doing) → slice_get s.nodes i ≡ Some v → IsSeen s input → Act (at_place scene i) input w d e
    → AcksOnce scene (during s i d) → AcksOnce scene (during s i e)
acks_keep scene s i v input w d e is seen act h = by_step (acks_act (at_place scene i) input w d e act)
  where
    new : Linked scene (during s i e)
    new = linked_step scene s i v input w d e is seen act h.linked_

    there : slice_get (slice_set s.nodes i d.view) i ≡ Some d.view
    there = get_set s.nodes i v d.view is

    old_is : ack_keys (s.sent ++ d.sent) ≡ ack_keys s.sent ++ ack_keys d.sent
    old_is = keys_append s.sent d.sent

    new_is : ack_keys (s.sent ++ e.sent) ≡ ack_keys s.sent ++ ack_keys e.sent
    new_is = keys_append s.sent e.sent

    -- the pair of an Ack that was sent is known
    not_sent : (a : Arrived) → Placed (at_place scene i) input d a → In (record { tx = a.tx; part = a.part; node = (at_place scene i).node }) (ack_keys (s.sent ++ d.sent)) → ⊥
    not_sent a p k =
        let r = in_keys (s.sent ++ d.sent) (record { tx = a.tx; part = a.part; node = (at_place scene i).node }) k in
        let t : Told scene (during s i d) r.0.sender r.0.receiver (Ack a.tx a.part r.2) = subst (λ (b : Body). Told scene (during s i d) r.0.sender r.0.receiver b) r.3 (h.linked_.told r.0 r.1) in
        placed_unknown scene s i v input w d e is seen act h.linked_ a p
        (kept_known scene (during s i d) d.view a.tx a.part r.2 (filter (in_part scene a.part) t.all) t.some
        (kept_at scene (during s i d) r.0.sender a.tx a.part r.2 t i d.view there (ap (λ (n : NodeId). n.0) r.4)))

    placed_hosted : (a : Arrived) → Placed (at_place scene i) input d a → hosts scene (at_place scene i).node a.part ≡ true
    placed_hosted a (by_master (it_comes from c u z m)) = master_hosts scene (at_place scene i).node a.part m.master
    placed_hosted a (by_master (it_waits kept rest q)) =
        master_hosts scene (at_place scene i).node a.part (h.linked_.master i d.view there a (subst (In (Held a)) (sym q) (in_right kept (Held a ∷ rest) (Held a) (inl refl)))).master
    placed_hosted a (by_slave from c t) = t.hosted

    by_step : AcksMore (at_place scene i) input d e → AcksOnce scene (during s i e)
    by_step (no_acks q) =
        let same : ack_keys (s.sent ++ e.sent) ≡ ack_keys (s.sent ++ d.sent) = new_is ∙ (ap (λ zs. ack_keys s.sent ++ zs) q ∙ sym old_is) in
        record { linked_ = new; once = subst (λ zs. Once zs) (sym same) h.once; hosted = λ k j. h.hosted k (subst (In k) same j) }
    by_step (one_ack a p q) =
        let key : AckKey = record { tx = a.tx; part = a.part; node = (at_place scene i).node } in
        let more : ack_keys (s.sent ++ e.sent) ≡ ack_keys (s.sent ++ d.sent) ++ key ∷ [] =
        new_is ∙ (ap (λ zs. ack_keys s.sent ++ zs) q ∙ (sym (append_assoc (ack_keys s.sent) (ack_keys d.sent) (key ∷ [])) ∙ ap (λ zs. zs ++ key ∷ []) (sym old_is))) in
        record {
          linked_ = new;
          once = subst (λ zs. Once zs) (sym more) (once_push (ack_keys (s.sent ++ d.sent)) key h.once (not_sent a p));
          hosted = λ k j. elim (in_append (ack_keys (s.sent ++ d.sent)) (key ∷ []) k (subst (In k) more j)) [
            | inl z ↦ h.hosted k z
            | inr z ↦ (elim z [ inl y ↦ subst (λ (b : AckKey). hosts scene b.node b.part ≡ true) y (placed_hosted a p) | inr y ↦ absurd y ])
          ];
        }

pub acks_once : (scene : Scene) (es : List Event) → AcksOnce scene (stage_of (run scene es))
acks_once scene es =
    everywhere scene (AcksOnce scene) (λ s i v input w d e is seen hs a h. acks_keep scene s i v input w d e is seen a h)
    (record { linked_ = linked_opening scene; once = tt; hosted = λ k j. absurd j }) es
