-- What was sent for a partition that is asked, for versions that are placed, and for a pair that is done.
use Rattle.std.proofs.Common.{Bool, None, Some, [], ap, false, filter, inl, inr, map, refl, slice_get, slice_set, subst, subst₂, sym, true, ℕ, ◌++◌, ◌||◌, ◌∙◌, ◌∷◌, ◌≡◌}
use Rattle.partition_map.specs.declared.rows.Asked.{Asked}
use Rattle.si_laws.specs.Laws.Presence.{Decides}
use Rattle.str_base.specs.Versions.{of_pair, of_tx, same_part, settled, stamp, without}
use Rattle.str_base.specs.declared.names.KeyId.{KeyId}
use Rattle.str_base.specs.declared.names.NodeId.{NodeId}
use Rattle.str_base.specs.declared.names.PartId.{PartId}
use Rattle.str_base.specs.declared.names.TxId.{TxId}
use Rattle.str_base.specs.declared.names.Version.{Version}
use Rattle.str_model.proofs.Changes.OwnGoesOn.{puts_on}
use Rattle.str_model.proofs.OwnFacts.AskedParts.{unasked_one}
use Rattle.str_model.proofs.OwnFacts.AtHome.{a_new, a_old, acked_parts}
use Rattle.str_model.proofs.Principle.SingleChanges.{Act, IsHere, Where, act_abort, act_abort_came, act_accept, act_ack, act_ask, act_begin, act_certify, act_close, act_commit, act_commit_came, act_mark, act_put, act_refuse, act_reply, act_request, act_take, act_unwait, act_wait}
use Rattle.str_model.specs.Acts
use Rattle.str_model.specs.Acts.{aborted, accepted, acked, asked, begun, certified, closed, commit_came, committed, fresh, decided_as, in_phase, is_hosted_of, local_version, marked, pre_version, refused, replied, requested, taken, waits, with_asked}
use Rattle.str_model.specs.Owned.{Owns}
use Rattle.str_model.specs.Proposals.{proposed}
use Rattle.str_model.specs.Views.{Aborted, Committed, Doing, Global, Local, Own, Remote, lc_of, letter, name_of}
use Rattle.str_model.specs.declared.messages.Arrived.{Arrived}
use Rattle.str_model.specs.declared.messages.Body.TheVariants.{Ack, Refuse as Refusal, Replicate}
use Rattle.str_model.specs.declared.messages.Input.{Input}
use Rattle.str_model.specs.declared.messages.Input.TheVariants.{Deliver}
use Rattle.str_model.specs.declared.messages.Message.{Message}
use Rattle.str_scene.specs.Scenes.{Here, is_master, others, participants, replicas}
use Rattle.str_base.proofs.SameNames.{same_part-is}
use Rattle.str_base.proofs.Lists.{got_push, got_set}
use Rattle.str_base.proofs.Members.{in_append, in_filter, in_insert_all, in_map, in_right, in_without, map_in}
use Rattle.str_base.specs.Members.{In}
use Rattle.std.proofs.lemmas.Bool.{or_cases}

-- ---- partitions that are asked

-- a participant that was asked: it was asked before, or its partition is asked now
pub data AskedFrom (here : Here) (d e : Doing) (k : ℕ) (a : Asked) : Type 0 where
  asked_before : (x : Own) (b : Asked) → Owns d.view k x → In b x.parts → b.part ≡ a.part → b.node ≡ a.node → b.asked ≡ true → AskedFrom here d e k a
  asked_now : (lc : ℕ) (x : Own) (b : Asked) → Owns d.view k x → In b x.parts → b.part ≡ a.part → b.node ≡ a.node
      → ((m : Message) → In m (Acts.ask_letters here k lc x a.part (replicas here.scene a.part)) → In m e.sent) → AskedFrom here d e k a

module _ (here : Here) (input : Input) (w : Where) where
  same_asked : (d e : Doing) (k : ℕ) (x : Own) (a : Asked) → Owns d.view k x → In a x.parts → a.asked ≡ true → AskedFrom here d e k a
  same_asked d e k x a o m t = asked_before x a o m refl refl t

  set_asked : (d e : Doing) (j k : ℕ) (x' y' y : Own) (a : Asked) → Owns d.view j x' → slice_get (slice_set d.view.own j y') k ≡ Some y → In a y.parts → a.asked ≡ true
      → (k ≡ j → In a y'.parts → AskedFrom here d e k a) → AskedFrom here d e k a
  set_asked d e j k x' y' y a o g m t f = elim (got_set d.view.own j k y' y g) [
    | inl p ↦ f p.0 (subst (λ (z : Own). In a z.parts) p.1 m)
    | inr p ↦ same_asked d e k y a p.1 m t
  ]

  -- where the participants are the same
  set_same : (d e : Doing) (j k : ℕ) (x' y' y : Own) (a : Asked) → Owns d.view j x' → y'.parts ≡ x'.parts → slice_get (slice_set d.view.own j y') k ≡ Some y → In a y.parts → a.asked ≡ true
      → AskedFrom here d e k a
  set_same d e j k x' y' y a o q g m t = set_asked d e j k x' y' y a o g m t (λ s n. same_asked d e k x' a (ap (λ (i : ℕ). slice_get d.view.own i) s ∙ o) (subst (In a) q n) t)

  pub asked_act : (d e : Doing) → Act here input w d e → (k : ℕ) (y : Own) (a : Asked) → Owns e.view k y → In a y.parts → a.asked ≡ true → AskedFrom here d e k a
  unfolding begun marked aborted committed closed certified asked acked requested accepted taken refused waits replied commit_came Acts.abort_came
  asked_act d e (act_begin place rs d' r h) k y a oy m t = elim (got_push d'.view.own k (fresh place rs) y oy) [
    | inl p ↦ absurd (subst (λ (z : Own). In a z.parts) p.1 m)
    | inr p ↦ same_asked d' e k y a p m t
  ]
  asked_act d e (act_put i x' y' d' own g) k y a oy m t = set_same d' e i k x' y' y a own.0 (puts_on here input d' i x' y' g).same_parts oy m t
  asked_act d e (act_request i l to x' d' own h) k y a oy m t = set_same d' e i k x' (in_phase (Remote l) x') y a own.0 refl oy m t
  asked_act d e (act_certify i c snap x' d' own f n z) k y a oy m t =
      set_asked d' e i k x' (record x' { snap = snap; parts = participants here.scene here.node x'.writes; phase = Local c }) y a own.0 oy m t
      (λ s j. absurd (cc ((unasked_one here.scene here.node x'.writes a j).0, t)))
  asked_act d e (act_ask i c p x' d' own f l g) k y a oy m t =
      set_asked d' e i k x' (record x' { parts = with_asked p x'.parts; phase = Global c }) y a own.0 oy m t
      (λ s j. let r = in_map {A = Asked} {B = Asked} (λ (b : Asked). record b { asked = b.asked || same_part b.part p }) x'.parts a j in
      let ok : Owns d'.view k x' = ap (λ (n : ℕ). slice_get d'.view.own n) s ∙ own.0 in
      let part : r.0.part ≡ a.part = ap (λ (z : Asked). z.part) r.2 in
      let node : r.0.node ≡ a.node = ap (λ (z : Asked). z.node) r.2 in
      elim (or_cases r.0.asked (same_part r.0.part p) (ap (λ (z : Asked). z.asked) r.2 ∙ t)) [
        | inl b ↦ asked_before x' r.0 ok r.1 part node b
        | inr b ↦ (let same : p ≡ a.part = sym (same_part-is r.0.part p b) ∙ part in
            asked_now c x' r.0 ok r.1 part node (λ l z. in_right d'.sent (Acts.ask_letters here i c x' p (replicas here.scene p)) l
            (subst₂ (λ (n : ℕ) (q : PartId). In l (Acts.ask_letters here n c x' q (replicas here.scene q))) s (sym same) z)))
      ])
  asked_act d e (act_ack i c from tx q ts parts x' d' own cm r g) k y a oy m t =
      set_asked d' e i k x' (record x' { parts = parts }) y a own.0 oy m t
      (λ s j. let ok : Owns d'.view k x' = ap (λ (n : ℕ). slice_get d'.view.own n) s ∙ own.0 in
      elim ((acked_parts x'.parts q from ts.0 parts g.parts_are).each a j) [
        | a_old h ↦ same_asked d' e k x' a ok h t
        | a_new b h sp sn z ↦ asked_before x' b ok h (ap (λ (u : Asked). u.part) (sym z)) (ap (λ (u : Asked). u.node) (sym z)) (ap (λ (u : Asked). u.asked) (sym z) ∙ t)
      ])
  asked_act d e (act_abort i cause x' d' own f z) k y a oy m t = set_same d' e i k x' (decided_as (Aborted (lc_of x'.phase) cause) x') y a own.0 refl oy m t
  asked_act d e (act_commit i c fc x' d' own l n le f g) k y a oy m t = set_same d' e i k x' (decided_as (Committed (Some c) (Some fc)) x') y a own.0 refl oy m t
  asked_act d e (act_close i x' d' own q n) k y a oy m t = set_same d' e i k x' (decided_as (Committed None None) x') y a own.0 refl oy m t
  asked_act d e (act_mark g z d' rd) k y a oy m t = same_asked d' e k y a oy m t
  asked_act d e (act_accept b ts d' h z) k y a oy m t = same_asked d' e k y a oy m t
  asked_act d e (act_refuse b u g d' h z) k y a oy m t = same_asked d' e k y a oy m t
  asked_act d e (act_take from b d' c z) k y a oy m t = same_asked d' e k y a oy m t
  asked_act d e (act_wait r d' h) k y a oy m t = same_asked d' e k y a oy m t
  asked_act d e (act_unwait kept rest r d' h) k y a oy m t = same_asked d' e k y a oy m t
  asked_act d e (act_reply tx g rs v u fc d' h) k y a oy m t = same_asked d' e k y a oy m t
  asked_act d e (act_commit_came from tx q fc ms d' c h) k y a oy m t = same_asked d' e k y a oy m t
  asked_act d e (act_abort_came from tx q d' c h) k y a oy m t = same_asked d' e k y a oy m t

-- ---- versions that are placed

-- a version: its pair stood here before, or it is one of this node's, or it has just been placed
pub data StandsFrom (here : Here) (input : Input) (d e : Doing) (q : Version) : Type 0 where
  st_old : (p : Version) → In p d.view.versions → p.tx ≡ q.tx → p.part ≡ q.part → StandsFrom here input d e q
  st_own : q.tx.node ≡ here.node → StandsFrom here input d e q
  st_accept : (a : Arrived) (ts : ℕ) → q.tx ≡ a.tx → q.part ≡ a.part → IsHere here input d a → In (letter here a.tx.node (Ack a.tx a.part (stamp ts))) e.sent
      → ((r : NodeId) → In r (others a.tx.node (others here.node (replicas here.scene a.part))) → In (letter here r (Replicate a.tx a.part a.rs a.lc a.writes)) e.sent) → StandsFrom here input d e q
  st_take : (a : Arrived) (ts : ℕ) → q.tx ≡ a.tx → q.part ≡ a.part → is_master here.scene here.node a.part ≡ false → In (letter here a.tx.node (Ack a.tx a.part (stamp ts))) e.sent
      → StandsFrom here input d e q

module _ (here : Here) (input : Input) (w : Where) where
  settled_old : (d e : Doing) (fc : ℕ) (test : Version → Bool) (q : Version) → In q (map (settled fc) (filter test d.view.versions)) → StandsFrom here input d e q
  settled_old d e fc test q h =
      let r = in_map (settled fc) (filter test d.view.versions) q h in
      st_old r.0 (in_filter test d.view.versions r.0 r.1).0 (ap (λ (z : Version). z.tx) r.2) (ap (λ (z : Version). z.part) r.2)

  pub stands_act : (d e : Doing) → Act here input w d e → (q : Version) → In q e.view.versions → StandsFrom here input d e q
  unfolding begun marked aborted committed closed certified asked acked requested accepted taken refused waits replied commit_came Acts.abort_came
  stands_act d e (act_certify i lc snap x d' own f n c) q h = elim (in_insert_all (map (local_version here i lc) x.writes) d'.view.versions q h) [
    | inl j ↦ (let r = in_map (local_version here i lc) x.writes q j in st_own (ap (λ (z : Version). z.tx.node) (sym r.2)))
    | inr j ↦ st_old q j refl refl
  ]
  stands_act d e (act_accept a ts d' g t) q h = elim (in_insert_all (map (pre_version a ts) a.writes) d'.view.versions q h) [
    | inl j ↦ (let r = in_map (pre_version a ts) a.writes q j in
        st_accept a ts (ap (λ (z : Version). z.tx) (sym r.2)) (ap (λ (z : Version). z.part) (sym r.2)) g
        (in_right d'.sent (letter here a.tx.node (Ack a.tx a.part (stamp ts)) ∷ Acts.copies here a (replicas here.scene a.part)) (letter here a.tx.node (Ack a.tx a.part (stamp ts))) (inl refl))
        (λ s m. in_right d'.sent (letter here a.tx.node (Ack a.tx a.part (stamp ts)) ∷ Acts.copies here a (replicas here.scene a.part)) (letter here s (Replicate a.tx a.part a.rs a.lc a.writes))
        (inr (map_in (λ (z : NodeId). letter here z (Replicate a.tx a.part a.rs a.lc a.writes)) (others a.tx.node (others here.node (replicas here.scene a.part))) s m))))
    | inr j ↦ st_old q j refl refl
  ]
  stands_act d e (act_take from a d' c t) q h = elim (in_insert_all (map (pre_version a (proposed d'.view a)) a.writes) d'.view.versions q h) [
    | inl j ↦ (let r = in_map (pre_version a (proposed d'.view a)) a.writes q j in
        st_take a (proposed d'.view a) (ap (λ (z : Version). z.tx) (sym r.2)) (ap (λ (z : Version). z.part) (sym r.2)) t.slave
        (in_right d'.sent (letter here a.tx.node (Ack a.tx a.part (stamp (proposed d'.view a))) ∷ []) (letter here a.tx.node (Ack a.tx a.part (stamp (proposed d'.view a)))) (inl refl)))
    | inr j ↦ st_old q j refl refl
  ]
  stands_act d e (act_abort i cause x d' own f y) q h = st_old q (in_without (of_tx (name_of here i)) d'.view.versions q h) refl refl
  stands_act d e (act_abort_came from tx p d' c g) q h = st_old q (in_without (of_pair tx p) d'.view.versions q h) refl refl
  stands_act d e (act_commit i lc fc x d' own l n le f g) q h =
      elim (in_insert_all (map (settled fc) (filter (is_hosted_of here (name_of here i)) d'.view.versions)) (without (of_tx (name_of here i)) d'.view.versions) q h) [
        | inl j ↦ settled_old d' e fc (is_hosted_of here (name_of here i)) q j
        | inr j ↦ st_old q (in_without (of_tx (name_of here i)) d'.view.versions q j) refl refl
      ]
  stands_act d e (act_commit_came from tx p fc ms d' c g) q h =
      elim (in_insert_all (map (settled fc.0) (filter (of_pair tx p) d'.view.versions)) (without (of_pair tx p) d'.view.versions) q h) [
        | inl j ↦ settled_old d' e fc.0 (of_pair tx p) q j
        | inr j ↦ st_old q (in_without (of_pair tx p) d'.view.versions q j) refl refl
      ]
  stands_act d e (act_begin place rs d' r g) q h = st_old q h refl refl
  stands_act d e (act_mark k t d' rd) q h = st_old q h refl refl
  stands_act d e (act_put i x y d' own g) q h = st_old q h refl refl
  stands_act d e (act_request i k to x d' own g) q h = st_old q h refl refl
  stands_act d e (act_ask i lc p x d' own f l g) q h = st_old q h refl refl
  stands_act d e (act_ack i lc from t p ts parts x d' own c r g) q h = st_old q h refl refl
  stands_act d e (act_close i x d' own p n) q h = st_old q h refl refl
  stands_act d e (act_refuse a u k d' g t) q h = st_old q h refl refl
  stands_act d e (act_wait r d' g) q h = st_old q h refl refl
  stands_act d e (act_unwait kept rest r d' g) q h = st_old q h refl refl
  stands_act d e (act_reply tx k rs v u fc d' g) q h = st_old q h refl refl

-- ---- pairs that are done

-- a done pair was done before, or its decision has come, or it is refused now
pub data DoneFrom (here : Here) (input : Input) (d e : Doing) (tx : TxId) (p : PartId) : Type 0 where
  dn_old : In (tx, p) d.view.done → DoneFrom here input d e tx p
  dn_came : (m : Message) → input ≡ Deliver m → Decides tx p m.body → DoneFrom here input d e tx p
  dn_refused : (to : NodeId) (by : TxId) (k : KeyId) → In (letter here to (Refusal tx p by k)) e.sent → DoneFrom here input d e tx p

module _ (here : Here) (input : Input) (w : Where) where
  last_of : (d e : Doing) (t : TxId) (q : PartId) (tx : TxId) (p : PartId) → (t ≡ tx → q ≡ p → DoneFrom here input d e tx p) → In (tx, p) (d.view.done ++ (t, q) ∷ []) → DoneFrom here input d e tx p
  last_of d e t q tx p f h = elim (in_append d.view.done ((t, q) ∷ []) (tx, p) h) [
    | inl j ↦ dn_old j
    | inr j ↦ (elim j [ inl s ↦ f (ap (λ (z : TxId × PartId). z.0) s) (ap (λ (z : TxId × PartId). z.1) s) | inr z ↦ absurd z ])
  ]

  pub done_act : (d e : Doing) → Act here input w d e → (tx : TxId) (p : PartId) → In (tx, p) e.view.done → DoneFrom here input d e tx p
  unfolding begun marked aborted committed closed certified asked acked requested accepted taken refused waits replied commit_came Acts.abort_came
  done_act d e (act_refuse a u k d' g t) tx p h =
      last_of d' e a.tx a.part tx p
      (λ s r. dn_refused a.tx.node u k
      (subst₂ (λ (y : TxId) (z : PartId). In (letter here a.tx.node (Refusal y z u k)) e.sent) s r
      (in_right d'.sent (letter here a.tx.node (Refusal a.tx a.part u k) ∷ []) (letter here a.tx.node (Refusal a.tx a.part u k)) (inl refl)))) h
  done_act d e (act_commit_came from t q fc ms d' c g) tx p h =
      last_of d' e t q tx p (λ s r. dn_came c.0 c.1 (subst (Decides tx p) (sym c.3) (s, r))) h
  done_act d e (act_abort_came from t q d' c g) tx p h = last_of d' e t q tx p (λ s r. dn_came c.0 c.1 (subst (Decides tx p) (sym c.3) (s, r))) h
  done_act d e (act_begin place rs d' r g) tx p h = dn_old h
  done_act d e (act_mark k t d' rd) tx p h = dn_old h
  done_act d e (act_put i x y d' own g) tx p h = dn_old h
  done_act d e (act_request i k to x d' own g) tx p h = dn_old h
  done_act d e (act_certify i lc snap x d' own f n c) tx p h = dn_old h
  done_act d e (act_ask i lc q x d' own f l g) tx p h = dn_old h
  done_act d e (act_ack i lc from t q ts parts x d' own c r g) tx p h = dn_old h
  done_act d e (act_abort i cause x d' own f y) tx p h = dn_old h
  done_act d e (act_commit i lc fc x d' own l n le f g) tx p h = dn_old h
  done_act d e (act_close i x d' own q n) tx p h = dn_old h
  done_act d e (act_accept a ts d' g t) tx p h = dn_old h
  done_act d e (act_take from a d' c t) tx p h = dn_old h
  done_act d e (act_wait r d' g) tx p h = dn_old h
  done_act d e (act_unwait kept rest r d' g) tx p h = dn_old h
  done_act d e (act_reply t k rs v u fc d' g) tx p h = dn_old h
