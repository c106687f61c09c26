-- What a single change does to the versions of a node, with the facts at which it is made.
pub use Rattle.str_model.specs.NodeFacts.{AreDistinct, AreDistinct}
use Rattle.str_model.proofs.Changes.PairWords.{hosted_name}
use Rattle.str_model.proofs.Principle.SingleChanges.{Act, Comes, IsHere, Takes, Where, act_abort, act_abort_came, act_accept, act_ack, act_ask, act_begin, act_certify, act_close, act_commit, act_commit_came, act_mark, act_put, act_refuse, act_reply, act_request, act_take, act_unwait, act_wait}
use Rattle.std.proofs.Common.{Bool, List, Some, [], ap, eq-eqb, false, filter, inl, inr, map, not, sym, true, ℕ, ◌&&◌, ◌∙◌, ◌∷◌, ◌≡◌, ◌⊎◌}
use Rattle.std.specs.List.{list_any}
use Rattle.str_base.specs.Versions.{insert_all, of_pair, of_tx, same_key, same_node, settled, without}
use Rattle.str_base.specs.declared.names.KeyId.{KeyId}
use Rattle.str_base.specs.declared.names.NodeId.{NodeId}
use Rattle.str_base.specs.declared.names.PartId.{PartId}
use Rattle.str_base.specs.declared.names.Ts.{Ts}
use Rattle.str_base.specs.declared.names.TxId.{TxId}
use Rattle.str_base.specs.declared.names.Version.{Version}
use Rattle.str_base.specs.declared.names.Write.{Write}
use Rattle.str_model.specs.Acts.{abort_came, aborted, accepted, acked, asked, begun, certified, closed, commit_came, committed, is_hosted_of, local_version, marked, pre_version, refused, replied, requested, taken, waits}
use Rattle.str_model.specs.Owned.{Owns}
use Rattle.str_model.specs.Proposals.{Accept, master_turn, proposed}
use Rattle.str_model.specs.Steps.{decides}
use Rattle.str_model.specs.Strange
use Rattle.str_model.specs.Strange.{below_limit, distinct_keys, has_named, has_named_writes, has_node, has_part, has_values, some_keys_in}
use Rattle.str_model.specs.Views.{Doing, Own, is_decided, lc_of, name_of}
use Rattle.str_model.specs.declared.messages.Arrived.{Arrived}
use Rattle.str_model.specs.declared.messages.Body.TheVariants.{Commit, Replicate}
use Rattle.str_model.specs.declared.messages.Body.{Body}
use Rattle.str_model.specs.declared.messages.Input.{Input}
use Rattle.str_model.specs.declared.names.KeyMark.{KeyMark}
use Rattle.str_scene.specs.Scenes.{Here}
use Rattle.str_base.proofs.Members.{any_in, in_filter, in_insert_all, in_map, in_without, map_in}
use Rattle.str_base.proofs.Tests.{and_true_left, and_true_right}
use Rattle.str_base.specs.Members.{In}

-- each version was there, or is a new one of the change
pub data VersionAct (here : Here) (input : Input) (d e : Doing) : Type 0 where
  va_fewer : ((q : Version) → In q e.view.versions → In q d.view.versions) → VersionAct here input d e
  va_locals : (i lc : ℕ) (x : Own) → ((q : Version) → In q e.view.versions → In q d.view.versions ⊎ ((w : Write) × In w x.writes × (q ≡ local_version here i lc w))) → VersionAct here input d e
  va_accept : (a : Arrived) (ts : ℕ) → IsHere here input d a → master_turn d.view a ≡ Accept ts
      → ((q : Version) → In q e.view.versions → In q d.view.versions ⊎ ((w : Write) × In w a.writes × (q ≡ pre_version a ts w))) → VersionAct here input d e
  va_take : (from : NodeId) (a : Arrived) (ts : ℕ) → Comes here input from (Replicate a.tx a.part a.rs a.lc a.writes) → Takes here d a
      → ((q : Version) → In q e.view.versions → In q d.view.versions ⊎ ((w : Write) × In w a.writes × (q ≡ pre_version a ts w))) → VersionAct here input d e
  va_commit : (i lc fc : ℕ) (x : Own) → Owns d.view i x → is_decided x.phase ≡ false → lc_of x.phase ≡ Some lc → x.snap.deps ≡ []
      → ((q : Version) → In q e.view.versions → In q d.view.versions ⊎ ((p : Version) × In p d.view.versions × (p.tx ≡ name_of here i) × (q ≡ settled fc p))) → VersionAct here input d e
  va_came : (from : NodeId) (t : TxId) (r : PartId) (fc : Ts) (ms : List KeyMark) → Comes here input from (Commit t r fc ms) → decides here t r d.view ≡ true
      → ((q : Version) → In q e.view.versions → In q d.view.versions ⊎ ((p : Version) × In p d.view.versions × (of_pair t r p ≡ true) × (q ≡ settled fc.0 p))) → VersionAct here input d e

module _ (here : Here) (input : Input) (w : Where) where
  new_pre : (a : Arrived) (ts : ℕ) (vs : List Version) (q : Version) → In q (insert_all (map (pre_version a ts) a.writes) vs) → In q vs ⊎ ((x : Write) × In x a.writes × (q ≡ pre_version a ts x))
  new_pre a ts vs q h = elim (in_insert_all (map (pre_version a ts) a.writes) vs q h) [
    | inl j ↦ (let r = in_map (pre_version a ts) a.writes q j in inr (r.0, r.1, sym r.2))
    | inr j ↦ inl j
  ]

  pub version_act : (d e : Doing) → Act here input w d e → VersionAct here input d e
  unfolding begun marked aborted committed closed certified asked acked requested accepted taken refused waits replied commit_came abort_came
  version_act d e (act_begin place rs d' r h) = va_fewer (λ q k. k)
  version_act d e (act_mark k t d' rd) = va_fewer (λ q k. k)
  version_act d e (act_put i x y d' own g) = va_fewer (λ q k. k)
  version_act d e (act_request i k m x d' own g) = va_fewer (λ q k. k)
  version_act d e (act_certify i lc snap x d' own f n c) = va_locals i lc x (λ q h. elim (in_insert_all (map (local_version here i lc) x.writes) d'.view.versions q h) [
    | inl j ↦ (let r = in_map (local_version here i lc) x.writes q j in inr (r.0, r.1, sym r.2))
    | inr j ↦ inl j
  ])
  version_act d e (act_ask i lc p x d' own f l g) = va_fewer (λ q k. k)
  version_act d e (act_ack i lc from tx p ts parts x d' own c q g) = va_fewer (λ q k. k)
  version_act d e (act_abort i cause x d' own f y) = va_fewer (λ q k. in_without (of_tx (name_of here i)) d'.view.versions q k)
  version_act d e (act_commit i lc fc x d' own l n le f g) =
      va_commit i lc fc x own.0 f l n (λ q h. elim (in_insert_all (map (settled fc) (filter (is_hosted_of here (name_of here i)) d'.view.versions)) (without (of_tx (name_of here i)) d'.view.versions) q h) [
        | inl j ↦ (let r = in_map (settled fc) (filter (is_hosted_of here (name_of here i)) d'.view.versions) q j in
            let m = in_filter (is_hosted_of here (name_of here i)) d'.view.versions r.0 r.1 in inr (r.0, m.0, hosted_name here (name_of here i) r.0 m.1, sym r.2))
        | inr j ↦ inl (in_without (of_tx (name_of here i)) d'.view.versions q j)
      ])
  version_act d e (act_close i x d' own p n) = va_fewer (λ q k. k)
  version_act d e (act_accept a ts d' h m) = va_accept a ts h m (new_pre a ts d'.view.versions)
  version_act d e (act_refuse a u k d' h m) = va_fewer (λ q k. k)
  version_act d e (act_take from a d' c l) = va_take from a (proposed d'.view a) c l (new_pre a (proposed d'.view a) d'.view.versions)
  version_act d e (act_wait r d' h) = va_fewer (λ q k. k)
  version_act d e (act_unwait kept rest r d' h) = va_fewer (λ q k. k)
  version_act d e (act_reply tx k rs v u fc d' h) = va_fewer (λ q k. k)
  version_act d e (act_commit_came from t r fc ms d' c h) = va_came from t r fc ms c h (λ q k. elim (in_insert_all (map (settled fc.0) (filter (of_pair t r) d'.view.versions)) (without (of_pair t r) d'.view.versions) q k) [
    | inl j ↦ (let m = in_map (settled fc.0) (filter (of_pair t r) d'.view.versions) q j in
        let f = in_filter (of_pair t r) d'.view.versions m.0 m.1 in inr (m.0, f.0, f.1, sym m.2))
    | inr j ↦ inl (in_without (of_pair t r) d'.view.versions q j)
  ])
  version_act d e (act_abort_came from t r d' c h) = va_fewer (λ q k. in_without (of_pair t r) d'.view.versions q k)

-- ---- keys that stand once

pub one_write : (ws : List Write) → AreDistinct ws → (v w : Write) → In v ws → In w ws → v.key ≡ w.key → v ≡ w
one_write [] dist v w h k e = absurd h
one_write (x ∷ ws) dist v w h k e = by_places (λ a b i j q. one_write ws (and_true_right (not (list_any (same_key x.key) (map (λ (z : Write). z.key) ws))) (Strange.distinct_keys (map (λ (z : Write). z.key) ws)) dist) a b i j q) h k
  where
    keys : List KeyId
    keys = map (λ (z : Write). z.key) ws

    not_again : (z : Write) → In z ws → x.key ≡ z.key → ⊥
    not_again z i q =
        let a : list_any (same_key x.key) keys ≡ true = any_in (same_key x.key) keys z.key (map_in (λ (u : Write). u.key) ws z i) (eq-eqb x.key.0 z.key.0 (ap (λ (u : KeyId). u.0) q)) in
        let b : not (list_any (same_key x.key) keys) ≡ true = and_true_left (not (list_any (same_key x.key) keys)) (Strange.distinct_keys keys) dist in absurd (cc (ap not a, b))

    by_places : ((a b : Write) → In a ws → In b ws → a.key ≡ b.key → a ≡ b) → In v (x ∷ ws) → In w (x ∷ ws) → v ≡ w
    by_places rec_ (inl a) (inl b) = sym a ∙ b
    by_places rec_ (inl a) (inr j) = absurd (not_again w j (ap (λ (z : Write). z.key) a ∙ e))
    by_places rec_ (inr i) (inl b) = absurd (not_again v i (ap (λ (z : Write). z.key) b ∙ sym e))
    by_places rec_ (inr i) (inr j) = rec_ v w i j e

middle : (a b c d k v : Bool) → (a && (b && (c && (d && (k && v))))) ≡ true → k ≡ true
middle true true true true k v e = and_true_left k v e
middle false b c d k v e = absurd cc
middle true false c d k v e = absurd cc
middle true true false d k v e = absurd cc
middle true true true false k v e = absurd cc

some_distinct : (here : Here) (p : PartId) (ks : List KeyId) → Strange.some_keys_in here p ks ≡ true → Strange.distinct_keys ks ≡ true
some_distinct here p [] e = absurd (cc e)
some_distinct here p (k ∷ ks) e = and_true_left (Strange.distinct_keys (k ∷ ks)) _ e

-- what comes with a Prepare or a Replicate has each key once
pub comes_distinct : (here : Here) (input : Input) (from : NodeId) (a : Arrived) (b : Body) → Comes here input from b
    → Strange.has_named here b ≡ Strange.has_named_writes here a.tx a.part a.rs a.lc a.writes → AreDistinct a.writes
comes_distinct here input from a b c q =
    let named : Strange.has_named here c.0.body ≡ true = and_true_right (Strange.has_node here c.0.sender) (Strange.has_named here c.0.body) (and_true_right (same_node c.0.receiver here.node) (Strange.has_node here c.0.sender && Strange.has_named here c.0.body) c.4) in
    some_distinct here a.part (map (λ (w : Write). w.key) a.writes) (middle (Strange.has_node here a.tx.node) (Strange.has_part here a.part) (Strange.below_limit a.rs) (Strange.below_limit a.lc) (Strange.some_keys_in here a.part (map (λ (w : Write). w.key) a.writes)) (Strange.has_values here a.writes)
    (sym q ∙ (ap (Strange.has_named here) (sym c.3) ∙ named)))
