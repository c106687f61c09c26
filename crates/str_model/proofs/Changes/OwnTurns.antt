-- What a single change does to a node's own transactions, with the versions that go with it.
use Rattle.dependency_set.specs.Snapshots.{Snap}
use Rattle.partition_map.specs.declared.rows.Asked.{Asked}
use Rattle.str_model.proofs.Changes.PairWords.{keep_without}
use Rattle.str_model.proofs.Principle.SingleChanges.{Act, Comes, KeepsAck, Where, act_abort, act_abort_came, act_accept, act_ack, act_ask, act_begin, act_certify, act_close, act_commit, act_commit_came, act_mark, act_put, act_refuse, act_reply, act_request, act_take, act_unwait, act_wait}
use Rattle.str_model.proofs.Changes.SnapshotsGain.{CertGood, cert_turn-good}
use Rattle.str_model.proofs.Changes.OwnGoesOn.{PutsOn, puts_on}
use Rattle.std.proofs.Common.{Bool, List, None, Some, [], ap, arith, eq-eqb, eqb-true, false, filter, inl, inr, map, not, refl, slice_set, subst, sym, true, ℕ, ◌&&◌, ◌++◌, ◌+◌, ◌==◌, ◌∙◌, ◌∷◌, ◌≡◌, ◌⊎◌}
use Rattle.str_base.specs.Versions.{insert_all, of_pair, of_tx, same_node, same_part, same_tx, settled, without}
use Rattle.str_base.specs.declared.names.Cause.{Cause}
use Rattle.str_base.specs.declared.names.NodeId.{NodeId}
use Rattle.str_base.specs.declared.names.PartId.{PartId}
use Rattle.str_base.specs.declared.names.Ts.{Ts}
use Rattle.str_base.specs.declared.names.TxId.{TxId}
use Rattle.str_base.specs.declared.names.Version.{Version}
use Rattle.str_model.specs.Acts.{abort_came, aborted, accepted, acked, asked, begun, certified, closed, commit_came, committed, decided_as, decided_versions, fresh, in_phase, is_hosted_of, local_version, marked, pre_version, refused, replied, requested, taken, waits, with_asked}
use Rattle.str_model.specs.Gates.{CommitAt, gate_of}
use Rattle.str_model.specs.Owned.{Owns}
use Rattle.str_model.specs.Proposals.{is_done, proposed}
use Rattle.str_model.specs.Steps.{decides}
use Rattle.str_model.specs.Turns.{Certified}
use Rattle.str_model.specs.Views.{Aborted, Closing, Committed, Doing, Global, Local, Own, Remote, View, is_decided, lc_of, name_of}
use Rattle.str_model.specs.declared.messages.Body.TheVariants.{Ack}
use Rattle.str_model.specs.declared.messages.Input.{Input}
use Rattle.str_scene.specs.Scenes.{Here, hosts, participants}
use Rattle.str_scene.specs.declared.names.TxPlace.{TxPlace}
use Rattle.std.proofs.lemmas.Bool.{false_from_ne_true}
use Rattle.str_base.proofs.Tests.{and_true_left, and_true_right}
use Rattle.str_base.proofs.Lists.{get_set}
use Rattle.str_base.proofs.Members.{in_all_old}
use Rattle.str_base.specs.Members.{In}

-- the own transactions before and after a change
pub data OwnChange (here : Here) (input : Input) (d e : View) : Type 0 where
  o_rests : e.own ≡ d.own → OwnChange here input d e
  o_begins : (place : TxPlace) (rs : ℕ) → e.own ≡ d.own ++ fresh place rs ∷ [] → OwnChange here input d e
  o_puts : (i : ℕ) (x y : Own) → Owns d i x → PutsOn d x y → e.own ≡ slice_set d.own i y → OwnChange here input d e
  o_certifies : (i lc : ℕ) (snap : Snap) (x : Own) → Owns d i x → is_decided x.phase ≡ false → lc_of x.phase ≡ None → snap.rs ≡ x.snap.rs
      → e.own ≡ slice_set d.own i (record x { snap = snap; parts = participants here.scene here.node x.writes; phase = Local lc })
      → e.versions ≡ insert_all (map (local_version here i lc) x.writes) d.versions → OwnChange here input d e
  o_asks : (i lc : ℕ) (p : PartId) (x : Own) → Owns d i x → is_decided x.phase ≡ false → lc_of x.phase ≡ Some lc
      → e.own ≡ slice_set d.own i (record x { parts = with_asked p x.parts; phase = Global lc }) → OwnChange here input d e
  o_acks : (i lc : ℕ) (from : NodeId) (tx : TxId) (p : PartId) (ts : Ts) (parts : List Asked) (x : Own) → Owns d i x → Comes here input from (Ack tx p ts) → x.phase ≡ Global lc
      → KeepsAck here i x from tx p ts parts → e.own ≡ slice_set d.own i (record x { parts = parts }) → OwnChange here input d e
  o_aborts : (i : ℕ) (cause : Cause) (x : Own) → Owns d i x → is_decided x.phase ≡ false → e.own ≡ slice_set d.own i (decided_as (Aborted (lc_of x.phase) cause) x)
      → OwnChange here input d e
  o_commits : (i lc fc : ℕ) (x : Own) → Owns d i x → is_decided x.phase ≡ false → lc_of x.phase ≡ Some lc → gate_of here d lc x ≡ CommitAt fc
      → e.own ≡ slice_set d.own i (decided_as (Committed (Some lc) (Some fc)) x) → e.versions ≡ decided_versions here (name_of here i) fc d.versions → OwnChange here input d e
  o_closes : (i : ℕ) (x : Own) → Owns d i x → x.phase ≡ Closing false → e.own ≡ slice_set d.own i (decided_as (Committed None None) x) → OwnChange here input d e

-- the i-th own transaction is decided by the change
pub record DecidesOne (d e : View) (i : ℕ) : Type 0 where
  pub old : Own
  pub was : Owns d i old
  pub open_ : is_decided old.phase ≡ false
  pub new : Own
  pub is : Owns e i new
  pub decided : is_decided new.phase ≡ true

not_foreign : (here : Here) (tx : TxId) (p : PartId) (v : View) (t : TxId) → decides here tx p v ≡ true → same_tx t tx ≡ true → t.node.0 ≡ here.node.0 → ⊥
not_foreign here tx p v t c e n =
    let f : not (same_node tx.node here.node) ≡ true = and_true_left (not (same_node tx.node here.node)) (not (is_done v tx p)) (and_true_right (hosts here.scene here.node p) (not (same_node tx.node here.node) && not (is_done v tx p)) c) in
    let s : t.node.0 ≡ tx.node.0 = eqb-true t.node.0 tx.node.0 (and_true_left (same_node t.node tx.node) (t.seq == tx.seq) e) in
    let g : same_node tx.node here.node ≡ true = eq-eqb tx.node.0 here.node.0 (sym s ∙ n) in
    absurd (cc (ap not g, f))

module _ (here : Here) (input : Input) (w : Where) where
  pub own_change : (d e : Doing) → Act here input w d e → OwnChange here input d.view e.view
  unfolding begun marked aborted committed closed certified asked acked requested accepted taken refused waits replied commit_came abort_came
  own_change d e (act_begin place rs d' r h) = o_begins place rs refl
  own_change d e (act_mark k t d' rd) = o_rests refl
  own_change d e (act_put i x y d' own g) = o_puts i x y own.0 (puts_on here input d' i x y g) refl
  own_change d e (act_request i k m x d' own g) = o_puts i x (in_phase (Remote k) x) own.0 (puts_on here input d' i x (in_phase (Remote k) x) (record { goes = g.goes; change = g.change })) refl
  own_change d e (act_certify i lc snap x d' own f n c) =
      let good : CertGood d'.view x.snap (Certified lc snap) = subst (CertGood d'.view x.snap) c (cert_turn-good here d'.view x.snap x.writes) in
      o_certifies i lc snap x own.0 f n good.0.rs refl refl
  own_change d e (act_ask i lc p x d' own f l g) = o_asks i lc p x own.0 f l refl
  own_change d e (act_ack i lc from tx p ts parts x d' own c q g) = o_acks i lc from tx p ts parts x own.0 c q g refl
  own_change d e (act_abort i cause x d' own f y) = o_aborts i cause x own.0 f refl
  own_change d e (act_commit i lc fc x d' own l n le f g) = o_commits i lc fc x own.0 f l g refl refl
  own_change d e (act_close i x d' own p n) = o_closes i x own.0 p refl
  own_change d e (act_accept a ts d' h m) = o_rests refl
  own_change d e (act_refuse a u k d' h m) = o_rests refl
  own_change d e (act_take from a d' c l) = o_rests refl
  own_change d e (act_wait r d' h) = o_rests refl
  own_change d e (act_unwait kept rest r d' h) = o_rests refl
  own_change d e (act_reply tx k rs v u fc d' h) = o_rests refl
  own_change d e (act_commit_came from tx p fc ms d' c h) = o_rests refl
  own_change d e (act_abort_came from tx p d' c h) = o_rests refl

  -- a version of an own transaction stays until the transaction is decided
  module _ (i : ℕ) (v : Version) (mine : v.tx ≡ name_of here i) where
    without_other : (j : ℕ) (vs : List Version) → In v vs → In v (without (of_tx (name_of here j)) vs) ⊎ (j ≡ i)
    without_other j vs h = by_test (of_tx (name_of here j) v) refl
      where
        by_test : (b : Bool) → of_tx (name_of here j) v ≡ b → In v (without (of_tx (name_of here j)) vs) ⊎ (j ≡ i)
        by_test true q =
            let s : v.tx.seq ≡ j + 1 = eqb-true v.tx.seq (j + 1) (and_true_right (same_node v.tx.node here.node) (v.tx.seq == j + 1) q) in
            inr (omega (arith, s, ap (λ (t : TxId). t.seq) mine))
        by_test false q = inl (keep_without (of_tx (name_of here j)) vs v h q)

    pair_other : (t : TxId) (p : PartId) (d : Doing) → decides here t p d.view ≡ true → In v d.view.versions → In v (without (of_pair t p) d.view.versions)
    pair_other t p d c h =
        keep_without (of_pair t p) d.view.versions v h (false_from_ne_true (of_pair t p v) (λ q. not_foreign here t p d.view v.tx c (and_true_left (same_tx v.tx t) (same_part v.part p) q) (ap (λ (z : TxId). z.node.0) mine)))

    pub own_stays : (d e : Doing) → Act here input w d e → In v d.view.versions → In v e.view.versions ⊎ DecidesOne d.view e.view i
    unfolding begun marked aborted committed closed certified asked acked requested accepted taken refused waits replied commit_came abort_came
    own_stays d e (act_begin place rs d' r h) k = inl k
    own_stays d e (act_mark g t d' rd) k = inl k
    own_stays d e (act_put j x y d' own g) k = inl k
    own_stays d e (act_request j g m x d' own h) k = inl k
    own_stays d e (act_certify j lc snap x d' own f n c) k = inl (in_all_old (map (local_version here j lc) x.writes) d.view.versions v k)
    own_stays d e (act_ask j lc q x d' own f l g) k = inl k
    own_stays d e (act_ack j lc from t q ts parts x d' own c r g) k = inl k
    own_stays d e (act_abort j cause x d' own f y) k = elim (without_other j d'.view.versions k) [
      | inl h ↦ inl h
      | inr q ↦ inr (subst (DecidesOne d'.view e.view) q (record { old = x; was = own.0; open_ = f; new = decided_as (Aborted (lc_of x.phase) cause) x; is = get_set d'.view.own j x _ own.0; decided = refl }))
    ]
    own_stays d e (act_commit j lc fc x d' own l n le f g) k = elim (without_other j d'.view.versions k) [
      | inl h ↦ inl (in_all_old (map (settled fc) (filter (is_hosted_of here (name_of here j)) d'.view.versions)) (without (of_tx (name_of here j)) d'.view.versions) v h)
      | inr q ↦ inr (subst (DecidesOne d'.view e.view) q (record { old = x; was = own.0; open_ = f; new = decided_as (Committed (Some lc) (Some fc)) x; is = get_set d'.view.own j x _ own.0; decided = refl }))
    ]
    own_stays d e (act_close j x d' own q n) k = inl k
    own_stays d e (act_accept a ts d' h m) k = inl (in_all_old (map (pre_version a ts) a.writes) d'.view.versions v k)
    own_stays d e (act_refuse a u g d' h m) k = inl k
    own_stays d e (act_take from a d' c l) k = inl (in_all_old (map (pre_version a (proposed d'.view a)) a.writes) d'.view.versions v k)
    own_stays d e (act_wait r d' h) k = inl k
    own_stays d e (act_unwait kept rest r d' h) k = inl k
    own_stays d e (act_reply t g rs q u fc d' h) k = inl k
    own_stays d e (act_commit_came from t q fc ms d' c h) k =
        inl (in_all_old (map (settled fc.0) (filter (of_pair t q) d'.view.versions)) (without (of_pair t q) d'.view.versions) v (pair_other t q d' h k))
    own_stays d e (act_abort_came from t q d' c h) k = inl (pair_other t q d' h k)
