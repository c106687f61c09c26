-- What a single change does to the versions of a pair of another node's transaction.
use Rattle.str_model.proofs.Changes.PairChanges.{Is, one_pair}
use Rattle.str_model.proofs.Changes.PairWords.{Has, joined_pair, keep_without, pair_same}
use Rattle.str_model.proofs.Principle.SingleChanges.{Act, Comes, IsHere, Where, act_abort, act_abort_came, act_accept, act_ack, act_ask, act_begin, act_certify, act_close, act_commit, act_commit_came, act_mark, act_put, act_refuse, act_reply, act_request, act_take, act_unwait, act_wait, left_waiting}
use Rattle.std.proofs.Common.{Bool, List, [], ap, eqb-true, false, filter, inl, inr, map, not, refl, subst₂, sym, true, ℕ, ◌&&◌, ◌++◌, ◌+◌, ◌==◌, ◌∙◌, ◌∷◌, ◌≡◌, ◌≢◌}
use Rattle.str_base.specs.Versions.{of_pair, of_tx, same_node, same_part, same_tx, settled, without}
use Rattle.str_base.specs.declared.names.NodeId.{NodeId}
use Rattle.str_base.specs.declared.names.PartId.{PartId}
use Rattle.str_base.specs.declared.names.Ts.{Ts}
use Rattle.str_base.specs.declared.names.TxId.{TxId}
use Rattle.str_base.specs.declared.names.Version.{Version}
use Rattle.str_model.specs.Acts.{abort_came, aborted, accepted, acked, asked, begun, certified, closed, commit_came, committed, is_hosted_of, local_version, marked, pre_version, refused, replied, requested, taken, waits, with_waiters}
use Rattle.str_model.specs.Proposals.{is_done, is_pair, proposed}
use Rattle.str_model.specs.Steps.{decides, drop_held}
use Rattle.str_model.specs.Views.{Doing, View, name_of}
use Rattle.str_model.specs.declared.messages.Arrived.{Arrived}
use Rattle.str_model.specs.declared.messages.Body.TheVariants.{Abort, Commit}
use Rattle.str_model.specs.declared.messages.Input.{Input}
use Rattle.str_model.specs.declared.names.KeyMark.{KeyMark}
use Rattle.str_scene.specs.Scenes.{Here, hosts}
use Rattle.std.proofs.lemmas.Bool.{false_from_ne_true}
use Rattle.str_base.proofs.Members.{any_in, filter_in, in_all_new, in_all_old, in_append, in_right, map_in}
use Rattle.str_base.proofs.Tests.{and_true_left, and_true_right}
use Rattle.str_base.specs.Members.{In}

module _ (here : Here) (input : Input) (w : Where) (tx : TxId) (p : PartId) where
  abbrev pub IsDone : View → Type 0
  IsDone v = Has (is_pair tx p) v.done

  -- the pair's versions stay, or its decision comes
  pub data PairStep (d e : Doing) : Type 0 where
    ps_rests : (IsDone e.view → IsDone d.view) → ((v : Version) → of_pair tx p v ≡ true → In v d.view.versions → In v e.view.versions) → PairStep d e
    ps_refused : (a : Arrived) → IsHere here input d a → Is here input w tx p a.tx a.part → e.view.versions ≡ d.view.versions → PairStep d e
    ps_commits : (from : NodeId) (t : TxId) (q : PartId) (fc : Ts) (ms : List KeyMark) → Comes here input from (Commit t q fc ms) → Is here input w tx p t q → (IsDone d.view → ⊥) → IsDone e.view
        → ((v : Version) → of_pair tx p v ≡ true → In v d.view.versions → In (settled fc.0 v) e.view.versions) → PairStep d e
    ps_aborts : (from : NodeId) (t : TxId) (q : PartId) → Comes here input from (Abort t q) → Is here input w tx p t q → (IsDone d.view → ⊥) → IsDone e.view → PairStep d e

  none_more : (xs : List (TxId × PartId)) (t : TxId) (q : PartId) → (same_tx t tx && same_part q p) ≡ false → Has (is_pair tx p) (xs ++ (t, q) ∷ []) → Has (is_pair tx p) xs
  none_more xs t q f h = elim (in_append xs ((t, q) ∷ []) h.0 h.1) [
    | inl k ↦ (h.0, k, h.2)
    | inr k ↦ (elim k [ inl e ↦ absurd (cc (ap (is_pair tx p) e, h.2, f)) | inr z ↦ absurd z ])
  ]

  is_last : (xs : List (TxId × PartId)) (t : TxId) (q : PartId) → (same_tx t tx && same_part q p) ≡ true → Has (is_pair tx p) (xs ++ (t, q) ∷ [])
  is_last xs t q e = ((t, q), in_right xs ((t, q) ∷ []) (t, q) (inl refl), e)

  -- a decision is for a pair that is not done
  not_done : (d : Doing) (t : TxId) (q : PartId) → Is here input w tx p t q → decides here t q d.view ≡ true → IsDone d.view → ⊥
  not_done d t q s c k =
      let o = one_pair t tx q p s in
      let n : not (is_done d.view t q) ≡ true = and_true_right (not (same_node t.node here.node)) (not (is_done d.view t q)) (and_true_right (hosts here.scene here.node q) (not (same_node t.node here.node) && not (is_done d.view t q)) c) in
      let y : is_done d.view tx p ≡ true = any_in (is_pair tx p) d.view.done k.0 k.1 k.2 in
      let z : is_done d.view t q ≡ true = subst₂ (λ a b. is_done d.view a b ≡ true) (sym o.0) (sym o.1) y in
      absurd (cc (ap not z, n))

  -- a version of the pair is not one of another pair
  of_other : (t : TxId) (q : PartId) (v : Version) → (same_tx t tx && same_part q p) ≡ false → of_pair tx p v ≡ true → of_pair t q v ≡ false
  of_other t q v f e = false_from_ne_true (of_pair t q v) (λ g. absurd (cc (joined_pair v.tx tx t v.part p q e g, f)))

  of_same : (t : TxId) (q : PartId) (v : Version) → (same_tx t tx && same_part q p) ≡ true → of_pair tx p v ≡ true → of_pair t q v ≡ true
  of_same t q v s e = let o = one_pair t tx q p s in subst₂ (λ a b. of_pair a b v ≡ true) (sym o.0) (sym o.1) e

  module _ (other : tx.node.0 ≢ here.node.0) where
    foreign_ : (i : ℕ) (v : Version) → of_pair tx p v ≡ true → of_tx (name_of here i) v ≡ false
    foreign_ i v e = false_from_ne_true (of_tx (name_of here i) v) (λ q.
        other (sym (pair_same v.tx tx v.part p e).node ∙ eqb-true v.tx.node.0 here.node.0 (and_true_left (same_node v.tx.node here.node) (v.tx.seq == i + 1) q)))

    pub pair_step : (d e : Doing) → Act here input w d e → PairStep d e
    unfolding begun marked aborted committed closed certified asked acked requested accepted taken refused waits replied commit_came abort_came
    pair_step d e (act_begin place rs d' r h) = ps_rests (λ k. k) (λ v q k. k)
    pair_step d e (act_mark g t d' rd) = ps_rests (λ k. k) (λ v q k. k)
    pair_step d e (act_put i x y d' own g) = ps_rests (λ k. k) (λ v q k. k)
    pair_step d e (act_request i g m x d' own h) = ps_rests (λ k. k) (λ v q k. k)
    pair_step d e (act_certify i lc snap x d' own f n c) = ps_rests (λ k. k) (λ v q k. in_all_old (map (local_version here i lc) x.writes) d'.view.versions v k)
    pair_step d e (act_ask i lc q x d' own f l g) = ps_rests (λ k. k) (λ v q k. k)
    pair_step d e (act_ack i lc from t q ts parts x d' own c r g) = ps_rests (λ k. k) (λ v q k. k)
    pair_step d e (act_abort i cause x d' own f y) = ps_rests (λ k. k) (λ v q k. keep_without (of_tx (name_of here i)) d'.view.versions v k (foreign_ i v q))
    pair_step d e (act_commit i lc fc x d' own l n le f g) =
        ps_rests (λ k. k) (λ v q k. in_all_old (map (settled fc) (filter (is_hosted_of here (name_of here i)) d'.view.versions)) (without (of_tx (name_of here i)) d'.view.versions) v
        (keep_without (of_tx (name_of here i)) d'.view.versions v k (foreign_ i v q)))
    pair_step d e (act_close i x d' own q n) = ps_rests (λ k. k) (λ v q k. k)
    pair_step d e (act_accept a ts d' h m) = ps_rests (λ k. k) (λ v q k. in_all_old (map (pre_version a ts) a.writes) d'.view.versions v k)
    pair_step d e (act_refuse a u g d' h m) = by_test (same_tx a.tx tx && same_part a.part p) refl
      where
        by_test : (b : Bool) → (same_tx a.tx tx && same_part a.part p) ≡ b → PairStep d' (refused here a u g (with_waiters (left_waiting h) d'))
        by_test true s = ps_refused a h s refl
        by_test false s = ps_rests (none_more d'.view.done a.tx a.part s) (λ v q k. k)
    pair_step d e (act_take from a d' c l) = ps_rests (λ k. k) (λ v q k. in_all_old (map (pre_version a (proposed d'.view a)) a.writes) d'.view.versions v k)
    pair_step d e (act_wait r d' h) = ps_rests (λ k. k) (λ v q k. k)
    pair_step d e (act_unwait kept rest r d' h) = ps_rests (λ k. k) (λ v q k. k)
    pair_step d e (act_reply t g rs v u fc d' h) = ps_rests (λ k. k) (λ v q k. k)
    pair_step d e (act_commit_came from t q fc ms d' c h) = by_test (same_tx t tx && same_part q p) refl
      where
        by_test : (b : Bool) → (same_tx t tx && same_part q p) ≡ b → PairStep d' (commit_came t q fc.0 ms d')
        by_test true s = ps_commits from t q fc ms c s (not_done d' t q s h) (is_last d'.view.done t q s)
            (λ v o k. in_all_new (map (settled fc.0) (filter (of_pair t q) d'.view.versions)) (without (of_pair t q) d'.view.versions) (settled fc.0 v)
            (map_in (settled fc.0) (filter (of_pair t q) d'.view.versions) v (filter_in (of_pair t q) d'.view.versions v k (of_same t q v s o))))
        by_test false s = ps_rests (none_more d'.view.done t q s)
            (λ v o k. in_all_old (map (settled fc.0) (filter (of_pair t q) d'.view.versions)) (without (of_pair t q) d'.view.versions) v (keep_without (of_pair t q) d'.view.versions v k (of_other t q v s o)))
    pair_step d e (act_abort_came from t q d' c h) = by_test (same_tx t tx && same_part q p) refl
      where
        by_test : (b : Bool) → (same_tx t tx && same_part q p) ≡ b → PairStep d' (abort_came t q (drop_held t q d'.view.waiters) d')
        by_test true s = ps_aborts from t q c s (not_done d' t q s h) (is_last d'.view.done t q s)
        by_test false s = ps_rests (none_more d'.view.done t q s) (λ v o k. keep_without (of_pair t q) d'.view.versions v k (of_other t q v s o))
