-- Who waits at a node, at each change: a parked Prepare is parked once, and no version of its pair comes beside it.
use Rattle.std.proofs.Common.{Bool, [], ap, arith, eq-eqb, false, filter, inl, inr, map, refl, subst, subst₂, suc, sym, true, zero, ℕ, ◌&&◌, ◌∙◌, ◌∷◌, ◌≡◌, ◌≢◌, ◌≤◌, ◌⊎◌}
use Rattle.str_base.specs.declared.names.PartId.{PartId}
use Rattle.str_base.specs.declared.names.TxId.{TxId}
use Rattle.str_base.specs.declared.names.Version.{Version}
use Rattle.str_model.specs.declared.messages.Arrived.{Arrived}
use Rattle.str_model.specs.declared.messages.Body.TheVariants.{Prepare, ReadReq}
use Rattle.str_model.specs.declared.messages.Input.{Input}
use Rattle.str_model.specs.declared.messages.Waiter.{Waiter}
use Rattle.str_model.specs.declared.messages.Waiter.TheVariants.{Held, Read}
use Rattle.str_base.specs.Versions.{of_pair, of_tx, same_part, same_tx, settled, without}
use Rattle.str_model.specs.Acts.{abort_came, aborted, accepted, acked, asked, begun, certified, closed, commit_came, committed, is_hosted_of, local_version, marked, pre_version, refused, replied, requested, taken, waits}
use Rattle.str_model.specs.NodeFacts.{IsMasters, WaiterFacts}
use Rattle.str_scene.specs.Scenes.{Here}
use Rattle.str_model.specs.Proposals.{holds_pair, proposed}
use Rattle.str_model.specs.Strange.{below_limit, has_key, has_named, has_node}
use Rattle.str_model.specs.Views.{Doing, View, name_of}
use Rattle.str_model.proofs.Principle.SingleChanges.{Act, Arrives, IsHere, Takes, Where, a_prepare, a_read, act_abort, act_abort_came, act_accept, act_ack, act_ask, act_begin, act_certify, act_close, act_commit, act_commit_came, act_mark, act_put, act_refuse, act_reply, act_request, act_take, act_unwait, act_wait, left_waiting}
use Rattle.str_model.proofs.ListCounts.{many_has, many_some}
use Rattle.str_model.proofs.Changes.PairWords.{Has, pair_same, same_pair}
use Rattle.str_model.proofs.Changes.PairChanges.{AtMaster, left_none, one_pair, park_step, parked, taken_none, unknown_not}
use Rattle.str_model.proofs.Changes.VersionChanges.{WaitStep, w_fewer, w_more, wait_step}
use Rattle.str_model.proofs.ViewFacts.ValidMessages.{came_named, valid_named}
use Rattle.str_base.proofs.Tests.{and_true_left, and_true_right}
use Rattle.str_base.proofs.Members.{in_append, in_filter, in_insert_all, in_map, in_without}
use Rattle.str_base.specs.Members.{In}

-- all who wait
abbrev pub AllWaiting : Here → View → Type 0
AllWaiting here v = (r : Waiter) → In r v.waiters → WaiterFacts here v r

pub at_master : (here : Here) (v : View) → AllWaiting here v → AtMaster here v
at_master here v h a k = (h (Held a) k).masters

-- no pair waits twice
pub few_parked : (here : Here) (v : View) → AllWaiting here v → (tx : TxId) (p : PartId) → parked tx p v ≤ 1
few_parked here v h tx p = by_number (parked tx p v) refl
  where
    by_member : (r : Waiter) → In r v.waiters → holds_pair tx p r ≡ true → parked tx p v ≤ 1
    by_member (Read t k rs) i e = absurd (cc e)
    by_member (Held a) i e = let s = one_pair a.tx tx a.part p e in subst₂ (λ t q. parked t q v ≤ 1) s.0 s.1 (h (Held a) i).once

    by_number : (n : ℕ) → parked tx p v ≡ n → parked tx p v ≤ 1
    by_number zero q = omega (arith, q)
    by_number (suc n) q = let m = many_some (holds_pair tx p) v.waiters (omega (arith, q)) in by_member m.0 m.1 m.2

-- ---- versions of a pair

-- how a pair of another node comes to have a version
data Lands (here : Here) (input : Input) (d : Doing) (e : View) (tx : TxId) (p : PartId) : Type 0 where
  l_here : (a : Arrived) (h : IsHere here input d a) → (same_tx a.tx tx && same_part a.part p) ≡ true → e.waiters ≡ left_waiting h → Lands here input d e tx p
  l_takes : (a : Arrived) → Takes here d a → (same_tx a.tx tx && same_part a.part p) ≡ true → e.waiters ≡ d.view.waiters → Lands here input d e tx p

module _ (here : Here) (input : Input) (w : Where) (tx : TxId) (p : PartId) (other : tx.node.0 ≢ here.node.0) where
  own_not : (i : ℕ) (v : Version) → v.tx ≡ name_of here i → of_pair tx p v ≡ true → ⊥
  own_not i v q e = other (sym (pair_same v.tx tx v.part p e).node ∙ ap (λ (t : TxId). t.node.0) q)

  stands_back : (d e : Doing) → Act here input w d e → Has (of_pair tx p) e.view.versions → Has (of_pair tx p) d.view.versions ⊎ Lands here input d e.view tx p
  unfolding begun marked aborted committed closed certified asked acked requested accepted taken refused waits replied commit_came abort_came
  stands_back d e (act_begin place rs d' r h) k = inl k
  stands_back d e (act_mark g t d' rd) k = inl k
  stands_back d e (act_put i x y d' own g) k = inl k
  stands_back d e (act_request i g m x d' own h) k = inl k
  stands_back d e (act_certify i lc snap x d' own f n c) k = elim (in_insert_all (map (local_version here i lc) x.writes) d'.view.versions k.0 k.1) [
    | inl j ↦ (let r = in_map (local_version here i lc) x.writes k.0 j in absurd (own_not i k.0 (ap (λ (v : Version). v.tx) (sym r.2)) k.2))
    | inr j ↦ inl (k.0, j, k.2)
  ]
  stands_back d e (act_ask i lc q x d' own f l g) k = inl k
  stands_back d e (act_ack i lc from t q ts parts x d' own c r g) k = inl k
  stands_back d e (act_abort i cause x d' own f y) k = inl (k.0, in_without (of_tx (name_of here i)) d'.view.versions k.0 k.1, k.2)
  stands_back d e (act_commit i lc fc x d' own l n le f g) k =
      elim (in_insert_all (map (settled fc) (filter (is_hosted_of here (name_of here i)) d'.view.versions)) (without (of_tx (name_of here i)) d'.view.versions) k.0 k.1) [
        | inl j ↦ (let r = in_map (settled fc) (filter (is_hosted_of here (name_of here i)) d'.view.versions) k.0 j in
            let g = in_filter (is_hosted_of here (name_of here i)) d'.view.versions r.0 r.1 in inl (r.0, g.0, ap (of_pair tx p) r.2 ∙ k.2))
        | inr j ↦ inl (k.0, in_without (of_tx (name_of here i)) d'.view.versions k.0 j, k.2)
      ]
  stands_back d e (act_close i x d' own q n) k = inl k
  stands_back d e (act_accept a ts d' h m) k = elim (in_insert_all (map (pre_version a ts) a.writes) d'.view.versions k.0 k.1) [
    | inl j ↦ (let r = in_map (pre_version a ts) a.writes k.0 j in inr (l_here a h (ap (of_pair tx p) r.2 ∙ k.2) refl))
    | inr j ↦ inl (k.0, j, k.2)
  ]
  stands_back d e (act_refuse a u g d' h m) k = inl k
  stands_back d e (act_take from a d' c l) k = elim (in_insert_all (map (pre_version a (proposed d'.view a)) a.writes) d'.view.versions k.0 k.1) [
    | inl j ↦ (let r = in_map (pre_version a (proposed d'.view a)) a.writes k.0 j in inr (l_takes a l (ap (of_pair tx p) r.2 ∙ k.2) refl))
    | inr j ↦ inl (k.0, j, k.2)
  ]
  stands_back d e (act_wait r d' h) k = inl k
  stands_back d e (act_unwait kept rest r d' h) k = inl k
  stands_back d e (act_reply t g rs v u fc d' h) k = inl k
  stands_back d e (act_commit_came from t q fc ms d' c h) k =
      elim (in_insert_all (map (settled fc.0) (filter (of_pair t q) d'.view.versions)) (without (of_pair t q) d'.view.versions) k.0 k.1) [
        | inl j ↦ (let r = in_map (settled fc.0) (filter (of_pair t q) d'.view.versions) k.0 j in
            let g = in_filter (of_pair t q) d'.view.versions r.0 r.1 in inl (r.0, g.0, ap (of_pair tx p) r.2 ∙ k.2))
        | inr j ↦ inl (k.0, in_without (of_pair t q) d'.view.versions k.0 j, k.2)
      ]
  stands_back d e (act_abort_came from t q d' c h) k = inl (k.0, in_without (of_pair t q) d'.view.versions k.0 k.1, k.2)

-- ---- each change

module _ (here : Here) (input : Input) (w : Where) (d e : Doing) (act : Act here input w d e) (h : AllWaiting here d.view) where
  few_after : (tx : TxId) (p : PartId) → parked tx p e.view ≤ 1
  few_after tx p = let f = few_parked here d.view h tx p in elim (park_step here input w tx p d e act) [ inl le ↦ omega (arith, le, f) | inr r ↦ r.2 ]

  far : (a : Arrived) → IsMasters here a → a.tx.node.0 ≢ here.node.0
  far a m q = cc (eq-eqb a.tx.node.0 here.node.0 q, m.foreign)

  self_pair_ : (a : Arrived) → holds_pair a.tx a.part (Held a) ≡ true
  self_pair_ a = same_pair a.tx a.tx a.part a.part (record { node = refl; seq = refl; part = refl })

  -- what lands is not parked
  not_landing : (a : Arrived) → IsMasters here a → In (Held a) e.view.waiters → Lands here input d e.view a.tx a.part → ⊥
  not_landing a ms k (l_here b g s r) =
      let z = left_none here input w a.tx a.part (far a ms) d b s (few_parked here d.view h a.tx a.part) g in
      let m = many_has (holds_pair a.tx a.part) (left_waiting g) (Held a) (subst (In (Held a)) r k) (self_pair_ a) in omega (arith, z, m)
  not_landing a ms k (l_takes b t s r) =
      let z = taken_none here input w a.tx a.part (far a ms) d b s t (at_master here d.view h) in
      let m = many_has (holds_pair a.tx a.part) d.view.waiters (Held a) (subst (In (Held a)) r k) (self_pair_ a) in omega (arith, z, m)

  none_after : (a : Arrived) → IsMasters here a → (Has (of_pair a.tx a.part) d.view.versions → ⊥) → In (Held a) e.view.waiters → (u : Version) → In u e.view.versions → of_pair a.tx a.part u ≡ false
  none_after a m f k u j = by_test (of_pair a.tx a.part u) refl
    where
      by_test : (b : Bool) → of_pair a.tx a.part u ≡ b → of_pair a.tx a.part u ≡ false
      by_test false q = q
      by_test true q = absurd (elim (stands_back here input w a.tx a.part (far a m) d e act (u, j, q)) [ inl g ↦ f g | inr l ↦ not_landing a m k l ])

  -- one who was waiting
  old_waiter : (r : Waiter) → In r d.view.waiters → In r e.view.waiters → WaiterFacts here e.view r
  old_waiter (Read tx k rs) i j = h (Read tx k rs) i
  old_waiter (Held a) i j =
      let o = h (Held a) i in
      record { masters = o.masters; named = o.named; once = few_after a.tx a.part; none = none_after a o.masters (λ g. cc (g.2, o.none g.0 g.1)) j }

  -- one who has come
  new_waiter : (r : Waiter) → Arrives here input d r → In r e.view.waiters → WaiterFacts here e.view r
  new_waiter r (a_read from tx k rs c) j =
      let n : has_named here (ReadReq tx k rs) ≡ true = subst (λ b. has_named here b ≡ true) c.3 (valid_named here c.0 c.4) in
      let q = and_true_right (has_node here tx.node) (has_key here k && below_limit rs) n in
      record { node = and_true_left (has_node here tx.node) (has_key here k && below_limit rs) n; key = and_true_left (has_key here k) (below_limit rs) q; hosted = c.6; below = and_true_right (has_key here k) (below_limit rs) q }
  new_waiter r (a_prepare from a c u z m) j =
      record {
        masters = m;
        named = came_named here input from (Prepare a.tx a.part a.rs a.lc a.writes) c;
        once = few_after a.tx a.part;
        none = none_after a m (λ g. unknown_not a.tx a.part d.view u (inr g)) j;
      }

  pub waiters-act : AllWaiting here e.view
  waiters-act r j = by_step (wait_step here input w d e act)
    where
      by_step : WaitStep here input d e → WaiterFacts here e.view r
      by_step (w_fewer f) = old_waiter r (f r j) j
      by_step (w_more q c s) = elim (in_append d.view.waiters (q ∷ []) r (subst (In r) s j)) [
        | inl k ↦ old_waiter r k j
        | inr k ↦ (elim k [ inl z ↦ new_waiter r (subst (Arrives here input d) z c) j | inr z ↦ absurd z ])
      ]
