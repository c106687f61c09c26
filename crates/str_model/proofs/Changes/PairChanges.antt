-- What a single change does to a pair of another node's transaction and a partition: how it becomes known or done, and that a
-- parked one is not known.
use Rattle.str_model.proofs.ListCounts.{how_many, many_append, many_dropped, many_dropped_own, many_has, many_left, many_none, many_some, one_if}
use Rattle.str_model.proofs.Changes.PairWords.{Has, pair_same}
use Rattle.str_model.proofs.Principle.SingleChanges.{Act, Arrives, Comes, IsHere, IsMasters, Takes, Where, a_prepare, a_read, act_abort, act_abort_came, act_accept, act_ack, act_ask, act_begin, act_certify, act_close, act_commit, act_commit_came, act_mark, act_put, act_refuse, act_reply, act_request, act_take, act_unwait, act_wait, it_comes, it_waits, left_waiting}
use Rattle.std.proofs.Common.{Bool, List, [], ap, arith, false, filter, inl, inr, map, refl, subst, subst₂, suc, sym, true, zero, ℕ, ◌&&◌, ◌++◌, ◌+◌, ◌∙◌, ◌∷◌, ◌≡◌, ◌≢◌, ◌≤◌, ◌⊎◌}
use Rattle.std.specs.List.{list_any}
use Rattle.str_base.specs.Versions.{finalise, of_pair, of_tx, same_part, same_tx, settled, without}
use Rattle.str_base.specs.declared.names.NodeId.{NodeId}
use Rattle.str_base.specs.declared.names.PartId.{PartId}
use Rattle.str_base.specs.declared.names.Ts.{Ts}
use Rattle.str_base.specs.declared.names.TxId.{TxId}
use Rattle.str_base.specs.declared.names.Version.{Version}
use Rattle.str_model.specs.Acts.{abort_came, aborted, accepted, acked, asked, begun, certified, closed, commit_came, committed, is_hosted_of, local_version, marked, pre_version, refused, replied, requested, taken, waits}
use Rattle.str_model.specs.Proposals.{holds_pair, is_done, is_known, is_pair, is_parked, proposed}
use Rattle.str_model.specs.Steps.{drop_held}
use Rattle.str_model.specs.Views.{Doing, View, name_of}
use Rattle.str_model.specs.declared.messages.Arrived.{Arrived}
use Rattle.str_model.specs.declared.messages.Body.TheVariants.{Commit}
use Rattle.str_model.specs.declared.messages.Input.{Input}
use Rattle.str_model.specs.declared.messages.Waiter.TheVariants.{Held, Read}
use Rattle.str_model.specs.declared.messages.Waiter.{Waiter}
use Rattle.str_model.specs.declared.names.KeyMark.{KeyMark}
use Rattle.str_scene.specs.Scenes.{Here, is_master}
use Rattle.std.proofs.lemmas.Bool.{or_right}
use Rattle.str_base.proofs.Members.{any_in, in_append, in_filter, in_insert_all, in_map, in_right, in_without}
use Rattle.str_base.specs.Members.{In}

-- the pair is done here, or versions of it stand here
abbrev pub Knows : TxId → PartId → View → Type 0
Knows tx p v = Has (is_pair tx p) v.done ⊎ Has (of_pair tx p) v.versions

pub knows_known : (tx : TxId) (p : PartId) (v : View) → Knows tx p v → is_known v tx p ≡ true
knows_known tx p v (inl h) = rw (any_in (is_pair tx p) v.done h.0 h.1 h.2) refl
knows_known tx p v (inr h) = or_right (is_done v tx p) (list_any (of_pair tx p) v.versions) (any_in (of_pair tx p) v.versions h.0 h.1 h.2)

pub unknown_not : (tx : TxId) (p : PartId) (v : View) → is_known v tx p ≡ false → Knows tx p v → ⊥
unknown_not tx p v e k = absurd (cc (e, knows_known tx p v k))

-- the tests of a pair say that both are one
pub one_pair : (t tx : TxId) (q p : PartId) → (same_tx t tx && same_part q p) ≡ true → (t ≡ tx) × (q ≡ p)
one_pair t tx q p e =
    let s = pair_same t tx q p e in
    (λ j. record { node = record { 0 = s.node j }; seq = s.seq j }, λ j. record { 0 = s.part j })

-- ---- how many wait

-- how many Prepares of the pair are parked
abbrev pub parked : TxId → PartId → View → ℕ
parked tx p v = how_many (holds_pair tx p) v.waiters

-- a parked pair is not known, and is parked once. It is needed where a parked Prepare is judged again: nobody looks then whether it is known
pub record Quiet (tx : TxId) (p : PartId) (v : View) : Type 0 where
  pub few : parked tx p v ≤ 1
  pub apart : Knows tx p v → parked tx p v ≡ 0

-- each parked Prepare is at its master, so that what a slave takes is not parked
abbrev pub AtMaster : Here → View → Type 0
AtMaster here v = (a : Arrived) → In (Held a) v.waiters → IsMasters here a

-- ---- each change

module _ (here : Here) (input : Input) (w : Where) (tx : TxId) (p : PartId) where
  abbrev pub Is : TxId → PartId → Type 0
  Is t q = (same_tx t tx && same_part q p) ≡ true

  -- how a pair becomes known
  pub data Learns (d e : View) (d0 : Doing) : Type 0 where
    k_here : (a : Arrived) (h : IsHere here input d0 a) → Is a.tx a.part → e.waiters ≡ left_waiting h → Learns d e d0
    k_takes : (a : Arrived) → Takes here d0 a → Is a.tx a.part → e.waiters ≡ d.waiters → Learns d e d0
    k_commits : (from : NodeId) (t : TxId) (q : PartId) (fc : Ts) (ms : List KeyMark) → Comes here input from (Commit t q fc ms) → Is t q → e.waiters ≡ d.waiters → Learns d e d0
    k_aborts : (t : TxId) (q : PartId) → Is t q → e.waiters ≡ drop_held t q d.waiters → Learns d e d0

  -- the change makes the pair done, or it was done
  pub data DoneNow (d e : View) (d0 : Doing) : Type 0 where
    d_was : Has (is_pair tx p) d.done → DoneNow d e d0
    d_refused : (a : Arrived) (h : IsHere here input d0 a) → Is a.tx a.part → e.versions ≡ d.versions → DoneNow d e d0
    d_commits : (t : TxId) (q : PartId) (fc : ℕ) → Is t q → e.versions ≡ finalise (of_pair t q) fc d.versions → DoneNow d e d0
    d_aborts : (t : TxId) (q : PartId) → Is t q → e.versions ≡ without (of_pair t q) d.versions → DoneNow d e d0

  last_pair : (xs : List (TxId × PartId)) (t : TxId) (q : PartId) → Has (is_pair tx p) (xs ++ (t, q) ∷ []) → Has (is_pair tx p) xs ⊎ Is t q
  last_pair xs t q h = elim (in_append xs ((t, q) ∷ []) h.0 h.1) [
    | inl k ↦ inl (h.0, k, h.2)
    | inr k ↦ (elim k [ inl e ↦ inr (ap (is_pair tx p) e ∙ h.2) | inr z ↦ absurd z ])
  ]

  pub done_back : (d e : Doing) → Act here input w d e → Has (is_pair tx p) e.view.done → DoneNow d.view e.view d
  unfolding begun marked aborted committed closed certified asked acked requested accepted taken refused waits replied commit_came abort_came
  done_back d e (act_begin place rs d' r h) k = d_was k
  done_back d e (act_mark g t d' rd) k = d_was k
  done_back d e (act_put i x y d' own g) k = d_was k
  done_back d e (act_request i g m x d' own h) k = d_was k
  done_back d e (act_certify i lc snap x d' own f n c) k = d_was k
  done_back d e (act_ask i lc q x d' own f l g) k = d_was k
  done_back d e (act_ack i lc from t q ts parts x d' own c r g) k = d_was k
  done_back d e (act_abort i cause x d' own f y) k = d_was k
  done_back d e (act_commit i lc fc x d' own l n le f g) k = d_was k
  done_back d e (act_close i x d' own q n) k = d_was k
  done_back d e (act_accept a ts d' h m) k = d_was k
  done_back d e (act_refuse a u g d' h m) k = elim (last_pair d'.view.done a.tx a.part k) [ inl j ↦ d_was j | inr j ↦ d_refused a h j refl ]
  done_back d e (act_take from a d' c l) k = d_was k
  done_back d e (act_wait r d' h) k = d_was k
  done_back d e (act_unwait kept rest r d' h) k = d_was k
  done_back d e (act_reply t g rs v u fc d' h) k = d_was k
  done_back d e (act_commit_came from t q fc ms d' c h) k = elim (last_pair d'.view.done t q k) [ inl j ↦ d_was j | inr j ↦ d_commits t q fc.0 j refl ]
  done_back d e (act_abort_came from t q d' c h) k = elim (last_pair d'.view.done t q k) [ inl j ↦ d_was j | inr j ↦ d_aborts t q j refl ]

  -- no more of them than before, or the first one has come
  abbrev pub ParkStep : View → View → Type 0
  ParkStep d e = (parked tx p e ≤ parked tx p d) ⊎ ((Knows tx p d → ⊥) × (parked tx p d ≡ 0) × (parked tx p e ≤ 1) × (e.versions ≡ d.versions) × (e.done ≡ d.done))

  -- who is new here, by the tests of a Prepare that comes
  not_known : (d : Doing) (a : Arrived) → Is a.tx a.part → is_known d.view a.tx a.part ≡ false → Knows tx p d.view → ⊥
  not_known d a s u k =
      let o = one_pair a.tx tx a.part p s in unknown_not tx p d.view (subst₂ (λ t q. is_known d.view t q ≡ false) o.0 o.1 u) k

  none_parked : (d : Doing) (a : Arrived) → Is a.tx a.part → is_parked d.view a.tx a.part ≡ false → parked tx p d.view ≡ 0
  none_parked d a s u =
      let o = one_pair a.tx tx a.part p s in many_none (holds_pair tx p) d.view.waiters (subst₂ (λ t q. is_parked d.view t q ≡ false) o.0 o.1 u)

  left_fewer : (d : Doing) (a : Arrived) (h : IsHere here input d a) → how_many (holds_pair tx p) (left_waiting h) ≤ parked tx p d.view
  left_fewer d a (it_comes from c u z m) = omega arith
  left_fewer d a (it_waits kept rest q) =
      let l = many_left (holds_pair tx p) kept rest (Held a) in
      let n : parked tx p d.view ≡ how_many (holds_pair tx p) (kept ++ Held a ∷ rest) = ap (how_many (holds_pair tx p)) q in omega (arith, l, n)

  pub park_step : (d e : Doing) → Act here input w d e → ParkStep d.view e.view
  unfolding begun marked aborted committed closed certified asked acked requested accepted taken refused waits replied commit_came abort_came
  park_step d e (act_begin place rs d' r h) = inl (omega arith)
  park_step d e (act_mark g t d' rd) = inl (omega arith)
  park_step d e (act_put i x y d' own g) = inl (omega arith)
  park_step d e (act_request i g m x d' own h) = inl (omega arith)
  park_step d e (act_certify i lc snap x d' own f n c) = inl (omega arith)
  park_step d e (act_ask i lc q x d' own f l g) = inl (omega arith)
  park_step d e (act_ack i lc from t q ts parts x d' own c r g) = inl (omega arith)
  park_step d e (act_abort i cause x d' own f y) = inl (omega arith)
  park_step d e (act_commit i lc fc x d' own l n le f g) = inl (omega arith)
  park_step d e (act_close i x d' own q n) = inl (omega arith)
  park_step d e (act_accept a ts d' h m) = inl (left_fewer d' a h)
  park_step d e (act_refuse a u g d' h m) = inl (left_fewer d' a h)
  park_step d e (act_take from a d' c l) = inl (omega arith)
  park_step d e (act_wait r d' h) = by_arrival r h
    where
      more : (r : Waiter) → how_many (holds_pair tx p) (d'.view.waiters ++ r ∷ []) ≡ parked tx p d'.view + one_if (holds_pair tx p r)
      more r = let a = many_append (holds_pair tx p) d'.view.waiters (r ∷ []) in omega (arith, a)

      at_most : (b : Bool) → one_if b ≤ 1
      at_most true = omega arith
      at_most false = omega arith

      by_arrival : (r : Waiter) → Arrives here input d' r → ParkStep d'.view (waits r d').view
      by_arrival r (a_read from t k rs c) = let m = more (Read t k rs) in inl (omega (arith, m))
      by_arrival r (a_prepare from a c u z s) = by_test (same_tx a.tx tx && same_part a.part p) refl
        where
          by_test : (b : Bool) → (same_tx a.tx tx && same_part a.part p) ≡ b → ParkStep d'.view (waits (Held a) d').view
          by_test true q =
              let m = more (Held a) in
              let n = none_parked d' a q z in
              let le = at_most (holds_pair tx p (Held a)) in inr (not_known d' a q u, n, omega (arith, m, n, le), refl, refl)
          by_test false q = let m = more (Held a) in let n : one_if (holds_pair tx p (Held a)) ≡ 0 = ap one_if q in inl (omega (arith, m, n))
  park_step d e (act_unwait kept rest r d' h) =
      let l = many_left (holds_pair tx p) kept rest r in
      let n : parked tx p d'.view ≡ how_many (holds_pair tx p) (kept ++ r ∷ rest) = ap (how_many (holds_pair tx p)) h.waiters in inl (omega (arith, l, n))
  park_step d e (act_reply t g rs v u fc d' h) = inl (omega arith)
  park_step d e (act_commit_came from t q fc ms d' c h) = inl (omega arith)
  park_step d e (act_abort_came from t q d' c h) = inl (many_dropped t q (holds_pair tx p) d'.view.waiters)

  -- ---- a pair of another node's transaction

  module _ (other : tx.node.0 ≢ here.node.0) where
    own_not : (i : ℕ) (v : Version) → v.tx ≡ name_of here i → of_pair tx p v ≡ true → ⊥
    own_not i v q e = other (sym (pair_same v.tx tx v.part p e).node ∙ ap (λ (t : TxId). t.node.0) q)

    pub known_back : (d e : Doing) → Act here input w d e → Knows tx p e.view → Knows tx p d.view ⊎ Learns d.view e.view d
    unfolding begun marked aborted committed closed certified asked acked requested accepted taken refused waits replied commit_came abort_came
    known_back d e (act_begin place rs d' r h) k = inl k
    known_back d e (act_mark g t d' rd) k = inl k
    known_back d e (act_put i x y d' own g) k = inl k
    known_back d e (act_request i g m x d' own h) k = inl k
    known_back d e (act_certify i lc snap x d' own f n c) (inl k) = inl (inl k)
    known_back d e (act_certify i lc snap x d' own f n c) (inr k) = elim (in_insert_all (map (local_version here i lc) x.writes) d'.view.versions k.0 k.1) [
      | inl j ↦ (let r = in_map (local_version here i lc) x.writes k.0 j in absurd (own_not i k.0 (ap (λ (v : Version). v.tx) (sym r.2)) k.2))
      | inr j ↦ inl (inr (k.0, j, k.2))
    ]
    known_back d e (act_ask i lc q x d' own f l g) k = inl k
    known_back d e (act_ack i lc from t q ts parts x d' own c r g) k = inl k
    known_back d e (act_abort i cause x d' own f y) (inl k) = inl (inl k)
    known_back d e (act_abort i cause x d' own f y) (inr k) = inl (inr (k.0, in_without (of_tx (name_of here i)) d'.view.versions k.0 k.1, k.2))
    known_back d e (act_commit i lc fc x d' own l n le f g) (inl k) = inl (inl k)
    known_back d e (act_commit i lc fc x d' own l n le f g) (inr k) =
        elim (in_insert_all (map (settled fc) (filter (is_hosted_of here (name_of here i)) d'.view.versions)) (without (of_tx (name_of here i)) d'.view.versions) k.0 k.1) [
          | inl j ↦ (let r = in_map (settled fc) (filter (is_hosted_of here (name_of here i)) d'.view.versions) k.0 j in
              let g = in_filter (is_hosted_of here (name_of here i)) d'.view.versions r.0 r.1 in inl (inr (r.0, g.0, ap (of_pair tx p) r.2 ∙ k.2)))
          | inr j ↦ inl (inr (k.0, in_without (of_tx (name_of here i)) d'.view.versions k.0 j, k.2))
        ]
    known_back d e (act_close i x d' own q n) k = inl k
    known_back d e (act_accept a ts d' h m) (inl k) = inl (inl k)
    known_back d e (act_accept a ts d' h m) (inr k) = elim (in_insert_all (map (pre_version a ts) a.writes) d'.view.versions k.0 k.1) [
      | inl j ↦ (let r = in_map (pre_version a ts) a.writes k.0 j in inr (k_here a h (ap (of_pair tx p) r.2 ∙ k.2) refl))
      | inr j ↦ inl (inr (k.0, j, k.2))
    ]
    known_back d e (act_refuse a u g d' h m) (inl k) = elim (last_pair d'.view.done a.tx a.part k) [ inl j ↦ inl (inl j) | inr j ↦ inr (k_here a h j refl) ]
    known_back d e (act_refuse a u g d' h m) (inr k) = inl (inr k)
    known_back d e (act_take from a d' c l) (inl k) = inl (inl k)
    known_back d e (act_take from a d' c l) (inr k) = elim (in_insert_all (map (pre_version a (proposed d'.view a)) a.writes) d'.view.versions k.0 k.1) [
      | inl j ↦ (let r = in_map (pre_version a (proposed d'.view a)) a.writes k.0 j in inr (k_takes a l (ap (of_pair tx p) r.2 ∙ k.2) refl))
      | inr j ↦ inl (inr (k.0, j, k.2))
    ]
    known_back d e (act_wait r d' h) k = inl k
    known_back d e (act_unwait kept rest r d' h) k = inl k
    known_back d e (act_reply t g rs v u fc d' h) k = inl k
    known_back d e (act_commit_came from t q fc ms d' c h) (inl k) = elim (last_pair d'.view.done t q k) [ inl j ↦ inl (inl j) | inr j ↦ inr (k_commits from t q fc ms c j refl) ]
    known_back d e (act_commit_came from t q fc ms d' c h) (inr k) =
        elim (in_insert_all (map (settled fc.0) (filter (of_pair t q) d'.view.versions)) (without (of_pair t q) d'.view.versions) k.0 k.1) [
          | inl j ↦ (let r = in_map (settled fc.0) (filter (of_pair t q) d'.view.versions) k.0 j in
              let g = in_filter (of_pair t q) d'.view.versions r.0 r.1 in inl (inr (r.0, g.0, ap (of_pair tx p) r.2 ∙ k.2)))
          | inr j ↦ inl (inr (k.0, in_without (of_pair t q) d'.view.versions k.0 j, k.2))
        ]
    known_back d e (act_abort_came from t q d' c h) (inl k) = elim (last_pair d'.view.done t q k) [ inl j ↦ inl (inl j) | inr j ↦ inr (k_aborts t q j refl) ]
    known_back d e (act_abort_came from t q d' c h) (inr k) = inl (inr (k.0, in_without (of_pair t q) d'.view.versions k.0 k.1, k.2))

    pub here_unknown : (d : Doing) (a : Arrived) → Is a.tx a.part → Quiet tx p d.view → IsHere here input d a → Knows tx p d.view → ⊥
    here_unknown d a s q (it_comes from c u z m) k = not_known d a s u k
    here_unknown d a s q (it_waits kept rest r) k =
        let h = many_has (holds_pair tx p) d.view.waiters (Held a) (subst (In (Held a)) (sym r) (in_right kept (Held a ∷ rest) (Held a) (inl refl))) s in
        let z = q.apart k in absurd (omega (arith, h, z))

    pub left_none : (d : Doing) (a : Arrived) → Is a.tx a.part → parked tx p d.view ≤ 1 → (h : IsHere here input d a) → how_many (holds_pair tx p) (left_waiting h) ≡ 0
    left_none d a s le (it_comes from c u z m) = none_parked d a s z
    left_none d a s le (it_waits kept rest q) =
        let l = many_left (holds_pair tx p) kept rest (Held a) in
        let o : one_if (holds_pair tx p (Held a)) ≡ 1 = ap one_if s in
        let n : parked tx p d.view ≡ how_many (holds_pair tx p) (kept ++ Held a ∷ rest) = ap (how_many (holds_pair tx p)) q in omega (arith, l, n, le, o)

    not_one : (n : ℕ) → (1 ≤ n → ⊥) → n ≡ 0
    not_one zero h = refl
    not_one (suc n) h = absurd (h (omega arith))

    pub taken_none : (d : Doing) (a : Arrived) → Is a.tx a.part → Takes here d a → AtMaster here d.view → parked tx p d.view ≡ 0
    taken_none d a s t m = not_one (parked tx p d.view) (λ le. clash (many_some (holds_pair tx p) d.view.waiters le))
      where
        clash : Has (holds_pair tx p) d.view.waiters → ⊥
        clash h = of_waiter h.0 h.1 h.2
          where
            of_waiter : (r : Waiter) → In r d.view.waiters → holds_pair tx p r ≡ true → ⊥
            of_waiter (Read u k rs) i e = absurd (cc e)
            of_waiter (Held b) i e =
                let same : b.part ≡ a.part = (one_pair b.tx tx b.part p e).1 ∙ sym (one_pair a.tx tx a.part p s).1 in
                let is : is_master here.scene here.node a.part ≡ true = subst (λ q. is_master here.scene here.node q ≡ true) same (m b i).master in
                absurd (cc (is, t.slave))

    pub quiet_step : (d e : Doing) → Act here input w d e → AtMaster here d.view
        → ((from : NodeId) (t : TxId) (q : PartId) (fc : Ts) (ms : List KeyMark) → Comes here input from (Commit t q fc ms) → Is t q → Knows tx p d.view)
        → Quiet tx p d.view → Quiet tx p e.view
    quiet_step d e a m commits q = record {
      few = elim (park_step d e a) [ inl le ↦ (let f = q.few in omega (arith, le, f)) | inr r ↦ r.2 ];
      apart = λ k. elim (known_back d e a k) [ inl j ↦ was_known (park_step d e a) j | inr l ↦ learned l ];
    }
      where
        was_known : ParkStep d.view e.view → Knows tx p d.view → parked tx p e.view ≡ 0
        was_known (inl le) j = let z = q.apart j in omega (arith, le, z)
        was_known (inr r) j = absurd (r.0 j)

        learned : Learns d.view e.view d → parked tx p e.view ≡ 0
        learned (k_here b h s r) = ap (how_many (holds_pair tx p)) r ∙ left_none d b s q.few h
        learned (k_takes b t s r) = ap (how_many (holds_pair tx p)) r ∙ taken_none d b s t m
        learned (k_commits from t u fc ms c s r) = ap (how_many (holds_pair tx p)) r ∙ q.apart (commits from t u fc ms c s)
        learned (k_aborts t u s r) =
            let o = one_pair t tx u p s in
            ap (how_many (holds_pair tx p)) r ∙ subst₂ (λ a b. how_many (holds_pair tx p) (drop_held a b d.view.waiters) ≡ 0) (sym o.0) (sym o.1) (many_dropped_own tx p d.view.waiters q.few)
