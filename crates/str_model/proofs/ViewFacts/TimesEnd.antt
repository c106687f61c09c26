-- Times of a view are below the limit of what comes and the number of certifications, at each change.
use Rattle.std.proofs.Common.{Bool, List, None, Option, Some, [], ap, arith, false, find, if◌then◌else◌, is_some, ltb-true, map, nat_lt, refl, slice_get, slice_set, subst, suc, sym, true, zero, ℕ, ◌+◌, ◌<◌, ◌∷◌, ◌≡◌, ◌≤◌}
use Rattle.str_base.specs.declared.names.Version.{Version}
use Rattle.str_model.specs.declared.messages.Arrived.{Arrived}
use Rattle.str_model.specs.declared.messages.Input.{Input}
use Rattle.str_model.specs.declared.messages.Input.TheVariants.{Deliver}
use Rattle.str_model.specs.declared.messages.Message.{Message}
use Rattle.str_model.specs.Acts.{abort_came, aborted, accepted, acked, asked, begun, certified, closed, commit_came, committed, decided_as, fresh, in_phase, marked, pre_version, refused, replied, requested, taken, waits, with_asked}
use Rattle.str_model.specs.Clients.{reading_limit}
use Rattle.str_model.specs.NodeFacts.{ViewBelow, has_lc, how_many, one_if, times_end}
use Rattle.str_scene.specs.Scenes.{Here}
use Rattle.str_model.specs.Proposals.{Accept, MasterTurn, master_turn, proposed, ts_limit}
use Rattle.str_model.specs.Proposals
use Rattle.str_model.specs.Strange.{is_valid}
use Rattle.str_model.specs.Turns.{met}
use Rattle.str_model.specs.Views.{Aborted, Committed, Doing, Global, Own, Remote, View, lc_of}
use Rattle.str_model.proofs.Principle.SingleChanges.{Act, Where, act_abort, act_abort_came, act_accept, act_ack, act_ask, act_begin, act_certify, act_close, act_commit, act_commit_came, act_mark, act_put, act_refuse, act_reply, act_request, act_take, act_unwait, act_wait}
use Rattle.str_model.proofs.ViewFacts.ChangesBelow.{view_act}
use Rattle.str_model.proofs.ViewFacts.PartsBelow.{insert_below}
use Rattle.str_model.proofs.ViewFacts.TimesBelow.{BodyBelow, VersionsBelow, body_higher}
use Rattle.str_model.proofs.ListCounts.{many_append}
use Rattle.str_model.proofs.OwnFacts.EachOwn.{as_certified}
use Rattle.str_model.proofs.Changes.VersionChanges.{still}
use Rattle.str_model.proofs.ViewFacts.ValidMessages.{named_below, valid_named}
use Rattle.str_base.proofs.Members.{in_map}

-- ---- how many were certified

pub many_set : {A : Type 0} (test : A → Bool) (xs : List A) (i : ℕ) (x y : A) → slice_get xs i ≡ Some x → how_many test (slice_set xs i y) + one_if (test x) ≡ how_many test xs + one_if (test y)
many_set test [] i x y e = absurd (cc e)
many_set {A = A} test (z ∷ xs) zero x y e =
    let is : z ≡ x = cc e in
    let q : one_if (test z) ≡ one_if (test x) = ap (λ (u : A). one_if (test u)) is in omega (arith, q)
many_set test (z ∷ xs) (suc i) x y e = let r = many_set test xs i x y e in omega (arith, r)

-- no fewer, where the one that changes keeps its local commit timestamp
kept_many : (xs : List Own) (i : ℕ) (x y : Own) → slice_get xs i ≡ Some x → lc_of y.phase ≡ lc_of x.phase → how_many has_lc xs ≤ how_many has_lc (slice_set xs i y)
kept_many xs i x y e l =
    let r = many_set has_lc xs i x y e in
    let q : one_if (has_lc y) ≡ one_if (has_lc x) = ap (λ z. one_if (is_some z)) l in omega (arith, r, q)

one_more : (xs : List Own) (i : ℕ) (x y : Own) (lc : ℕ) → slice_get xs i ≡ Some x → lc_of x.phase ≡ None → lc_of y.phase ≡ Some lc → how_many has_lc xs + 1 ≤ how_many has_lc (slice_set xs i y)
one_more xs i x y lc e l m =
    let r = many_set has_lc xs i x y e in
    let q : one_if (has_lc x) ≡ 0 = ap (λ z. one_if (is_some z)) l in
    let s : one_if (has_lc y) ≡ 1 = ap (λ z. one_if (is_some z)) m in omega (arith, r, q, s)

-- ---- what comes

limits_below : (here : Here) (input : Input) (b : ℕ) → ts_limit ≤ b → (m : Message) → input ≡ Deliver m → is_valid here m ≡ true → BodyBelow b m.body
limits_below here input b le m q v = body_higher ts_limit b m.body le (named_below here m.body (valid_named here m v))

accept_limit : (v : View) (a : Arrived) (ts : ℕ) → master_turn v a ≡ Accept ts → ts < ts_limit
unfolding master_turn
accept_limit v a ts e = by_refuse (find (Proposals.refuses a) (met a.writes v.versions)) e
  where
    by_limit : (b : Bool) → nat_lt (proposed v a) ts_limit ≡ b → (if b then Accept (proposed v a) else Proposals.Ignore) ≡ Accept ts → ts < ts_limit
    by_limit true t k = let is : proposed v a ≡ ts = cc k in subst (λ n. n < ts_limit) is (ltb-true (proposed v a) ts_limit t)
    by_limit false t k = absurd (cc k)

    by_park : (o : Option Version) → Proposals.master_parks v a o ≡ Accept ts → ts < ts_limit
    by_park (Some q) k = absurd (cc k)
    by_park None k = by_limit (nat_lt (proposed v a) ts_limit) refl k

    by_refuse : (o : Option Version) → Proposals.master_refuses v a o ≡ Accept ts → ts < ts_limit
    by_refuse (Some q) k = absurd (cc k)
    by_refuse None k = by_park (find (Proposals.parks a) (met a.writes v.versions)) k

pres_below : (b : ℕ) (a : Arrived) (ts : ℕ) → ts < b → VersionsBelow b (map (pre_version a ts) a.writes)
pres_below b a ts less q h = let r = in_map (pre_version a ts) a.writes q h in omega (arith, less, ap (λ (z : Version). z.ts.0) r.2)

-- ---- each change

module _ (here : Here) (input : Input) (w : Where) where
  some_limit : (v : View) → ts_limit ≤ times_end v
  some_limit v = omega arith

  past_readings : (v : View) → reading_limit < times_end v
  past_readings v = omega arith

  abbrev Comes_ : Doing → Type 0
  Comes_ d = (m : Message) → input ≡ Deliver m → is_valid here m ≡ true → BodyBelow (times_end d.view) m.body

  comes_ : (d : Doing) → Comes_ d
  comes_ d = limits_below here input (times_end d.view) (some_limit d.view)

  pub times_end-act : (d e : Doing) → Act here input w d e → ViewBelow (times_end d.view) d.view → ViewBelow (times_end e.view) e.view
  unfolding begun marked aborted committed closed certified asked acked requested accepted taken refused waits replied commit_came abort_came
  times_end-act d e (act_begin place rs d' r g) h =
      let m = many_append has_lc d'.view.own (fresh place rs ∷ []) in
      view_act here input w (times_end d'.view) (past_readings d'.view) (comes_ d') (times_end e.view) (omega (arith, m)) d' e (act_begin place rs d' r g) (omega (arith, m)) h
  times_end-act d e (act_mark k t d' g) h =
      view_act here input w (times_end d'.view) (past_readings d'.view) (comes_ d') (times_end e.view) (omega arith) d' e (act_mark k t d' g) (omega arith) h
  times_end-act d e (act_put i x y d' own g) h =
      let m = kept_many d'.view.own i x y own.0 g.goes.same_lc in
      view_act here input w (times_end d'.view) (past_readings d'.view) (comes_ d') (times_end e.view) (omega (arith, m)) d' e (act_put i x y d' own g) (omega (arith, m)) h
  times_end-act d e (act_request i k n x d' own g) h =
      let m = kept_many d'.view.own i x (in_phase (Remote k) x) own.0 g.goes.same_lc in
      view_act here input w (times_end d'.view) (past_readings d'.view) (comes_ d') (times_end e.view) (omega (arith, m)) d' e (act_request i k n x d' own g) (omega (arith, m)) h
  times_end-act d e (act_certify i lc snap x d' own f n c) h =
      let m = one_more d'.view.own i x (as_certified here lc snap x) lc own.0 n refl in
      view_act here input w (times_end d'.view) (past_readings d'.view) (comes_ d') (times_end e.view) (omega (arith, m)) d' e (act_certify i lc snap x d' own f n c) (omega (arith, m)) h
  times_end-act d e (act_ask i lc p x d' own f l g) h =
      let m = kept_many d'.view.own i x (record x { parts = with_asked p x.parts; phase = Global lc }) own.0 (sym l) in
      view_act here input w (times_end d'.view) (past_readings d'.view) (comes_ d') (times_end e.view) (omega (arith, m)) d' e (act_ask i lc p x d' own f l g) (omega (arith, m)) h
  times_end-act d e (act_ack i lc from tx p ts parts x d' own c q g) h =
      let m = kept_many d'.view.own i x (record x { parts = parts }) own.0 refl in
      view_act here input w (times_end d'.view) (past_readings d'.view) (comes_ d') (times_end e.view) (omega (arith, m)) d' e (act_ack i lc from tx p ts parts x d' own c q g) (omega (arith, m)) h
  times_end-act d e (act_abort i cause x d' own f y) h =
      let m = kept_many d'.view.own i x (decided_as (Aborted (lc_of x.phase) cause) x) own.0 refl in
      view_act here input w (times_end d'.view) (past_readings d'.view) (comes_ d') (times_end e.view) (omega (arith, m)) d' e (act_abort i cause x d' own f y) (omega (arith, m)) h
  times_end-act d e (act_commit i lc fc x d' own l n le f g) h =
      let m = kept_many d'.view.own i x (decided_as (Committed (Some lc) (Some fc)) x) own.0 (sym l) in
      view_act here input w (times_end d'.view) (past_readings d'.view) (comes_ d') (times_end e.view) (omega (arith, m)) d' e (act_commit i lc fc x d' own l n le f g) (omega (arith, m)) h
  times_end-act d e (act_close i x d' own p n) h =
      let m = kept_many d'.view.own i x (decided_as (Committed None None) x) own.0 (sym (ap lc_of p)) in
      view_act here input w (times_end d'.view) (past_readings d'.view) (comes_ d') (times_end e.view) (omega (arith, m)) d' e (act_close i x d' own p n) (omega (arith, m)) h
  times_end-act d e (act_accept a ts d' g m) h =
      let b = times_end d'.view in
      let less : ts < b = (let s = accept_limit d'.view a ts m in omega (arith, s)) in
      record {
        floor = h.floor;
        marks = h.marks;
        versions = insert_below b (map (pre_version a ts) a.writes) d'.view.versions (pres_below b a ts less) h.versions;
        own = h.own;
        waiters = λ r k. h.waiters r (still here input d' a g r k);
      }
  times_end-act d e (act_refuse a u k d' g m) h =
      view_act here input w (times_end d'.view) (past_readings d'.view) (comes_ d') (times_end e.view) (omega arith) d' e (act_refuse a u k d' g m) (omega arith) h
  times_end-act d e (act_take from a d' c t) h =
      let b = times_end d'.view in
      let less : proposed d'.view a < b = (let s = ltb-true (proposed d'.view a) ts_limit t.below in omega (arith, s)) in
      record {
        floor = h.floor;
        marks = h.marks;
        versions = insert_below b (map (pre_version a (proposed d'.view a)) a.writes) d'.view.versions (pres_below b a (proposed d'.view a) less) h.versions;
        own = h.own;
        waiters = h.waiters;
      }
  times_end-act d e (act_wait r d' g) h =
      view_act here input w (times_end d'.view) (past_readings d'.view) (comes_ d') (times_end e.view) (omega arith) d' e (act_wait r d' g) (omega arith) h
  times_end-act d e (act_unwait kept rest r d' g) h =
      view_act here input w (times_end d'.view) (past_readings d'.view) (comes_ d') (times_end e.view) (omega arith) d' e (act_unwait kept rest r d' g) (omega arith) h
  times_end-act d e (act_reply tx k rs v u fc d' g) h =
      view_act here input w (times_end d'.view) (past_readings d'.view) (comes_ d') (times_end e.view) (omega arith) d' e (act_reply tx k rs v u fc d' g) (omega arith) h
  times_end-act d e (act_commit_came from tx p fc ms d' c g) h =
      view_act here input w (times_end d'.view) (past_readings d'.view) (comes_ d') (times_end e.view) (omega arith) d' e (act_commit_came from tx p fc ms d' c g) (omega arith) h
  times_end-act d e (act_abort_came from tx p d' c g) h =
      view_act here input w (times_end d'.view) (past_readings d'.view) (comes_ d') (times_end e.view) (omega arith) d' e (act_abort_came from tx p d' c g) (omega arith) h
