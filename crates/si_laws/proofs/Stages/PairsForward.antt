-- A pair of another node's transaction moves only forward.
use Rattle.std.proofs.Common.{Bool, List, Some, [], ap, arith, eqb-true, false, filter, inl, inr, map, refl, slice_get, slice_set, subst, sym, true, ℕ, ◌&&◌, ◌++◌, ◌+◌, ◌==◌, ◌∙◌, ◌∷◌, ◌≡◌, ◌≢◌, ◌≤◌, ◌⊎◌}
use Rattle.std.specs.List.{list_any}
use Rattle.str_scene.specs.declared.names.Event.{Event}
use Rattle.str_base.specs.declared.names.PartId.{PartId}
use Rattle.str_base.specs.declared.names.TxId.{TxId}
use Rattle.str_base.specs.declared.names.Version.{Version}
use Rattle.str_model.specs.declared.messages.Arrived.{Arrived}
use Rattle.str_model.specs.declared.messages.Input.{Input}
use Rattle.str_model.specs.declared.messages.Waiter.{Waiter}
use Rattle.str_model.specs.declared.messages.Waiter.TheVariants.{Held, Read}
use Rattle.str_model.specs.Acts.{abort_came, aborted, accepted, acked, asked, begun, certified, closed, commit_came, committed, is_hosted_of, local_version, marked, pre_version, refused, replied, requested, taken, waits}
use Rattle.si_laws.specs.Laws.Stages.{StagesForward, pair_stage, rank, stage_by}
use Rattle.str_model.specs.Owned.{IsView}
use Rattle.str_model.specs.Proposals.{holds_pair, is_done, is_pair, is_parked, proposed}
use Rattle.str_model.specs.Runs.{World, opening, run, run_from}
use Rattle.str_scene.specs.SceneLimits.{IsScene}
use Rattle.str_scene.specs.Scenes.{Here, Scene}
use Rattle.str_base.specs.Versions.{of_pair, of_tx, same_node, same_part, same_tx, settled, without}
use Rattle.str_model.specs.Views.{Doing, View, name_of}
use Rattle.str_model.proofs.Principle.SingleChanges.{Act, IsHere, Served, Where, act_abort, act_abort_came, act_accept, act_ack, act_ask, act_begin, act_certify, act_close, act_commit, act_commit_came, act_mark, act_put, act_refuse, act_reply, act_request, act_take, act_unwait, act_wait, it_comes, it_waits, left_waiting, s_read}
use Rattle.str_model.proofs.Principle.Everywhere.{IsSeen, Stage, at_each_node, at_place, during, ever_after, run-append, stage_of}
use Rattle.str_model.proofs.Changes.VersionChanges.{wait_step}
use Rattle.str_model.proofs.Changes.PairWords.{Has, SomeWrites, any_has, joined_pair, keep_held, keep_without, pair_same, some_step}
use Rattle.std.proofs.lemmas.Bool.{false_from_ne_true}
use Rattle.str_base.proofs.Members.{any_in, in_all_new, in_all_old, in_append, in_left, in_right, map_in}
use Rattle.str_base.proofs.Tests.{and_true_left}
use Rattle.str_base.proofs.Lists.{get_set, get_set_other, got_set}
use Rattle.str_base.specs.Members.{In}

-- ---- names

-- ---- what one who is parked asks for is not empty

-- ---- each change

module _ (here : Here) (input : Input) (w : Where) (tx : TxId) (p : PartId) (other : tx.node.0 ≢ here.node.0) where
  abbrev Done : View → Type 0
  Done v = Has (is_pair tx p) v.done

  abbrev Stands : View → Type 0
  Stands v = Has (of_pair tx p) v.versions

  abbrev Waits : View → Type 0
  Waits v = Has (holds_pair tx p) v.waiters

  pushed : (v : View) (more : List (TxId × PartId)) → Done v → Has (is_pair tx p) (v.done ++ more)
  pushed v more h = (h.0, in_left v.done more h.0 h.1, h.2)

  last_done : (v : View) (t : TxId) (q : PartId) → (same_tx t tx && same_part q p) ≡ true → Has (is_pair tx p) (v.done ++ (t, q) ∷ [])
  last_done v t q e = ((t, q), in_right v.done ((t, q) ∷ []) (t, q) (inl refl), e)

  pub done-act : (d e : Doing) → Act here input w d e → Done d.view → Done e.view
  unfolding begun marked aborted committed closed certified asked acked requested accepted taken refused waits replied commit_came abort_came
  done-act d e (act_begin place rs d' r h) k = k
  done-act d e (act_mark g t d' rd) k = k
  done-act d e (act_put i x y d' own g) k = k
  done-act d e (act_request i g m x d' own h) k = k
  done-act d e (act_certify i lc snap x d' own f n c) k = k
  done-act d e (act_ask i lc q x d' own f l g) k = k
  done-act d e (act_ack i lc from t q ts parts x d' own c r g) k = k
  done-act d e (act_abort i cause x d' own f y) k = k
  done-act d e (act_commit i lc fc x d' own l n le f g) k = k
  done-act d e (act_close i x d' own q n) k = k
  done-act d e (act_accept a ts d' h m) k = k
  done-act d e (act_refuse a u g d' h m) k = pushed d.view ((a.tx, a.part) ∷ []) k
  done-act d e (act_take from a d' c l) k = k
  done-act d e (act_wait r d' h) k = k
  done-act d e (act_unwait kept rest r d' h) k = k
  done-act d e (act_reply t g rs v u fc d' h) k = k
  done-act d e (act_commit_came from t q fc ms d' c h) k = pushed d.view ((t, q) ∷ []) k
  done-act d e (act_abort_came from t q d' c h) k = pushed d.view ((t, q) ∷ []) k

  foreign : (i : ℕ) (x : Version) → of_pair tx p x ≡ true → of_tx (name_of here i) x ≡ false
  foreign i x e = false_from_ne_true (of_tx (name_of here i) x) (λ q.
      let a = pair_same x.tx tx x.part p e in
      let b : x.tx.node.0 ≡ here.node.0 = eqb-true x.tx.node.0 here.node.0 (and_true_left (same_node x.tx.node here.node) (x.tx.seq == i + 1) q) in
      other (sym a.node ∙ b))

  stands-act : (d e : Doing) → Act here input w d e → Stands d.view → Done e.view ⊎ Stands e.view
  unfolding begun marked aborted committed closed certified asked acked requested accepted taken refused waits replied commit_came abort_came
  stands-act d e (act_begin place rs d' r h) k = inr k
  stands-act d e (act_mark g t d' rd) k = inr k
  stands-act d e (act_put i x y d' own g) k = inr k
  stands-act d e (act_request i g m x d' own h) k = inr k
  stands-act d e (act_certify i lc snap x d' own f n c) k = inr (k.0, in_all_old (map (local_version here i lc) x.writes) d.view.versions k.0 k.1, k.2)
  stands-act d e (act_ask i lc q x d' own f l g) k = inr k
  stands-act d e (act_ack i lc from t q ts parts x d' own c r g) k = inr k
  stands-act d e (act_abort i cause x d' own f y) k = inr (k.0, keep_without (of_tx (name_of here i)) d.view.versions k.0 k.1 (foreign i k.0 k.2), k.2)
  stands-act d e (act_commit i lc fc x d' own l n le f g) k =
      inr (k.0, in_all_old (map (settled fc) (filter (is_hosted_of here (name_of here i)) d.view.versions)) (without (of_tx (name_of here i)) d.view.versions) k.0 (keep_without (of_tx (name_of here i)) d.view.versions k.0 k.1 (foreign i k.0 k.2)), k.2)
  stands-act d e (act_close i x d' own q n) k = inr k
  stands-act d e (act_accept a ts d' h m) k = inr (k.0, in_all_old (map (pre_version a ts) a.writes) d.view.versions k.0 k.1, k.2)
  stands-act d e (act_refuse a u g d' h m) k = inr k
  stands-act d e (act_take from a d' c l) k = inr (k.0, in_all_old (map (pre_version a (proposed d.view a)) a.writes) d.view.versions k.0 k.1, k.2)
  stands-act d e (act_wait r d' h) k = inr k
  stands-act d e (act_unwait kept rest r d' h) k = inr k
  stands-act d e (act_reply t g rs v u fc d' h) k = inr k
  stands-act d e (act_commit_came from t q fc ms d' c h) k = by_test (of_pair t q k.0) refl
    where
      by_test : (b : Bool) → of_pair t q k.0 ≡ b → Done e.view ⊎ Stands e.view
      by_test true r = inl (last_done d.view t q (joined_pair k.0.tx tx t k.0.part p q k.2 r))
      by_test false r = inr (k.0, in_all_old (map (settled fc.0) (filter (of_pair t q) d.view.versions)) (without (of_pair t q) d.view.versions) k.0 (keep_without (of_pair t q) d.view.versions k.0 k.1 r), k.2)
  stands-act d e (act_abort_came from t q d' c h) k = by_test (of_pair t q k.0) refl
    where
      by_test : (b : Bool) → of_pair t q k.0 ≡ b → Done e.view ⊎ Stands e.view
      by_test true r = inl (last_done d.view t q (joined_pair k.0.tx tx t k.0.part p q k.2 r))
      by_test false r = inr (k.0, keep_without (of_pair t q) d.view.versions k.0 k.1 r, k.2)

  left_or_held : (d : Doing) (a : Arrived) (h : IsHere here input d a) → Waits d.view → Has (holds_pair tx p) (left_waiting h) ⊎ (In (Held a) d.view.waiters × ((same_tx a.tx tx && same_part a.part p) ≡ true))
  left_or_held d a (it_comes from c u z m) k = inl k
  left_or_held d a (it_waits kept rest q) k = elim (in_append kept (Held a ∷ rest) k.0 (subst (In k.0) q k.1)) [
    | inl j ↦ inl (k.0, in_left kept rest k.0 j, k.2)
    | inr j ↦ (elim j [
      | inl z ↦ inr (subst (λ (y : Waiter). In y d.view.waiters) (sym z) k.1, ap (holds_pair tx p) z ∙ k.2)
      | inr z ↦ inl (k.0, in_right kept rest k.0 z, k.2)
    ])
  ]

  waits-act : (d e : Doing) → Act here input w d e → SomeWrites d.view → Waits d.view → Done e.view ⊎ (Stands e.view ⊎ Waits e.view)
  unfolding begun marked aborted committed closed certified asked acked requested accepted taken refused waits replied commit_came abort_came
  waits-act d e (act_begin place rs d' r h) some k = inr (inr k)
  waits-act d e (act_mark g t d' rd) some k = inr (inr k)
  waits-act d e (act_put i x y d' own g) some k = inr (inr k)
  waits-act d e (act_request i g m x d' own h) some k = inr (inr k)
  waits-act d e (act_certify i lc snap x d' own f n c) some k = inr (inr k)
  waits-act d e (act_ask i lc q x d' own f l g) some k = inr (inr k)
  waits-act d e (act_ack i lc from t q ts parts x d' own c r g) some k = inr (inr k)
  waits-act d e (act_abort i cause x d' own f y) some k = inr (inr k)
  waits-act d e (act_commit i lc fc x d' own l n le f g) some k = inr (inr k)
  waits-act d e (act_close i x d' own q n) some k = inr (inr k)
  waits-act d e (act_accept a ts d' h m) some k = elim (left_or_held d' a h k) [
    | inl j ↦ inr (inr j)
    | inr j ↦ (let x = some a j.0 in inr (inl (pre_version a ts x.0, in_all_new (map (pre_version a ts) a.writes) d'.view.versions (pre_version a ts x.0) (map_in (pre_version a ts) a.writes x.0 x.1), j.1)))
  ]
  waits-act d e (act_refuse a u g d' h m) some k = elim (left_or_held d' a h k) [ inl j ↦ inr (inr j) | inr j ↦ inl (last_done d'.view a.tx a.part j.1) ]
  waits-act d e (act_take from a d' c l) some k = inr (inr k)
  waits-act d e (act_wait r d' h) some k = inr (inr (k.0, in_left d.view.waiters (r ∷ []) k.0 k.1, k.2))
  waits-act d e (act_unwait kept rest r d' h) some k = elim (in_append kept (r ∷ rest) k.0 (subst (In k.0) h.waiters k.1)) [
    | inl j ↦ inr (inr (k.0, in_left kept rest k.0 j, k.2))
    | inr j ↦ (elim j [
      | inl q ↦ absurd (left_by r (ap (holds_pair tx p) q ∙ k.2) h.served)
      | inr z ↦ inr (inr (k.0, in_right kept rest k.0 z, k.2))
    ])
  ]
    where
      left_by : (r : Waiter) → holds_pair tx p r ≡ true → Served d.view r → ⊥
      left_by r t (s_read u g rs) = absurd (cc t)
  waits-act d e (act_reply t g rs v u fc d' h) some k = inr (inr k)
  waits-act d e (act_commit_came from t q fc ms d' c h) some k = inr (inr k)
  waits-act d e (act_abort_came from t q d' c h) some k = elim (keep_held t q d.view.waiters k.0 k.1) [
    | inl j ↦ inr (inr (k.0, j, k.2))
    | inr j ↦ inl (last_done d.view t q (same_held k.0 t q k.2 j))
  ]
    where
      same_held : (x : Waiter) (t : TxId) (q : PartId) → holds_pair tx p x ≡ true → holds_pair t q x ≡ true → (same_tx t tx && same_part q p) ≡ true
      same_held (Read u g rs) t q a b = absurd (cc a)
      same_held (Held y) t q a b = joined_pair y.tx tx t y.part p q a b

  pub second-act : (d e : Doing) → Act here input w d e → Done d.view ⊎ Stands d.view → Done e.view ⊎ Stands e.view
  second-act d e a (inl k) = inl (done-act d e a k)
  second-act d e a (inr k) = stands-act d e a k

  pub third-act : (d e : Doing) → Act here input w d e → SomeWrites d.view → Done d.view ⊎ (Stands d.view ⊎ Waits d.view) → Done e.view ⊎ (Stands e.view ⊎ Waits e.view)
  third-act d e a some (inl k) = inl (done-act d e a k)
  third-act d e a some (inr (inl k)) = elim (stands-act d e a k) [ inl j ↦ inl j | inr j ↦ inr (inl j) ]
  third-act d e a some (inr (inr k)) = waits-act d e a some k

-- ---- what a certain node's view keeps from some state on

module _ (scene : Scene) (n : ℕ) (P : View → Type 0)
    (keeps : (input : Input) (w : Where) (d e : Doing) → Act (at_place scene n) input w d e → P d.view → P e.view) where
  pub record AtPlace (s : Stage) : Type 0 where
    pub view : View
    pub there : slice_get s.nodes n ≡ Some view
    pub fact : P view

  at_place-keeps : (s : Stage) (i : ℕ) (v : View) (input : Input) (w : Where) (d e : Doing) → slice_get s.nodes i ≡ Some v → IsSeen s input → AtPlace s
      → Act (at_place scene i) input w d e → AtPlace (during s i d) → AtPlace (during s i e)
  at_place-keeps s i v input w d e is seen hs a h =
      elim (got_set s.nodes i n d.view h.view h.there) [
        | inl p ↦ record {
          view = e.view;
          there = subst (λ k. slice_get (slice_set s.nodes i e.view) k ≡ Some e.view) (sym p.0) (get_set s.nodes i v e.view is);
          fact = keeps input w d e (subst (λ (k : ℕ). Act (at_place scene k) input w d e) (sym p.0) a) (subst P p.1 h.fact);
        }
        | inr q ↦ record { view = h.view; there = get_set_other s.nodes i n e.view q.0 ∙ q.1; fact = h.fact }
      ]

  pub stays_there : (w : World) (v : View) (es : List Event) → slice_get w.nodes n ≡ Some v → P v → AtPlace (stage_of (run_from scene w es))
  stays_there w v es is p = ever_after scene AtPlace at_place-keeps w es (record { view = v; there = is; fact = p })

  -- the fact holds of the later view
  pub later_view : (early late : List Event) (v u : View) → IsView scene early n v → IsView scene (early ++ late) n u → P v → P u
  later_view early late v u is js p =
      let h = stays_there (run scene early) v late is p in
      let both : Some h.view ≡ Some u = sym h.there ∙ (ap (λ (w : World). slice_get w.nodes n) (sym (run-append scene (opening scene) early late)) ∙ js) in
      let same : h.view ≡ u = cc both in
      subst P same h.fact

-- ---- ranks

rank_three : (a b c : Bool) → a ≡ true → 3 ≤ rank (stage_by a b c)
rank_three true b c e = omega arith
rank_three false b c e = absurd (cc e)

pub rank_two : (a b c : Bool) → (a ≡ true) ⊎ (b ≡ true) → 2 ≤ rank (stage_by a b c)
rank_two true b c e = omega arith
rank_two false true c e = omega arith
rank_two false false c (inl e) = absurd (cc e)
rank_two false false c (inr e) = absurd (cc e)

rank_one : (a b c : Bool) → (a ≡ true) ⊎ ((b ≡ true) ⊎ (c ≡ true)) → 1 ≤ rank (stage_by a b c)
rank_one true b c e = omega arith
rank_one false true c e = omega arith
rank_one false false true e = omega arith
rank_one false false false (inl e) = absurd (cc e)
rank_one false false false (inr (inl e)) = absurd (cc e)
rank_one false false false (inr (inr e)) = absurd (cc e)

abbrev AtThree : TxId → PartId → View → Type 0
AtThree tx p z = Has (is_pair tx p) z.done

abbrev AtTwo : TxId → PartId → View → Type 0
AtTwo tx p z = Has (is_pair tx p) z.done ⊎ Has (of_pair tx p) z.versions

abbrev AtOne : TxId → PartId → View → Type 0
AtOne tx p z = SomeWrites z × (Has (is_pair tx p) z.done ⊎ (Has (of_pair tx p) z.versions ⊎ Has (holds_pair tx p) z.waiters))

pub some_writes : (scene : Scene) → IsScene scene → (es : List Event) (n : ℕ) (v : View) → IsView scene es n v → SomeWrites v
some_writes scene ok = at_each_node scene ok SomeWrites (λ a k. absurd k) (λ here good input w d e a h. some_step here input d e (wait_step here input w d e a) h)

pub stages_forward : StagesForward
stages_forward scene ok early late n v u is js tx p other =
    by_tests (is_done v tx p) (list_any (of_pair tx p) v.versions) (is_parked v tx p) refl refl refl
  where
    three : AtThree tx p v → AtThree tx p u
    three h = later_view scene n (AtThree tx p) (λ input w d e a k. done-act (at_place scene n) input w tx p other d e a k) early late v u is js h

    two : AtTwo tx p v → AtTwo tx p u
    two h = later_view scene n (AtTwo tx p) (λ input w d e a k. second-act (at_place scene n) input w tx p other d e a k) early late v u is js h

    one_ : AtOne tx p v → AtOne tx p u
    one_ h = later_view scene n (AtOne tx p) (λ input w d e a k. (
      some_step (at_place scene n) input d e (wait_step (at_place scene n) input w d e a) k.0,
      third-act (at_place scene n) input w tx p other d e a k.0 k.1,
    )) early late v u is js h

    done_of : (z : View) → Has (is_pair tx p) z.done → is_done z tx p ≡ true
    done_of z h = any_in (is_pair tx p) z.done h.0 h.1 h.2

    stands_of : (z : View) → Has (of_pair tx p) z.versions → list_any (of_pair tx p) z.versions ≡ true
    stands_of z h = any_in (of_pair tx p) z.versions h.0 h.1 h.2

    waits_of : (z : View) → Has (holds_pair tx p) z.waiters → is_parked z tx p ≡ true
    waits_of z h = any_in (holds_pair tx p) z.waiters h.0 h.1 h.2

    by_tests : (a b c : Bool) → is_done v tx p ≡ a → list_any (of_pair tx p) v.versions ≡ b → is_parked v tx p ≡ c → rank (stage_by a b c) ≤ rank (pair_stage u tx p)
    by_tests true b c x y z = rank_three (is_done u tx p) (list_any (of_pair tx p) u.versions) (is_parked u tx p) (done_of u (three (any_has (is_pair tx p) v.done x)))
    by_tests false true c x y z =
        rank_two (is_done u tx p) (list_any (of_pair tx p) u.versions) (is_parked u tx p)
        (elim (two (inr (any_has (of_pair tx p) v.versions y))) [ inl h ↦ inl (done_of u h) | inr h ↦ inr (stands_of u h) ])
    by_tests false false true x y z =
        rank_one (is_done u tx p) (list_any (of_pair tx p) u.versions) (is_parked u tx p)
        (elim ((one_ (some_writes scene ok early n v is, inr (inr (any_has (holds_pair tx p) v.waiters z)))).1) [
          | inl h ↦ inl (done_of u h)
          | inr h ↦ (elim h [ inl j ↦ inr (inl (stands_of u j)) | inr j ↦ inr (inr (waits_of u j)) ])
        ])
    by_tests false false false x y z = omega arith
