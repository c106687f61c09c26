-- What an own transaction does with its script and its snapshot is a path of single changes.
use Rattle.std.proofs.Common.{Bool, List, None, Option, Some, [], ap, arith, false, find, if◌then◌else◌, inl, inr, is_some, ltb-false, map, max, nat_lt, not, refl, slice_get, subst, sym, true, ℕ, ◌-◌, ◌||◌, ◌∙◌, ◌∷◌, ◌≡◌, ◌≤◌, ◌⊎◌}
use Rattle.partition_map.specs.declared.rows.Asked.{Asked}
use Rattle.dependency_set.specs.declared.names.Dep.{Dep}
use Rattle.str_base.specs.declared.names.KeyId.{KeyId}
use Rattle.str_scene.specs.declared.names.Op.{Op}
use Rattle.str_scene.specs.declared.names.Op.TheVariants.{Abort as Stop, Add, Del, Get, Need, Put, Puts}
use Rattle.str_base.specs.declared.names.TxId.{TxId}
use Rattle.str_base.specs.declared.names.Value.{Value}
use Rattle.str_base.specs.declared.names.Value.TheVariants.{Absent}
use Rattle.str_base.specs.declared.names.Write.{Write}
use Rattle.str_model.specs.declared.messages.Arrived.{Arrived}
use Rattle.str_model.specs.declared.messages.Input.{Input}
use Rattle.str_model.specs.Acts.{in_phase, marked}
use Rattle.str_model.specs.Gates.{CommitAt, DepParts, gate_turn}
use Rattle.str_model.specs.Gates
use Rattle.str_model.specs.Proposals.{MasterTurn, master_turn}
use Rattle.str_model.specs.Proposals
use Rattle.str_scene.specs.Scenes.{Here}
use Rattle.str_model.specs.Scripts.{ask_commit, cert_done, certify_now, do_op, finish, finish_next, known, need_value, noted, op_or_commit, own_op, read_done, read_now, with_value}
use Rattle.str_model.specs.Scripts
use Rattle.dependency_set.specs.Snapshots.{Snap}
use Rattle.str_model.specs.Turns.{Away, CertTurn, Certified, Conflict, DepTurn, Late, Plain, ReadTurn, Speculative, Wait, WaitGate, by_fate, cert_turn, dep_turn, deps_left, greatest, left_by, own_fate, read_turn, resolve_all}
use Rattle.str_model.specs.Turns
use Rattle.str_model.specs.Views.{Active, CertWait, Closing, Doing, Own, Phase, ReadWait, Remote, View, is_decided, lc_of, put}
use Rattle.str_model.proofs.Principle.SingleChanges.{AsksCommit, Change, GoesOn, IsMasters, IsOwn, JustMarked, Needs, Path, Reads, Touches, Where, act_abort, act_certify, act_mark, act_put, act_request, and_then, asks_new, at_abort, by_certification, by_script, ch_away, ch_blind, ch_close, ch_gate, ch_known, ch_read, ch_wait, one, own_reading, reads_new, stay, to_final, to_local}
use Rattle.str_model.proofs.Changes.SnapshotsGain.{Extends, Gains, Names, Settles, TurnGood, extends_self, gains_it, gains_of, if_elim, read_turn-good}
use Rattle.str_model.proofs.Changes.DependencyLooks.{deps_also}
use Rattle.str_base.specs.Members.{In}

pub nor_left : (a b : Bool) → not (a || b) ≡ true → a ≡ false
nor_left true b e = absurd cc
nor_left false b e = refl

pub nor_right : (a b : Bool) → not (a || b) ≡ true → b ≡ false
nor_right true b e = absurd cc
nor_right false true e = absurd cc
nor_right false false e = refl

-- a Prepare that is judged is new at its master
pub record IsFresh (here : Here) (d : Doing) (a : Arrived) (turn : MasterTurn) : Type 0 where
  pub is : master_turn d.view a ≡ turn
  pub unknown : Proposals.is_known d.view a.tx a.part ≡ false
  pub unparked : Proposals.is_parked d.view a.tx a.part ≡ false
  pub mine : IsMasters here a

-- a gate that commits has no dependency left, and commits at or above the local commit timestamp
pub gate_commits : (snap : Snap) (lc : ℕ) (parts : List Asked) (wrote : List DepParts) (fc : ℕ) → gate_turn snap lc parts wrote ≡ CommitAt fc → (snap.deps ≡ []) × (lc ≤ fc)
unfolding gate_turn
gate_commits snap lc parts wrote fc e = by_ask (find (Gates.may_ask wrote) parts) e
  where
    by_ack : (o : Option Asked) → Gates.gate_acks lc parts o ≡ CommitAt fc → lc ≤ fc
    by_ack (Some a) e = absurd (cc e)
    by_ack None e = let q : max lc (greatest (map Gates.ack_or_zero parts)) ≡ fc = cc e in omega (arith, q)

    by_deps : (ds : List Dep) → Gates.gate_deps lc parts ds ≡ CommitAt fc → (ds ≡ []) × (lc ≤ fc)
    by_deps [] e = (refl, by_ack (find (λ a. not (is_some a.ack)) parts) e)
    by_deps (d ∷ ds) e = absurd (cc e)

    by_ask : (o : Option Asked) → Gates.gate_asks snap lc parts o ≡ CommitAt fc → (snap.deps ≡ []) × (lc ≤ fc)
    by_ask (Some a) e = absurd (cc e)
    by_ask None e = by_deps snap.deps e

-- ---- scripts

pub finish-goes : (u : View) (op : Op) (v : Value) (x y : Own) → GoesOn u x y → lc_of y.phase ≡ None → GoesOn u x (finish op v y)
finish-goes u (Get k) v x y g n = record { was_open = g.was_open; is_open = refl; same_place = g.same_place; snap = g.snap; same_lc = sym n ∙ g.same_lc }
finish-goes u (Put k m) v x y g n = record { was_open = g.was_open; is_open = refl; same_place = g.same_place; snap = g.snap; same_lc = sym n ∙ g.same_lc }
finish-goes u (Puts k t) v x y g n = record { was_open = g.was_open; is_open = refl; same_place = g.same_place; snap = g.snap; same_lc = sym n ∙ g.same_lc }
finish-goes u (Add k m) v x y g n = record { was_open = g.was_open; is_open = refl; same_place = g.same_place; snap = g.snap; same_lc = sym n ∙ g.same_lc }
finish-goes u (Del k) v x y g n = record { was_open = g.was_open; is_open = refl; same_place = g.same_place; snap = g.snap; same_lc = sym n ∙ g.same_lc }
finish-goes u (Need k m) v x y g n =
    if_elim (GoesOn u x) _ _ _
    (λ e. record { was_open = g.was_open; is_open = refl; same_place = g.same_place; snap = g.snap; same_lc = sym n ∙ g.same_lc })
    (λ e. record { was_open = g.was_open; is_open = refl; same_place = g.same_place; snap = g.snap; same_lc = sym n ∙ g.same_lc })
finish-goes u Stop v x y g n = g

pub finish_next-goes : (u : View) (o : Option Op) (v : Value) (x y : Own) → GoesOn u x y → lc_of y.phase ≡ None → GoesOn u x (finish_next o v y)
finish_next-goes u None v x y g n = g
finish_next-goes u (Some op) v x y g n = finish-goes u op v x y g n

-- what is known of a transaction that is at its script
pub record IsFree (w : Where) (d : Doing) (i : ℕ) (x : Own) : Type 0 where
  pub own : IsOwn w d i x
  pub open_ : is_decided x.phase ≡ false
  pub no_lc : lc_of x.phase ≡ None

pub free_at : (w : Where) (d : Doing) (i : ℕ) (x : Own) (p : Phase) → IsOwn w d i x → x.phase ≡ p → is_decided p ≡ false → lc_of p ≡ None → IsFree w d i x
free_at w d i x p own e o n = record { own = own; open_ = ap is_decided e ∙ o; no_lc = ap lc_of e ∙ n }

pub phase-goes : (w : Where) (d : Doing) (i : ℕ) (x : Own) (p : Phase) → IsFree w d i x → is_decided p ≡ false → lc_of p ≡ None → GoesOn d.view x (in_phase p x)
phase-goes w d i x p f o n = record { was_open = f.open_; is_open = o; same_place = refl; snap = extends_self d.view x.snap; same_lc = n ∙ sym f.no_lc }

pub free_marked : (w : Where) (k : KeyId) (t : ℕ) (d : Doing) (i : ℕ) (x : Own) → IsFree w d i x → IsFree w (marked k t d) i x
unfolding marked
free_marked w k t d i x f = record { own = f.own; open_ = f.open_; no_lc = f.no_lc }

pub extends_marked : (k : KeyId) (x : Own) (d : Doing) (snap : Snap) → Extends d.view x.snap snap → Extends (marked k x.snap.rs d).view x.snap snap
unfolding marked
extends_marked k x d snap h =
    record { rs = h.rs; deps = λ y i. elim (h.deps y i) [ inl a ↦ inl a | inr g ↦ inr (gains_marked y g) ]; kept = h.kept }
  where
    gains_marked : (y : Dep) → Gains d.view x.snap.rs y → Gains (marked k x.snap.rs d).view x.snap.rs y
    gains_marked y (gains_it v u i l le o q) = gains_it v u i l le o q
    gains_marked y (gains_of v u i l le o q) = gains_of v u i l le o q

-- marks change nothing that a turn looks at
pub read_marked : (here : Here) (k : KeyId) (x : Own) (d : Doing) (turn : ReadTurn) → TurnGood d.view x.snap turn → TurnGood (marked k x.snap.rs d).view x.snap turn
read_marked here k x d (Plain v by fc snap) h = extends_marked k x d snap h
read_marked here k x d (Speculative v by snap) h = extends_marked k x d snap h
read_marked here k x d (Wait by) h = tt
read_marked here k x d (Away n) h = tt

-- what is left of dependencies that were looked at
pub resolve_all-sub : (own : List Own) (rs : ℕ) (ds : List Dep) (ffc : ℕ) (x : Dep) → In x (deps_left (resolve_all own rs ds ffc)) → In x ds
resolve_all-sub own rs [] ffc x h = h
resolve_all-sub own rs (d ∷ ds) ffc x h = by_fate-sub (own_fate (slice_get own (d.seq - 1))) (λ g k. resolve_all-sub own rs ds g x k) h
  where
    by_fate-sub : (f : Turns.Fate) → ((g : ℕ) → In x (deps_left (resolve_all own rs ds g)) → In x ds)
        → In x (deps_left (by_fate rs d ds ffc (λ g. resolve_all own rs ds g) f)) → In x (d ∷ ds)
    by_fate-sub Turns.Open rec k = elim (subst (In x) (deps_also d (resolve_all own rs ds ffc)) k) [ inl z ↦ inl z | inr z ↦ inr (rec ffc z) ]
    by_fate-sub Turns.Gone rec k = k
    by_fate-sub (Turns.CommittedAt fc) rec k = by_test (nat_lt rs fc) k
      where
        by_test : (b : Bool) → In x (deps_left (if b then Late d.seq fc ffc (d ∷ ds) else resolve_all own rs ds (max ffc fc))) → In x (d ∷ ds)
        by_test true k = k
        by_test false k = inr (rec (max ffc fc) k)

-- what is no longer there has committed at or below the snapshot
pub resolve_all-kept : (view : View) (rs : ℕ) (ds : List Dep) (ffc : ℕ) (x : Dep) → In x ds → Names x.seq (deps_left (resolve_all view.own rs ds ffc)) ⊎ Settles view rs x
resolve_all-kept view rs [] ffc x h = absurd h
resolve_all-kept view rs (d ∷ ds) ffc x h = by_fate-kept (own_fate (slice_get view.own (d.seq - 1))) refl (λ g k. resolve_all-kept view rs ds g x k) h
  where
    by_fate-kept : (f : Turns.Fate) → own_fate (slice_get view.own (d.seq - 1)) ≡ f → ((g : ℕ) → In x ds → Names x.seq (deps_left (resolve_all view.own rs ds g)) ⊎ Settles view rs x)
        → In x (d ∷ ds) → Names x.seq (deps_left (by_fate rs d ds ffc (λ g. resolve_all view.own rs ds g) f)) ⊎ Settles view rs x
    by_fate-kept Turns.Open s rec k = subst (λ es. Names x.seq es ⊎ Settles view rs x) (sym (deps_also d (resolve_all view.own rs ds ffc))) (by_place k)
      where
        by_place : In x (d ∷ ds) → Names x.seq (d ∷ deps_left (resolve_all view.own rs ds ffc)) ⊎ Settles view rs x
        by_place (inl z) = inl (d, inl refl, ap (λ (y : Dep). y.seq) z)
        by_place (inr z) = elim (rec ffc z) [ inl n ↦ inl (n.0, inr n.1, n.2) | inr t ↦ inr t ]
    by_fate-kept Turns.Gone s rec k = inl (x, k, refl)
    by_fate-kept (Turns.CommittedAt fc) s rec k = by_test (nat_lt rs fc) refl k
      where
        by_test : (b : Bool) → nat_lt rs fc ≡ b → In x (d ∷ ds) → Names x.seq (deps_left (if b then Late d.seq fc ffc (d ∷ ds) else resolve_all view.own rs ds (max ffc fc))) ⊎ Settles view rs x
        by_test true t k = inl (x, k, refl)
        by_test false t (inl z) = inr (fc, subst (λ (y : Dep). own_fate (slice_get view.own (y.seq - 1)) ≡ Turns.CommittedAt fc) z s, ltb-false rs fc t)
        by_test false t (inr z) = rec (max ffc fc) z

pub resolved-extends : (x : Own) (t : DepTurn) (d : Doing) → dep_turn d.view.own x.snap ≡ t → Extends d.view x.snap (left_by t x.snap)
unfolding dep_turn
resolved-extends x t d e =
    record {
      rs = refl;
      deps = λ y h. inl (resolve_all-sub d.view.own x.snap.rs x.snap.deps x.snap.ffc y (subst (λ u. In y (deps_left u)) (sym e) h));
      kept = λ y h. subst (λ u. Names y.seq (deps_left u) ⊎ Settles d.view x.snap.rs y) e (resolve_all-kept d.view x.snap.rs x.snap.deps x.snap.ffc y h);
    }

-- marks change nothing that a read looks at
read_again : (here : Here) (k : KeyId) (t : ℕ) (snap : Snap) (d : Doing) → read_turn here (marked k t d).view snap k ≡ read_turn here d.view snap k
unfolding marked read_turn
read_again here k t snap d = refl

pub just_marked : (k : KeyId) (t : ℕ) (d : Doing) → JustMarked (marked k t d).view k t
unfolding marked
just_marked k t d = (d.view.marks, refl)

module _ (here : Here) (input : Input) (w : Where) where
  pub with_value-path : (i : ℕ) (k : KeyId) (v : Value) (by : Option TxId) (snap : Snap) (x : Own) (d : Doing)
      → IsFree w d i x → Extends d.view x.snap snap → Change here input d i x (finish_next (own_op here x) v (noted k v by snap x)) → Path here input w d (with_value here i k v by snap x d)
  with_value-path i k v by snap x d f e c =
      one (act_put i x _ d f.own (record {
        goes = finish_next-goes d.view (own_op here x) v x (noted k v by snap x) (record { was_open = f.open_; is_open = f.open_; same_place = refl; snap = e; same_lc = refl }) f.no_lc;
        change = c;
      }))

  pub read_done-path : (i : ℕ) (k : KeyId) (x : Own) (turn : ReadTurn) (d : Doing)
      → IsFree w d i x → TurnGood d.view x.snap turn → Reads here x k → JustMarked d.view k x.snap.rs → read_turn here d.view x.snap k ≡ turn → Path here input w d (read_done here i k x turn d)
  read_done-path i k x (Plain v by fc snap) d f e r m q = with_value-path i k v by snap x d f e (ch_read k v by snap r m (to_final fc q))
  read_done-path i k x (Speculative v by snap) d f e r m q = with_value-path i k v (Some by) snap x d f e (ch_read k v (Some by) snap r m (to_local by refl q))
  read_done-path i k x (Wait by) d f e r m q = one (act_put i x _ d f.own (record { goes = phase-goes w d i x (ReadWait k) f refl refl; change = ch_wait k by r m q }))
  read_done-path i k x (Away n) d f e r m q = one (act_request i k n x d f.own (record { goes = phase-goes w d i x (Remote k) f refl refl; change = ch_away k n r m q; away = q }))

  pub read_now-path : (i : ℕ) (k : KeyId) (x : Own) (d : Doing) → IsFree w d i x → Reads here x k → Path here input w d (read_now here i k x d)
  unfolding read_now
  read_now-path i k x d f r =
      and_then d (marked k x.snap.rs d) _ (one (act_mark k x.snap.rs d (own_reading i x f.own.0 refl)))
      (read_done-path i k x (read_turn here d.view x.snap k) (marked k x.snap.rs d) (free_marked w k x.snap.rs d i x f)
      (read_marked here k x d (read_turn here d.view x.snap k) (read_turn-good here d.view x.snap k)) r (just_marked k x.snap.rs d) (read_again here k x.snap.rs x.snap d))

  pub cert_done-path : (i : ℕ) (x : Own) (turn : CertTurn) (d : Doing) → IsFree w d i x → AsksCommit here x → cert_turn here d.view x.snap x.writes ≡ turn
      → Path here input w d (cert_done here i x turn d)
  cert_done-path i x (Certified lc snap) d f a e = one (act_certify i lc snap x d (f.own.0, f.own.1, a) f.open_ f.no_lc e)
  cert_done-path i x (Conflict u k) d f a e = one (act_abort i _ x d f.own f.open_ (by_certification u k e))
  cert_done-path i x (WaitGate by) d f a e = one (act_put i x _ d f.own (record { goes = phase-goes w d i x CertWait f refl refl; change = ch_gate a }))

  pub certify_now-path : (i : ℕ) (x : Own) (d : Doing) → IsFree w d i x → AsksCommit here x → Path here input w d (certify_now here i x d)
  unfolding certify_now
  certify_now-path i x d f a = cert_done-path i x (cert_turn here d.view x.snap x.writes) d f a refl

  pub finish-path : (i : ℕ) (op : Op) (v : Value) (x : Own) (d : Doing) → IsFree w d i x → Change here input d i x (finish op v x) → Path here input w d (put i (finish op v x) d)
  finish-path i op v x d f c =
      one (act_put i x _ d f.own (record {
        goes = finish-goes d.view op v x x (record { was_open = f.open_; is_open = f.open_; same_place = refl; snap = extends_self d.view x.snap; same_lc = refl }) f.no_lc;
        change = c;
      }))

  pub need_value-path : (i : ℕ) (op : Op) (k : KeyId) (x : Own) (o : Option Value) (d : Doing) → IsFree w d i x → x.phase ≡ Active → own_op here x ≡ Some op → Needs op k → known x k ≡ o
      → Path here input w d (need_value here i op k x o d)
  need_value-path i op k x (Some v) d f a e n q = finish-path i op v x d f (ch_known op k v a e n q)
  need_value-path i op k x None d f a e n q = read_now-path i k x d f (reads_new op a e n q)

  pub do_op-path : (i : ℕ) (x : Own) (op : Op) (d : Doing) → IsFree w d i x → x.phase ≡ Active → own_op here x ≡ Some op → Path here input w d (do_op here i x op d)
  do_op-path i x (Get k) d f a e = need_value-path i (Get k) k x (known x k) d f a e refl refl
  do_op-path i x (Put k n) d f a e = finish-path i (Put k n) Absent x d f (ch_blind (Put k n) Absent a e tt)
  do_op-path i x (Puts k t) d f a e = finish-path i (Puts k t) Absent x d f (ch_blind (Puts k t) Absent a e tt)
  do_op-path i x (Add k n) d f a e = need_value-path i (Add k n) k x (known x k) d f a e refl refl
  do_op-path i x (Del k) d f a e = finish-path i (Del k) Absent x d f (ch_blind (Del k) Absent a e tt)
  do_op-path i x (Need k n) d f a e = need_value-path i (Need k n) k x (known x k) d f a e refl refl
  do_op-path i x Stop d f a e = one (act_abort i _ x d f.own f.open_ (by_script (at_abort a e)))

  pub ask_commit-path : (i : ℕ) (x : Own) (ws : List Write) (d : Doing) → IsFree w d i x → x.phase ≡ Active → own_op here x ≡ None → x.writes ≡ ws → Path here input w d (ask_commit here i x ws d)
  ask_commit-path i x [] d f a e q = one (act_put i x _ d f.own (record { goes = phase-goes w d i x (Closing false) f refl refl; change = ch_close a e q }))
  ask_commit-path i x (w ∷ ws) d f a e q = certify_now-path i x d f (asks_new a e (λ z. cc (sym q ∙ z)))

  pub op_or_commit-path : (i : ℕ) (x : Own) (o : Option Op) (d : Doing) → IsFree w d i x → x.phase ≡ Active → own_op here x ≡ o → Path here input w d (op_or_commit here i x o d)
  op_or_commit-path i x (Some op) d f a e = do_op-path i x op d f a e
  op_or_commit-path i x None d f a e = ask_commit-path i x x.writes d f a e refl

  -- ---- own transactions as they stand

  pub unless_decided-path : (b : Bool) (f : Doing → Doing) (d : Doing) → (b ≡ false → Path here input w d (f d)) → Path here input w d (Scripts.unless_decided b f d)
  unless_decided-path true f d h = stay d
  unless_decided-path false f d h = h refl

  pub of_own-path : (i : ℕ) (f : Own → Doing → Doing) (o : Option Own) (d : Doing) → Touches w i → slice_get d.view.own i ≡ o
      → ((x : Own) → IsOwn w d i x → is_decided x.phase ≡ false → Path here input w d (f x d)) → Path here input w d (Scripts.of_own f o d)
  of_own-path i f None d t e h = stay d
  of_own-path i f (Some x) d t e h = unless_decided-path (is_decided x.phase) (f x) d (h x (e, t))

  pub at_own-path : (i : ℕ) (f : Own → Doing → Doing) (d : Doing) → Touches w i
      → ((x : Own) → IsOwn w d i x → is_decided x.phase ≡ false → Path here input w d (f x d)) → Path here input w d (Scripts.at_own i f d)
  at_own-path i f d t h = of_own-path i f (slice_get d.view.own i) d t refl h
