-- Each version, wherever it stands, and each write that is asked for, is of a key that its transaction wrote.
use Rattle.std.proofs.Common.{Bool, List, None, Option, Some, [], ap, false, filter, if◌then◌else◌, inl, inr, map, refl, slice_get, slice_set, subst, subst₂, sym, true, ℕ, ◌++◌, ◌+◌, ◌∙◌, ◌∷◌, ◌≡◌}
use Rattle.str_base.specs.declared.names.KeyId.{KeyId}
use Rattle.str_base.specs.declared.names.TxId.{TxId}
use Rattle.str_base.specs.declared.names.Value.{Value}
use Rattle.str_base.specs.declared.names.Version.{Version}
use Rattle.str_base.specs.declared.names.Write.{Write}
use Rattle.str_base.specs.Values.{is_below, set_write}
use Rattle.str_base.specs.Versions.{of_pair, of_tx, same_key, settled, without}
use Rattle.str_scene.specs.declared.names.Op.{Op}
use Rattle.str_scene.specs.declared.names.Op.TheVariants.{Abort as Stop, Add, Del, Get, Need, Put, Puts}
use Rattle.str_scene.specs.Scenes.{Here, Scene, in_part}
use Rattle.str_model.specs.declared.messages.Arrived.{Arrived}
use Rattle.str_model.specs.declared.messages.Body.{Body}
use Rattle.str_model.specs.declared.messages.Body.TheVariants.{Prepare, Replicate}
use Rattle.str_model.specs.declared.messages.Input.{Input}
use Rattle.str_model.specs.declared.messages.Input.TheVariants.{Deliver}
use Rattle.str_model.specs.declared.messages.Message.{Message}
use Rattle.str_model.specs.declared.messages.Waiter.{Waiter}
use Rattle.str_model.specs.declared.messages.Waiter.TheVariants.{Held}
use Rattle.str_model.specs.Acts.{abort_came, aborted, accepted, acked, asked, begun, certified, closed, commit_came, committed, fresh, is_hosted_of, local_version, marked, pre_version, refused, replied, requested, taken, waits}
use Rattle.str_model.specs.Owned.{Owns}
use Rattle.str_model.specs.Proposals.{proposed}
use Rattle.str_model.specs.Runs.{opening, opening_view}
use Rattle.str_model.specs.Scripts.{finish, finish_next, noted, own_op}
use Rattle.str_model.specs.Views.{Active, Closing, Doing, Own, View, name_of}
use Rattle.str_model.proofs.Principle.SingleChanges.{Act, Arrives, Change, IsHere, Where, a_prepare, a_read, act_abort, act_abort_came, act_accept, act_ack, act_ask, act_begin, act_certify, act_close, act_commit, act_commit_came, act_mark, act_put, act_refuse, act_reply, act_request, act_take, act_unwait, act_wait, ch_away, ch_blind, ch_close, ch_gate, ch_known, ch_read, ch_reply, ch_resolve, ch_take, ch_wait, it_comes, it_waits}
use Rattle.str_model.proofs.Principle.Everywhere.{IsSeen, Sent, Stage, at_place, during, stage_of}
use Rattle.str_model.proofs.Changes.SnapshotsGain.{if_elim}
use Rattle.si_laws.proofs.Sources.LetterSources.{LetterFrom, letter-act, lf_abort, lf_ack, lf_commit, lf_copy, lf_prepare, lf_refuse, lf_replicate, lf_reply, lf_request}
use Rattle.str_model.proofs.OwnFacts.LocalOwners.{same_own}
use Rattle.str_model.proofs.Changes.VersionChanges.{Placed, WaitStep, by_master, by_slave, w_fewer, w_more, wait_step}
use Rattle.str_base.proofs.Lists.{get_push, get_set, get_set_other, got_replicate, got_set}
use Rattle.std.proofs.lemmas.Bool.{cases_eq}
use Rattle.str_base.proofs.Members.{in_append, in_at, in_filter, in_insert_all, in_left, in_map, in_right, in_without}
use Rattle.str_base.proofs.SameNames.{same_key-is}
use Rattle.str_base.specs.Members.{In}

-- the key is one of these writes
abbrev pub WroteKey : List Write → KeyId → Type 0
WroteKey ws k = (w : Write) × (In w ws) × (w.key ≡ k)

set_write_keeps : (u : Write) (ws : List Write) (k : KeyId) → WroteKey ws k → WroteKey (set_write u ws) k
set_write_keeps u [] k h = absurd h.1
set_write_keeps u (w ∷ ws) k h = by_test (same_key w.key u.key) refl h.0 h.1 h.2 (λ g. set_write_keeps u ws k g)
  where
    by_test : (b : Bool) → same_key w.key u.key ≡ b → (v : Write) → In v (w ∷ ws) → v.key ≡ k → (WroteKey ws k → WroteKey (set_write u ws) k) → WroteKey (if b then u ∷ ws else w ∷ set_write u ws) k
    by_test true e v (inl q) s f = (u, inl refl, sym (same_key-is w.key u.key e) ∙ (ap (λ (z : Write). z.key) q ∙ s))
    by_test true e v (inr m) s f = (v, inr m, s)
    by_test false e v (inl q) s f = (v, inl q, s)
    by_test false e v (inr m) s f = let r = f (v, m, s) in (r.0, inr r.1, r.2)

finish_keeps : (op : Op) (a : Value) (x : Own) (k : KeyId) → WroteKey x.writes k → WroteKey (finish op a x).writes k
finish_keeps (Get l) a x k h = h
finish_keeps (Put l n) a x k h = set_write_keeps _ x.writes k h
finish_keeps (Puts l t) a x k h = set_write_keeps _ x.writes k h
finish_keeps (Add l n) a x k h = set_write_keeps _ x.writes k h
finish_keeps (Del l) a x k h = set_write_keeps _ x.writes k h
finish_keeps (Need l n) a x k h =
    if_elim (λ (z : Own). WroteKey z.writes k) (is_below a n) (record x { phase = Closing true }) (record x { next = x.next + 1; phase = Active }) (λ e. h) (λ e. h)
finish_keeps Stop a x k h = h

finish_next_keeps : (o : Option Op) (a : Value) (x : Own) (k : KeyId) → WroteKey x.writes k → WroteKey (finish_next o a x).writes k
finish_next_keeps None a x k h = h
finish_next_keeps (Some op) a x k h = finish_keeps op a x k h

changed_keeps : (here : Here) (input : Input) (d : Doing) (i : ℕ) (x y : Own) → Change here input d i x y → (k : KeyId) → WroteKey x.writes k → WroteKey y.writes k
changed_keeps here input d i x y (ch_resolve t e) k h = h
changed_keeps here input d i x y (ch_known op l a p e n q) k h = finish_keeps op a x k h
changed_keeps here input d i x y (ch_blind op a p e n) k h = finish_keeps op a x k h
changed_keeps here input d i x y (ch_read l a by snap r m t) k h = finish_next_keeps (own_op here x) a (noted l a by snap x) k h
changed_keeps here input d i x y (ch_wait l by r m e) k h = h
changed_keeps here input d i x y (ch_away l n r m e) k h = h
changed_keeps here input d i x y (ch_reply from tx l m a by fc c n p e s) k h = h
changed_keeps here input d i x y (ch_take l a b by of fc gc snap e q) k h = finish_next_keeps (own_op here x) b (noted l b of snap x) k h
changed_keeps here input d i x y (ch_close p e q) k h = h
changed_keeps here input d i x y (ch_gate a) k h = h

-- what an own transaction wrote it goes on having written
abbrev pub Keeps : View → ℕ → Own → KeyId → Type 0
Keeps e i x k = (y : Own) × Owns e i y × WroteKey y.writes k

set_keeps : (d e : View) (n i : ℕ) (x z y : Own) (k : KeyId) → Owns d i x → Owns d n z → e.own ≡ slice_set d.own n y → WroteKey x.writes k → (WroteKey z.writes k → WroteKey y.writes k) → Keeps e i x k
set_keeps d e n i x z y k own is q h f =
    elim (cases_eq i n) [
      | inl s ↦ (y, subst (λ m. Owns e m y) (sym s) (rw q (get_set d.own n z y is)), f (subst (λ (u : Own). WroteKey u.writes k) (same_own d i n x z own is s) h))
      | inr s ↦ (x, rw q (get_set_other d.own n i y s ∙ own), h)
    ]

pub wrote-act : (here : Here) (input : Input) (w : Where) (d e : Doing) → Act here input w d e → (i : ℕ) (x : Own) (k : KeyId) → Owns d.view i x → WroteKey x.writes k → Keeps e.view i x k
unfolding begun marked aborted committed closed certified asked acked requested accepted taken refused waits replied commit_came abort_came
wrote-act here input w d e (act_begin place rs d' r g) i x k own h = (x, get_push d'.view.own i (fresh place rs) x own, h)
wrote-act here input w d e (act_put n z y d' o g) i x k own h = set_keeps d'.view e.view n i x z y k own o.0 refl h (changed_keeps here input d' n z y g.change k)
wrote-act here input w d e (act_request n l to z d' o g) i x k own h = set_keeps d'.view e.view n i x z _ k own o.0 refl h (λ q. q)
wrote-act here input w d e (act_certify n lc snap z d' o f l c) i x k own h = set_keeps d'.view e.view n i x z _ k own o.0 refl h (λ q. q)
wrote-act here input w d e (act_ask n lc p z d' o f l g) i x k own h = set_keeps d'.view e.view n i x z _ k own o.0 refl h (λ q. q)
wrote-act here input w d e (act_ack n lc from tx p ts parts z d' o c q g) i x k own h = set_keeps d'.view e.view n i x z _ k own o.0 refl h (λ s. s)
wrote-act here input w d e (act_abort n cause z d' o f g) i x k own h = set_keeps d'.view e.view n i x z _ k own o.0 refl h (λ q. q)
wrote-act here input w d e (act_commit n lc fc z d' o l none le f g) i x k own h = set_keeps d'.view e.view n i x z _ k own o.0 refl h (λ q. q)
wrote-act here input w d e (act_close n z d' o p none) i x k own h = set_keeps d'.view e.view n i x z _ k own o.0 refl h (λ q. q)
wrote-act here input w d e (act_mark l t d' rd) i x k own h = (x, own, h)
wrote-act here input w d e (act_accept a ts d' g m) i x k own h = (x, own, h)
wrote-act here input w d e (act_refuse a u l d' g m) i x k own h = (x, own, h)
wrote-act here input w d e (act_take from a d' c l) i x k own h = (x, own, h)
wrote-act here input w d e (act_wait s d' g) i x k own h = (x, own, h)
wrote-act here input w d e (act_unwait kept more s d' g) i x k own h = (x, own, h)
wrote-act here input w d e (act_reply tx l rs v u fc d' g) i x k own h = (x, own, h)
wrote-act here input w d e (act_commit_came from tx p fc ms d' c g) i x k own h = (x, own, h)
wrote-act here input w d e (act_abort_came from tx p d' c g) i x k own h = (x, own, h)

-- the transaction has written the key, at its own node
pub record WroteIn (s : Stage) (u : TxId) (k : KeyId) : Type 0 where
  pub node : ℕ
  pub at_node : u.node.0 ≡ node + 1
  pub place : ℕ
  pub at_place_ : u.seq ≡ place + 1
  pub view : View
  pub there : slice_get s.nodes node ≡ Some view
  pub own : Own
  pub owns : Owns view place own
  pub wrote : WroteKey own.writes k

-- a body that asks for these writes
abbrev pub AsksWrites : Body → TxId → List Write → Type 0
AsksWrites (Prepare t p rs lc ws) tx us = (t ≡ tx) × (ws ≡ us)
AsksWrites (Replicate t p rs lc ws) tx us = (t ≡ tx) × (ws ≡ us)
AsksWrites _ tx us = ⊥

-- Each version, each Prepare and Replicate, and each parked Prepare is of keys that its transaction wrote. Why: so both of two transactions of which
-- one aborts for the other wrote the key that the cause names.
pub record Written (s : Stage) : Type 0 where
  pub versions : (n : ℕ) (v : View) (q : Version) → slice_get s.nodes n ≡ Some v → In q v.versions → WroteIn s q.tx q.key
  pub messages : (m : Message) (tx : TxId) (ws : List Write) (w : Write) → In m s.sent → AsksWrites m.body tx ws → In w ws → WroteIn s tx w.key
  pub held : (n : ℕ) (v : View) (a : Arrived) (w : Write) → slice_get s.nodes n ≡ Some v → In (Held a) v.waiters → In w a.writes → WroteIn s a.tx w.key

-- where a version comes from
pub data VersionFrom (here : Here) (input : Input) (d : Doing) (q : Version) : Type 0 where
  vf_old : (u : Version) → In u d.view.versions → u.tx ≡ q.tx → u.key ≡ q.key → VersionFrom here input d q
  vf_local : (n : ℕ) (x : Own) (w : Write) → Owns d.view n x → In w x.writes → q.tx ≡ name_of here n → w.key ≡ q.key → VersionFrom here input d q
  vf_pre : (a : Arrived) (w : Write) → Placed here input d a → In w a.writes → q.tx ≡ a.tx → w.key ≡ q.key → VersionFrom here input d q

pub version_from : (here : Here) (input : Input) (w : Where) (d e : Doing) → Act here input w d e → (q : Version) → In q e.view.versions → VersionFrom here input d q
unfolding begun marked aborted committed closed certified asked acked requested accepted taken refused waits replied commit_came abort_came
version_from here input w d e (act_certify n lc snap x d' o f l c) q h =
    elim (in_insert_all (map (local_version here n lc) x.writes) d'.view.versions q h) [
      | inl j ↦ (let r = in_map (local_version here n lc) x.writes q j in vf_local n x r.0 o.0 r.1 (ap (λ (z : Version). z.tx) (sym r.2)) (ap (λ (z : Version). z.key) r.2))
      | inr j ↦ vf_old q j refl refl
    ]
version_from here input w d e (act_accept a ts d' g m) q h =
    elim (in_insert_all (map (pre_version a ts) a.writes) d'.view.versions q h) [
      | inl j ↦ (let r = in_map (pre_version a ts) a.writes q j in vf_pre a r.0 (by_master g) r.1 (ap (λ (z : Version). z.tx) (sym r.2)) (ap (λ (z : Version). z.key) r.2))
      | inr j ↦ vf_old q j refl refl
    ]
version_from here input w d e (act_take from a d' c l) q h =
    elim (in_insert_all (map (pre_version a (proposed d'.view a)) a.writes) d'.view.versions q h) [
      | inl j ↦ (let r = in_map (pre_version a (proposed d'.view a)) a.writes q j in vf_pre a r.0 (by_slave from c l) r.1 (ap (λ (z : Version). z.tx) (sym r.2)) (ap (λ (z : Version). z.key) r.2))
      | inr j ↦ vf_old q j refl refl
    ]
version_from here input w d e (act_abort n cause x d' o f g) q h = vf_old q (in_without (of_tx (name_of here n)) d'.view.versions q h) refl refl
version_from here input w d e (act_abort_came from t p d' c g) q h = vf_old q (in_without (of_pair t p) d'.view.versions q h) refl refl
version_from here input w d e (act_commit n lc fc x d' o l none le f g) q h =
    elim (in_insert_all (map (settled fc) (filter (is_hosted_of here (name_of here n)) d'.view.versions)) (without (of_tx (name_of here n)) d'.view.versions) q h) [
      | inl j ↦ (let r = in_map (settled fc) (filter (is_hosted_of here (name_of here n)) d'.view.versions) q j in
          vf_old r.0 (in_filter (is_hosted_of here (name_of here n)) d'.view.versions r.0 r.1).0 (ap (λ (z : Version). z.tx) r.2) (ap (λ (z : Version). z.key) r.2))
      | inr j ↦ vf_old q (in_without (of_tx (name_of here n)) d'.view.versions q j) refl refl
    ]
version_from here input w d e (act_commit_came from t p fc ms d' c g) q h =
    elim (in_insert_all (map (settled fc.0) (filter (of_pair t p) d'.view.versions)) (without (of_pair t p) d'.view.versions) q h) [
      | inl j ↦ (let r = in_map (settled fc.0) (filter (of_pair t p) d'.view.versions) q j in
          vf_old r.0 (in_filter (of_pair t p) d'.view.versions r.0 r.1).0 (ap (λ (z : Version). z.tx) r.2) (ap (λ (z : Version). z.key) r.2))
      | inr j ↦ vf_old q (in_without (of_pair t p) d'.view.versions q j) refl refl
    ]
version_from here input w d e (act_begin place rs d' r g) q h = vf_old q h refl refl
version_from here input w d e (act_mark l t d' rd) q h = vf_old q h refl refl
version_from here input w d e (act_put n z y d' o g) q h = vf_old q h refl refl
version_from here input w d e (act_request n l to z d' o g) q h = vf_old q h refl refl
version_from here input w d e (act_ask n lc p z d' o f l g) q h = vf_old q h refl refl
version_from here input w d e (act_ack n lc from tx p ts parts z d' o c r g) q h = vf_old q h refl refl
version_from here input w d e (act_close n z d' o p none) q h = vf_old q h refl refl
version_from here input w d e (act_refuse a u l d' g m) q h = vf_old q h refl refl
version_from here input w d e (act_wait s d' g) q h = vf_old q h refl refl
version_from here input w d e (act_unwait kept more s d' g) q h = vf_old q h refl refl
version_from here input w d e (act_reply tx l rs v u fc d' g) q h = vf_old q h refl refl

module _ (scene : Scene) (s : Stage) (i : ℕ) (v : View) (input : Input) (is : slice_get s.nodes i ≡ Some v) (seen : IsSeen s input) (d e : Doing) (w : Where)
    (act : Act (at_place scene i) input w d e) (kept : Written (during s i d)) where
  here_d : slice_get (slice_set s.nodes i d.view) i ≡ Some d.view
  here_d = get_set s.nodes i v d.view is

  here_e : slice_get (slice_set s.nodes i e.view) i ≡ Some e.view
  here_e = get_set s.nodes i v e.view is

  lift_w : (u : TxId) (k : KeyId) → WroteIn (during s i d) u k → WroteIn (during s i e) u k
  unfolding here_e
  lift_w u k c =
      elim (got_set s.nodes i c.node d.view c.view c.there) [
        | inl r ↦ (let y = wrote-act (at_place scene i) input w d e act c.place c.own k (subst (λ (z : View). Owns z c.place c.own) r.1 c.owns) c.wrote in
            record { node = i; at_node = c.at_node ∙ ap (λ n. n + 1) r.0; place = c.place; at_place_ = c.at_place_; view = e.view; there = here_e; own = y.0; owns = y.1; wrote = y.2 })
        | inr r ↦ record {
          node = c.node;
          at_node = c.at_node;
          place = c.place;
          at_place_ = c.at_place_;
          view = c.view;
          there = get_set_other s.nodes i c.node e.view r.0 ∙ r.1;
          own = c.own;
          owns = c.owns;
          wrote = c.wrote;
        }
      ]

  own_w : (u : TxId) (n : ℕ) (x : Own) (y : Write) (k : KeyId) → u ≡ name_of (at_place scene i) n → Owns d.view n x → In y x.writes → y.key ≡ k → WroteIn (during s i e) u k
  unfolding here_d
  own_w u n x y k name own m key =
      lift_w u k (record { node = i; at_node = ap (λ (z : TxId). z.node.0) name; place = n; at_place_ = ap (λ (z : TxId). z.seq) name; view = d.view; there = here_d; own = x; owns = own; wrote = (y, m, key) })

  given : (m : Message) → input ≡ Deliver m → In m (s.sent ++ d.sent)
  given m q = let t : Sent s m = subst (IsSeen s) q seen in in_left s.sent d.sent m (in_at s.sent t.0 m t.1)

  here_w : (a : Arrived) (y : Write) → IsHere (at_place scene i) input d a → In y a.writes → WroteIn (during s i e) a.tx y.key
  unfolding here_d
  here_w a y (it_comes from c u p ms) m = lift_w a.tx y.key (kept.messages c.0 a.tx a.writes y (given c.0 c.1) (subst (λ b. AsksWrites b a.tx a.writes) (sym c.3) (refl, refl)) m)
  here_w a y (it_waits before after q) m = lift_w a.tx y.key (kept.held i d.view a y here_d (subst (In (Held a)) (sym q) (in_right before (Held a ∷ after) (Held a) (inl refl))) m)

  placed_w : (a : Arrived) (y : Write) → Placed (at_place scene i) input d a → In y a.writes → WroteIn (during s i e) a.tx y.key
  placed_w a y (by_master h) m = here_w a y h m
  placed_w a y (by_slave from c tk) m = lift_w a.tx y.key (kept.messages c.0 a.tx a.writes y (given c.0 c.1) (subst (λ b. AsksWrites b a.tx a.writes) (sym c.3) (refl, refl)) m)

  version_w : (q : Version) → VersionFrom (at_place scene i) input d q → WroteIn (during s i e) q.tx q.key
  unfolding here_d
  version_w q (vf_old u m t k) = subst₂ (λ a b. WroteIn (during s i e) a b) t k (lift_w u.tx u.key (kept.versions i d.view u here_d m))
  version_w q (vf_local n x y own m t k) = own_w q.tx n x y q.key t own m k
  version_w q (vf_pre a y p m t k) = subst₂ (λ b c. WroteIn (during s i e) b c) (sym t) k (placed_w a y p m)

  letter_w : (b : Body) (tx : TxId) (ws : List Write) (y : Write) → LetterFrom (at_place scene i) input d e b → AsksWrites b tx ws → In y ws → WroteIn (during s i e) tx y.key
  letter_w b tx ws y (lf_prepare n lc p x own op l f) h m =
      let k = subst (λ z. AsksWrites z tx ws) f h in
      own_w tx n x y y.key (sym k.0) own (in_filter (in_part scene p) x.writes y (subst (In y) (sym k.1) m)).0 refl
  letter_w b tx ws y (lf_replicate n lc p x own op l f) h m =
      let k = subst (λ z. AsksWrites z tx ws) f h in
      own_w tx n x y y.key (sym k.0) own (in_filter (in_part scene p) x.writes y (subst (In y) (sym k.1) m)).0 refl
  letter_w b tx ws y (lf_copy a g f) h m =
      let k = subst (λ z. AsksWrites z tx ws) f h in subst (λ t. WroteIn (during s i e) t y.key) k.0 (here_w a y g (subst (In y) (sym k.1) m))
  letter_w b tx ws y (lf_commit n gc q ns f g) h m = absurd (subst (λ z. AsksWrites z tx ws) f h)
  letter_w b tx ws y (lf_request n l x own f) h m = absurd (subst (λ z. AsksWrites z tx ws) f h)
  letter_w b tx ws y (lf_reply t l rs a by gc g f) h m = absurd (subst (λ z. AsksWrites z tx ws) f h)
  letter_w b tx ws y (lf_refuse a by l g t f) h m = absurd (subst (λ z. AsksWrites z tx ws) f h)
  letter_w b tx ws y (lf_ack t q ts f) h m = absurd (subst (λ z. AsksWrites z tx ws) f h)
  letter_w b tx ws y (lf_abort t q f) h m = absurd (subst (λ z. AsksWrites z tx ws) f h)

  held_w : (a : Arrived) (y : Write) → WaitStep (at_place scene i) input d e → In (Held a) e.view.waiters → In y a.writes → WroteIn (during s i e) a.tx y.key
  unfolding here_d
  held_w a y (w_fewer f) h m = lift_w a.tx y.key (kept.held i d.view a y here_d (f (Held a) h) m)
  held_w a y (w_more r c q) h m =
      elim (in_append d.view.waiters (r ∷ []) (Held a) (subst (In (Held a)) q h)) [
        | inl j ↦ lift_w a.tx y.key (kept.held i d.view a y here_d j m)
        | inr j ↦ (elim j [ inl g ↦ arrived r c g | inr z ↦ absurd z ])
      ]
    where
      arrived : (r : Waiter) → Arrives (at_place scene i) input d r → r ≡ Held a → WroteIn (during s i e) a.tx y.key
      arrived r (a_read from t l us c) g = absurd (cc g)
      arrived r (a_prepare from b c u z ms) g =
          let same : b ≡ a = cc g in
          lift_w a.tx y.key (kept.messages c.0 a.tx a.writes y (given c.0 c.1) (subst (λ (z : Arrived). AsksWrites c.0.body z.tx z.writes) same (subst (λ k. AsksWrites k b.tx b.writes) (sym c.3) (refl, refl))) m)

  pub written-act : Written (during s i e)
  written-act = record {
    versions = λ n z q g m. elim (got_set s.nodes i n e.view z g) [
      | inl r ↦ version_w q (version_from (at_place scene i) input w d e act q (subst (λ (y : View). In q y.versions) r.1 m))
      | inr r ↦ lift_w q.tx q.key (kept.versions n z q (get_set_other s.nodes i n d.view r.0 ∙ r.1) m)
    ];
    messages = λ m tx ws y h a j. elim (in_append s.sent e.sent m h) [
      | inl k ↦ lift_w tx y.key (kept.messages m tx ws y (in_left s.sent d.sent m k) a j)
      | inr k ↦ (elim (letter-act (at_place scene i) input w d e act m k) [ inl o ↦ lift_w tx y.key (kept.messages m tx ws y (in_right s.sent d.sent m o) a j) | inr l ↦ letter_w m.body tx ws y l.from a j ])
    ];
    held = λ n z a y g h m. elim (got_set s.nodes i n e.view z g) [
      | inl r ↦ held_w a y (wait_step (at_place scene i) input w d e act) (subst (λ (u : View). In (Held a) u.waiters) r.1 h) m
      | inr r ↦ lift_w a.tx y.key (kept.held n z a y (get_set_other s.nodes i n d.view r.0 ∙ r.1) h m)
    ];
  }

pub written_opening : (scene : Scene) → Written (stage_of (opening scene))
written_opening scene =
    record {
      versions = λ n z q g m. absurd (subst (λ (y : View). In q y.versions) (got_replicate scene.nodes n (opening_view scene) z g) m);
      messages = λ m tx ws y h a j. absurd h;
      held = λ n z a y g h m. absurd (subst (λ (u : View). In (Held a) u.waiters) (got_replicate scene.nodes n (opening_view scene) z g) h);
    }
