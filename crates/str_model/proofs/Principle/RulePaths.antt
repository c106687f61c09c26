-- The rule of each input is a path of single changes.
use Rattle.partition_map.proofs.Proper.{at_nth}
use Rattle.std.proofs.Common.{Bool, [], eqb-true, ◌∷◌, List, None, Option, Some, ap, arith, false, length, nat_lt, not, refl, slice_get, subst, suc, sym, true, zero, ℕ, ◌&&◌, ◌+◌, ◌-◌, ◌||◌, ◌≡◌, ◌≢◌}
use Rattle.std.specs.List.{list_any}
use Rattle.partition_map.specs.declared.rows.Asked.{Asked}
use Rattle.str_base.specs.declared.names.Cause.{Cause}
use Rattle.str_base.specs.declared.names.Cause.TheVariants.{Conflict as ByConflict}
use Rattle.str_base.specs.declared.names.KeyId.{KeyId}
use Rattle.str_base.specs.declared.names.NodeId.{NodeId}
use Rattle.str_scene.specs.declared.names.Op.{Op}
use Rattle.str_base.specs.declared.names.PartId.{PartId}
use Rattle.str_base.specs.declared.names.SessionId.{SessionId}
use Rattle.str_base.specs.declared.names.Ts.{Ts}
use Rattle.str_base.specs.declared.names.TxId.{TxId}
use Rattle.str_scene.specs.declared.names.TxPlace.{TxPlace}
use Rattle.str_base.specs.declared.names.Value.{Value}
use Rattle.str_base.specs.declared.names.Version.{Version}
use Rattle.str_base.specs.declared.names.Write.{Write}
use Rattle.str_model.specs.declared.messages.Arrived.{Arrived}
use Rattle.str_model.specs.declared.messages.Body.{Body}
use Rattle.str_model.specs.declared.messages.Body.TheVariants.{Abort, Ack, Commit, Prepare, ReadReply, ReadReq, Refuse as Refusal, Replicate}
use Rattle.str_model.specs.declared.messages.Input.{Input}
use Rattle.str_model.specs.declared.messages.Input.TheVariants.{Client, Deliver}
use Rattle.str_model.specs.declared.messages.Waiter.TheVariants.{Held}
use Rattle.str_model.specs.Acts.{abort_came, aborted, commit_came, in_phase, marked, taken}
use Rattle.str_model.specs.Arrivals.{held_key}
use Rattle.str_model.specs.Arrivals
use Rattle.str_model.specs.Clients
use Rattle.str_model.specs.Proposals.{Accept, Ignore, MasterTurn, Park, Refuse, master_turn, prepare_turn, proposed, takes, ts_limit}
use Rattle.str_model.specs.Proposals
use Rattle.str_model.specs.Returns.{has_asked, with_ack}
use Rattle.str_model.specs.Returns
use Rattle.str_scene.specs.Scenes.{Here, Session, hosts, hosts_key, is_master, nth}
use Rattle.str_model.specs.Scripts.{own_op}
use Rattle.str_model.specs.Scripts
use Rattle.str_model.specs.Steps.{decides, drop_held}
use Rattle.str_model.specs.Steps
use Rattle.str_model.specs.Strange
use Rattle.str_model.specs.Turns.{Give, ServeTurn, ServeWait, serve_turn}
use Rattle.str_base.specs.Versions.{of_pair, of_tx, same_key, same_node, stamp, without}
use Rattle.str_model.specs.Views.{Aborted, Active, Committed, Doing, Global, Own, Phase, Remote, Reply, is_decided, name_of, put}
use Rattle.str_model.proofs.Principle.EvictionsClear.{all_evicted}
use Rattle.str_model.proofs.Principle.SingleChanges.{Comes, InRule, IsOwn, NextPlace, NoneHeld, Path, PathTo, Takes, Touches, Where, a_prepare, a_read, act_abort, act_abort_came, act_accept, act_ack, act_begin, act_commit_came, act_mark, act_put, act_refuse, act_reply, act_take, act_wait, and_then, by_eviction, by_refusal, ch_reply, is_first, is_next, it_comes, more, one, stay, asked_now, JustMarked, far_reading}
use Rattle.str_model.proofs.Changes.SnapshotsGain.{if_elim}
use Rattle.str_model.proofs.Principle.OwnPaths.{IsFresh, at_own-path, free_at, just_marked, nor_left, nor_right, op_or_commit-path, phase-goes}
use Rattle.std.proofs.lemmas.Bool.{not-true}
use Rattle.str_base.proofs.Tests.{and_true_left, and_true_right, or_false_left, or_false_right}

pub none_of_three : (a b c d : Bool) → (a && (not b && (not c && not d))) ≡ true → (b ≡ false) × (c ≡ false) × (d ≡ false)
none_of_three false b c d e = absurd cc
none_of_three true true c d e = absurd cc
none_of_three true false true d e = absurd cc
none_of_three true false false d e = (refl, refl, not-true d e)

fewer : (p test : Version → Bool) (vs : List Version) → list_any p vs ≡ false → list_any p (without test vs) ≡ false
fewer p test [] e = refl
fewer p test (v ∷ vs) e =
    let rec : list_any p (without test vs) ≡ false = fewer p test vs (or_false_right (p v) (list_any p vs) e) in
    if_elim (λ xs. list_any p xs ≡ false) (not (test v)) (v ∷ without test vs) (without test vs) (λ q. rw (or_false_left (p v) (list_any p vs) e) rec) (λ q. rec)

-- what was not known is not known among fewer versions
fewer-known : (p test : Version → Bool) (vs : List Version) (b : Bool) → (b || list_any p vs) ≡ false → (b || list_any p (without test vs)) ≡ false
fewer-known p test vs true e = absurd cc
fewer-known p test vs false e = fewer p test vs e

-- what stands at a place counted from 1 has a place above 0
from_one : {X : Type 0} (xs : List X) (n : ℕ) (x : X) → nth xs n ≡ Some x → n ≡ (n - 1) + 1
from_one xs zero x e = absurd cc
from_one xs (suc i) x e = omega arith

-- the own transaction that a message names
pub named_owns : (here : Here) (tx : TxId) (d : Doing) (x : Own) → Returns.own_named here tx d ≡ Some x → slice_get d.view.own (tx.seq - 1) ≡ Some x
named_owns here tx d x =
    if_elim (λ o. o ≡ Some x → slice_get d.view.own (tx.seq - 1) ≡ Some x) (same_node tx.node here.node) (nth d.view.own tx.seq) None
    (λ e h. at_nth d.view.own tx.seq x h) (λ e h. absurd (cc h))

module _ (here : Here) (input : Input) (w : Where) where
  module _ (is_rule : w ≡ InRule) where
    touch : (i : ℕ) → Touches w i
    touch i = subst (λ (v : Where). Touches v i) (sym is_rule) tt

    -- ---- a client step

    begin-path : (place : TxPlace) (t : ℕ) (text : Session) (o : Option (List Op)) (d : Doing) → nth here.scene.sessions place.session.0 ≡ Some text
        → same_node text.node here.node ≡ true → nth text.txs place.index ≡ o → NextPlace d.view.own place → PathTo here input w d (Clients.begin here place t o d)
    begin-path place t text None d se ne sc nx = tt
    begin-path place t text (Some ops) d se ne sc nx =
        one (act_begin place _ d is_rule (record { above = omega arith; most = omega arith; text = text; session = se; node = ne; ops = ops; script = sc; next = nx }))

    go_on-path : (s : SessionId) (t : ℕ) (text : Session) (i : ℕ) (x : Own) (p : Phase) (d : Doing) → nth here.scene.sessions s.0 ≡ Some text
        → same_node text.node here.node ≡ true → Clients.last_index (Clients.of_session s) d.view.own ≡ Some i → IsOwn w d i x → x.phase ≡ p
        → PathTo here input w d (Clients.go_on here s t text i x p d)
    go_on-path s t text i x Active d se ne la own e = op_or_commit-path here input w i x (own_op here x) d (free_at w d i x Active own e refl refl) e refl
    go_on-path s t text i x (Committed lc fc) d se ne la own e =
        begin-path (Clients.place_in s (x.place.index + 1)) t text (nth text.txs (x.place.index + 1)) d se ne refl (is_next i x la own.0 (ap is_decided e) refl)
    go_on-path s t text i x (Aborted lc cause) d se ne la own e =
        begin-path (Clients.place_in s (x.place.index + 1)) t text (nth text.txs (x.place.index + 1)) d se ne refl (is_next i x la own.0 (ap is_decided e) refl)
    go_on-path s t text i x _ d se ne la own e = tt

    go_on_at-path : (s : SessionId) (t : ℕ) (text : Session) (i : ℕ) (o : Option Own) (d : Doing) → nth here.scene.sessions s.0 ≡ Some text
        → same_node text.node here.node ≡ true → Clients.last_index (Clients.of_session s) d.view.own ≡ Some i → slice_get d.view.own i ≡ o
        → PathTo here input w d (Clients.go_on_at here s t text i o d)
    go_on_at-path s t text i None d se ne la e = tt
    go_on_at-path s t text i (Some x) d se ne la e = go_on-path s t text i x x.phase d se ne la (e, touch i) refl

    go_on_last-path : (s : SessionId) (t : ℕ) (text : Session) (o : Option ℕ) (d : Doing) → nth here.scene.sessions s.0 ≡ Some text
        → same_node text.node here.node ≡ true → Clients.last_index (Clients.of_session s) d.view.own ≡ o → PathTo here input w d (Clients.go_on_last here s t text o d)
    go_on_last-path s t text None d se ne la = begin-path (Clients.place_in s 1) t text (nth text.txs 1) d se ne refl (is_first la refl)
    go_on_last-path s t text (Some i) d se ne la = go_on_at-path s t text i (slice_get d.view.own i) d se ne la refl

    in_session-path : (s : SessionId) (t : ℕ) (o : Option Session) (d : Doing) → nth here.scene.sessions s.0 ≡ o → PathTo here input w d (Clients.in_session here s t o d)
    in_session-path s t None d se = tt
    in_session-path s t (Some text) d se =
        if_elim (PathTo here input w d) (same_node text.node here.node)
        (Clients.go_on_last here s t text (Clients.last_index (Clients.of_session s) d.view.own) d) None
        (λ e. go_on_last-path s t text (Clients.last_index (Clients.of_session s) d.view.own) d se e refl) (λ e. tt)

    pub client_rule-path : (s : SessionId) (t : ℕ) (d : Doing) → PathTo here input w d (Clients.client_rule here s t d)
    unfolding Clients.client_rule
    client_rule-path s t d = in_session-path s t (nth here.scene.sessions s.0) d refl

    -- ---- a message

    serve_done-path : (from : NodeId) (tx : TxId) (k : KeyId) (rs : ℕ) (turn : ServeTurn) (d : Doing) → Comes here input from (ReadReq tx k (stamp rs)) → JustMarked d.view k rs → hosts_key here k ≡ true
        → serve_turn d.view.versions k rs ≡ turn → Path here input w d (Arrivals.serve_done here tx k rs turn d)
    serve_done-path from tx k rs (Give v by fc) d c j z e = one (act_reply tx k rs v by fc d (record { gives = e; was_asked = asked_now from (stamp rs) refl (c.0, c.1, c.2, c.3, c.4, j, z) }))
    serve_done-path from tx k rs (ServeWait by) d c j z e = one (act_wait _ d (a_read from tx k (stamp rs) (c.0, c.1, c.2, c.3, c.4, j, z)))

    read_req-path : (from : NodeId) (tx : TxId) (k : KeyId) (rs : ℕ) (d : Doing) → Comes here input from (ReadReq tx k (stamp rs)) → PathTo here input w d (Arrivals.read_req here tx k rs d)
    unfolding Arrivals.read_req marked
    read_req-path from tx k rs d c =
        if_elim (PathTo here input w d)
        (hosts_key here k && (not (same_node tx.node here.node) && not (list_any (Arrivals.waits_read tx k) d.view.waiters)))
        (Some (Arrivals.serve_done here tx k rs (serve_turn d.view.versions k rs) (marked k rs d))) None
        (λ e. and_then d (marked k rs d) _ (one (act_mark k rs d (far_reading from tx (stamp rs) refl c))) (serve_done-path from tx k rs (serve_turn d.view.versions k rs) (marked k rs d) c (just_marked k rs d) (and_true_left (hosts_key here k) _ e) refl)) (λ e. tt)

    own_named-is : (tx : TxId) (d : Doing) (x : Own) → Returns.own_named here tx d ≡ Some x → IsOwn w d (tx.seq - 1) x
    own_named-is tx d x h = (named_owns here tx d x h, touch (tx.seq - 1))

    reply_phase-path : (from : NodeId) (tx : TxId) (x : Own) (k : KeyId) (v : Value) (by : Option TxId) (fc : Ts) (p : Phase) (d : Doing) → Comes here input from (ReadReply tx k v by fc)
        → Returns.own_named here tx d ≡ Some x → IsOwn w d (tx.seq - 1) x → x.phase ≡ p → PathTo here input w d (Returns.reply_phase (tx.seq - 1) x k v by fc.0 p d)
    reply_phase-path from tx x k v by fc (Remote l) d c n own e =
        let i : ℕ = tx.seq - 1 in
        if_elim (PathTo here input w d) (same_key l k) (Some (put i (in_phase (Reply k v by fc.0) x) d)) None
        (λ h. one (act_put i x _ d own (record {
          goes = phase-goes w d i x (Reply k v by fc.0) (free_at w d i x (Remote l) own e refl refl) refl refl;
          change = ch_reply from tx l k v by fc c n refl e h;
        }))) (λ h. tt)
    reply_phase-path from tx x k v by fc _ d c n own e = tt

    reply_own-path : (from : NodeId) (tx : TxId) (k : KeyId) (v : Value) (by : Option TxId) (fc : Ts) (o : Option Own) (d : Doing) → Comes here input from (ReadReply tx k v by fc)
        → Returns.own_named here tx d ≡ o → PathTo here input w d (Returns.reply_own (tx.seq - 1) k v by fc.0 o d)
    reply_own-path from tx k v by fc None d c n = tt
    reply_own-path from tx k v by fc (Some x) d c n = reply_phase-path from tx x k v by fc x.phase d c n (own_named-is tx d x n) refl

    read_reply-path : (from : NodeId) (tx : TxId) (k : KeyId) (v : Value) (by : Option TxId) (fc : Ts) (d : Doing) → Comes here input from (ReadReply tx k v by fc)
        → PathTo here input w d (Returns.read_reply here tx k v by fc.0 d)
    unfolding Returns.read_reply
    read_reply-path from tx k v by fc d c = reply_own-path from tx k v by fc (Returns.own_named here tx d) d c refl

    master_done-path : (from : NodeId) (a : Arrived) (turn : MasterTurn) (d : Doing) → Comes here input from (Prepare a.tx a.part a.rs a.lc a.writes)
        → (turn ≢ Ignore → IsFresh here d a turn) → PathTo here input w d (Arrivals.master_done here a turn d)
    master_done-path from a (Accept ts) d c e = let f = e (λ q. cc) in one (act_accept a ts d (it_comes from c f.unknown f.unparked f.mine) f.is)
    master_done-path from a (Refuse u k) d c e = let f = e (λ q. cc) in one (act_refuse a u k d (it_comes from c f.unknown f.unparked f.mine) f.is)
    master_done-path from a (Park u) d c e = let f = e (λ q. cc) in one (act_wait (Held a) d (a_prepare from a c f.unknown f.unparked f.mine))
    master_done-path from a Ignore d c e = tt

    prepare_turn-is : (a : Arrived) (d : Doing) → prepare_turn here d.view a ≢ Ignore → IsFresh here d a (prepare_turn here d.view a)
    unfolding prepare_turn
    prepare_turn-is a d =
        if_elim (λ t. t ≢ Ignore → IsFresh here d a t)
        (is_master here.scene here.node a.part && (not (same_node a.tx.node here.node) && not (Proposals.is_known d.view a.tx a.part || Proposals.is_parked d.view a.tx a.part)))
        (master_turn d.view a) Ignore
        (λ e h. let n = and_true_right _ _ (and_true_right _ _ e) in
        record { is = refl; unknown = nor_left (Proposals.is_known d.view a.tx a.part) (Proposals.is_parked d.view a.tx a.part) n; unparked = nor_right (Proposals.is_known d.view a.tx a.part) (Proposals.is_parked d.view a.tx a.part) n; mine = record { master = and_true_left _ _ e; foreign = not-true (same_node a.tx.node here.node) (and_true_left _ _ (and_true_right _ _ e)) } })
        (λ e h. absurd (h refl))

    prepare_rule-path : (from : NodeId) (a : Arrived) (d : Doing) → Comes here input from (Prepare a.tx a.part a.rs a.lc a.writes) → PathTo here input w d (Arrivals.prepare_rule here a d)
    unfolding Arrivals.prepare_rule
    prepare_rule-path from a d c = master_done-path from a (prepare_turn here d.view a) d c (prepare_turn-is a d)

    -- ---- evictions

    pub evict_at-path : (a : Arrived) (from : NodeId) (i : ℕ) (x : Own) (o : Option Write) (d : Doing) → Comes here input from (Replicate a.tx a.part a.rs a.lc a.writes)
        → IsOwn w d i x → is_decided x.phase ≡ false → Path here input w d (Arrivals.evict_at here a i x o d)
    evict_at-path a from i x None d c own f = stay d
    evict_at-path a from i x (Some w) d c own f = one (act_abort i _ x d own f (by_eviction from a w c))

    pub evict-path : (a : Arrived) (from : NodeId) (n : ℕ) (d : Doing) → Comes here input from (Replicate a.tx a.part a.rs a.lc a.writes)
        → Path here input w d (Arrivals.evict here a n d)
    evict-path a from zero d c = stay d
    evict-path a from (suc i) d c =
        let e : Doing = Arrivals.evict here a i d in
        and_then d e (Scripts.at_own i (Arrivals.evict_own here a i) e) (evict-path a from i d c)
        (at_own-path here input w i (Arrivals.evict_own here a i) e (touch i) (λ x own f. evict_at-path a from i x (held_key e.view.versions (name_of here i) a.writes) e c own f))

    -- an eviction makes no pair known
    abbrev Unknown : Arrived → Doing → Type 0
    Unknown a d = Proposals.is_known d.view a.tx a.part ≡ false

    aborted-unknown : (a : Arrived) (i : ℕ) (cause : Cause) (x : Own) (d : Doing) → Unknown a d → Unknown a (aborted here i cause x d)
    unfolding aborted
    aborted-unknown a i cause x d h = fewer-known (of_pair a.tx a.part) (of_tx (name_of here i)) d.view.versions (Proposals.is_done d.view a.tx a.part) h

    evict_at-unknown : (a : Arrived) (i : ℕ) (x : Own) (o : Option Write) (d : Doing) → Unknown a d → Unknown a (Arrivals.evict_at here a i x o d)
    evict_at-unknown a i x None d h = h
    evict_at-unknown a i x (Some w) d h = aborted-unknown a i (ByConflict a.tx w.key here.node) x d h

    evict_own-unknown : (a : Arrived) (i : ℕ) (o : Option Own) (d : Doing) → Unknown a d → Unknown a (Scripts.of_own (Arrivals.evict_own here a i) o d)
    evict_own-unknown a i None d h = h
    evict_own-unknown a i (Some x) d h = by_phase (is_decided x.phase)
      where
        by_phase : (b : Bool) → Unknown a (Scripts.unless_decided b (Arrivals.evict_own here a i x) d)
        by_phase true = h
        by_phase false = evict_at-unknown a i x (held_key d.view.versions (name_of here i) a.writes) d h

    pub evict-unknown : (a : Arrived) (n : ℕ) (d : Doing) → Unknown a d → Unknown a (Arrivals.evict here a n d)
    evict-unknown a zero d h = h
    evict-unknown a (suc i) d h =
        let e : Doing = Arrivals.evict here a i d in evict_own-unknown a i (slice_get e.view.own i) e (evict-unknown a i d h)

    take_if-path : (a : Arrived) (from : NodeId) (d e : Doing) → Comes here input from (Replicate a.tx a.part a.rs a.lc a.writes) → NoneHeld here a e (λ i. Unit {0})
        → Path here input w d e → Unknown a e → is_master here.scene here.node a.part ≡ false → same_node a.tx.node here.node ≡ false → hosts here.scene here.node a.part ≡ true → PathTo here input w d (Arrivals.take_if here a e)
    take_if-path a from d e c n p u s f o =
        if_elim (PathTo here input w d) (nat_lt (proposed e.view a) ts_limit) (Some (taken here a (proposed e.view a) e)) None
        (λ h. more d e _ p (act_take from a e c (record { below = h; unknown = u; slave = s; hosted = o; foreign = f; none_held = n }))) (λ h. tt)

    replicate_rule-path : (a : Arrived) (from : NodeId) (d : Doing) → Comes here input from (Replicate a.tx a.part a.rs a.lc a.writes)
        → PathTo here input w d (Arrivals.replicate_rule here a d)
    unfolding Arrivals.replicate_rule takes
    replicate_rule-path a from d c =
        if_elim (PathTo here input w d) (takes here d.view a) (Arrivals.take_if here a (Arrivals.evict here a (length d.view.own) d)) None
        (λ h. let n = none_of_three (hosts here.scene here.node a.part) (is_master here.scene here.node a.part) (same_node a.tx.node here.node) (Proposals.is_known d.view a.tx a.part) h in
        take_if-path a from d (Arrivals.evict here a (length d.view.own) d) c (all_evicted here a d) (evict-path a from (length d.view.own) d c) (evict-unknown a (length d.view.own) d n.2) n.0 n.1
        (and_true_left (hosts here.scene here.node a.part) (not (is_master here.scene here.node a.part) && (not (same_node a.tx.node here.node) && not (Proposals.is_known d.view a.tx a.part))) h)) (λ h. tt)

    -- what a slave takes is new at it, once its own writers of the keys are evicted
    pub takes_at : (a : Arrived) (d : Doing) → takes here d.view a ≡ true → nat_lt (proposed (Arrivals.evict here a (length d.view.own) d).view a) ts_limit ≡ true
        → Takes here (Arrivals.evict here a (length d.view.own) d) a
    unfolding takes
    takes_at a d h below =
        let n = none_of_three (hosts here.scene here.node a.part) (is_master here.scene here.node a.part) (same_node a.tx.node here.node) (Proposals.is_known d.view a.tx a.part) h in
        record {
          below = below;
          unknown = evict-unknown a (length d.view.own) d n.2;
          slave = n.0;
          foreign = n.1;
          none_held = all_evicted here a d;
          hosted = and_true_left (hosts here.scene here.node a.part) (not (is_master here.scene here.node a.part) && (not (same_node a.tx.node here.node) && not (Proposals.is_known d.view a.tx a.part))) h;
        }

    -- ---- answers of participants

    ack_kept-path : (i lc : ℕ) (x : Own) (from : NodeId) (tx : TxId) (p : PartId) (ts : Ts) (o : Option (List Asked)) (d : Doing) → IsOwn w d i x → tx ≡ name_of here i
        → Comes here input from (Ack tx p ts) → x.phase ≡ Global lc → with_ack x.parts p from ts.0 ≡ o → PathTo here input w d (Returns.ack_kept i x o d)
    ack_kept-path i lc x from tx p ts None d own n c e q = tt
    ack_kept-path i lc x from tx p ts (Some parts) d own n c e q = one (act_ack i lc from tx p ts parts x d own c e (record { named = n; parts_are = q }))

    ack_phase-path : (i : ℕ) (x : Own) (from : NodeId) (tx : TxId) (p : PartId) (ts : Ts) (ph : Phase) (d : Doing) → IsOwn w d i x → tx ≡ name_of here i → Comes here input from (Ack tx p ts)
        → x.phase ≡ ph → PathTo here input w d (Returns.ack_phase i x from p ts.0 ph d)
    ack_phase-path i x from tx p ts (Global lc) d own n c e = ack_kept-path i lc x from tx p ts (with_ack x.parts p from ts.0) d own n c e refl
    ack_phase-path i x from tx p ts _ d own n c e = tt

    ack_own-path : (i : ℕ) (from : NodeId) (tx : TxId) (p : PartId) (ts : Ts) (o : Option Own) (d : Doing) → Comes here input from (Ack tx p ts)
        → ((x : Own) → o ≡ Some x → IsOwn w d i x × (tx ≡ name_of here i)) → PathTo here input w d (Returns.ack_own i from p ts.0 o d)
    ack_own-path i from tx p ts None d c own = tt
    ack_own-path i from tx p ts (Some x) d c own = let h = own x refl in ack_phase-path i x from tx p ts x.phase d h.0 h.1 c refl

    -- the transaction that a message names is the one of that number
    named-is : (tx : TxId) (d : Doing) (x : Own) → Returns.own_named here tx d ≡ Some x → tx ≡ name_of here (tx.seq - 1)
    named-is tx d x =
        if_elim (λ o. o ≡ Some x → tx ≡ name_of here (tx.seq - 1)) (same_node tx.node here.node) (nth d.view.own tx.seq) None
        (λ e h. let node : tx.node.0 ≡ here.node.0 = eqb-true tx.node.0 here.node.0 e in
        let seq : tx.seq ≡ (tx.seq - 1) + 1 = from_one d.view.own tx.seq x h in λ j. record { node = record { 0 = node j }; seq = seq j })
        (λ e h. absurd (cc h))

    ack_rule-path : (from : NodeId) (tx : TxId) (p : PartId) (ts : Ts) (d : Doing) → Comes here input from (Ack tx p ts) → PathTo here input w d (Returns.ack_rule here from tx p ts.0 d)
    unfolding Returns.ack_rule
    ack_rule-path from tx p ts d c =
        ack_own-path (tx.seq - 1) from tx p ts (Returns.own_named here tx d) d c (λ x e. (own_named-is tx d x e, named-is tx d x e))

    refuse_phase-path : (i : ℕ) (x : Own) (from : NodeId) (t : TxId) (p : PartId) (u : TxId) (k : KeyId) (ph : Phase) (d : Doing)
        → Comes here input from (Refusal t p u k) → IsOwn w d i x → x.phase ≡ ph → PathTo here input w d (Returns.refuse_phase here i x from p u k ph d)
    refuse_phase-path i x from t p u k (Global lc) d c own e =
        if_elim (PathTo here input w d) (has_asked x.parts p && is_master here.scene from p)
        (Some (aborted here i (ByConflict u k from) x d)) None
        (λ h. one (act_abort i _ x d own (ap is_decided e) (by_refusal from t p u k c))) (λ h. tt)
    refuse_phase-path i x from t p u k _ d c own e = tt

    refuse_own-path : (i : ℕ) (from : NodeId) (t : TxId) (p : PartId) (u : TxId) (k : KeyId) (o : Option Own) (d : Doing)
        → Comes here input from (Refusal t p u k) → ((x : Own) → o ≡ Some x → IsOwn w d i x) → PathTo here input w d (Returns.refuse_own here i from p u k o d)
    refuse_own-path i from t p u k None d c own = tt
    refuse_own-path i from t p u k (Some x) d c own = refuse_phase-path i x from t p u k x.phase d c (own x refl) refl

    refuse_rule-path : (from : NodeId) (tx : TxId) (p : PartId) (u : TxId) (k : KeyId) (d : Doing) → Comes here input from (Refusal tx p u k)
        → PathTo here input w d (Returns.refuse_rule here from tx p u k d)
    unfolding Returns.refuse_rule
    refuse_rule-path from tx p u k d c = refuse_own-path (tx.seq - 1) from tx p u k (Returns.own_named here tx d) d c (own_named-is tx d)

    -- ---- the rule of an input

    body_rule-path : (from : NodeId) (body : Body) (d : Doing) → Comes here input from body → PathTo here input w d (Steps.body_rule here from body d)
    body_rule-path from (ReadReq tx k rs) d c = read_req-path from tx k rs.0 d c
    body_rule-path from (ReadReply tx k v by fc) d c = read_reply-path from tx k v by fc d c
    body_rule-path from (Prepare tx p rs lc ws) d c = prepare_rule-path from (record { tx = tx; part = p; rs = rs; lc = lc; writes = ws }) d c
    body_rule-path from (Refusal tx p u k) d c = refuse_rule-path from tx p u k d c
    body_rule-path from (Replicate tx p rs lc ws) d c = replicate_rule-path (record { tx = tx; part = p; rs = rs; lc = lc; writes = ws }) from d c
    body_rule-path from (Ack tx p ts) d c = ack_rule-path from tx p ts d c
    body_rule-path from (Commit tx p fc ms) d c =
        if_elim (PathTo here input w d) (decides here tx p d.view) (Some (commit_came tx p fc.0 ms d)) None
        (λ h. one (act_commit_came from tx p fc ms d c h)) (λ h. tt)
    body_rule-path from (Abort tx p) d c =
        if_elim (PathTo here input w d) (decides here tx p d.view) (Some (abort_came tx p (drop_held tx p d.view.waiters) d)) None
        (λ h. one (act_abort_came from tx p d c h)) (λ h. tt)

    rule_of-path : (i : Input) (d : Doing) → input ≡ i → PathTo here input w d (Steps.rule here i d)
    unfolding Steps.rule
    rule_of-path (Client s t) d e = client_rule-path s t d
    rule_of-path (Deliver m) d e =
        if_elim (PathTo here input w d) (Strange.is_valid here m) (Steps.body_rule here m.sender m.body d) None
        (λ h. body_rule-path m.sender m.body d (m, e, refl, refl, h)) (λ h. tt)

    pub rule-path : (d : Doing) → PathTo here input w d (Steps.rule here input d)
    rule-path d = rule_of-path input d refl
