-- What the rule of an input does to own transactions: a client step works on one of them, and all else is calm.
use Rattle.std.proofs.Common.{Bool, List, None, Option, Some, [], ap, false, inl, inr, length, max, min, nat_lt, not, refl, slice_get, slice_set, subst, suc, sym, true, zero, ℕ, ◌&&◌, ◌+◌, ◌-◌, ◌∙◌, ◌∷◌, ◌≡◌, ◌⊎◌}
use Rattle.std.specs.List.{list_any}
use Rattle.partition_map.specs.declared.rows.Asked.{Asked}
use Rattle.spsi_laws.proofs.Pairs.ReadsBefore.{Calm, calm_same}
use Rattle.str_base.specs.declared.names.Cause.TheVariants.{Conflict as ByConflict}
use Rattle.str_base.specs.declared.names.KeyId.{KeyId}
use Rattle.str_base.specs.declared.names.NodeId.{NodeId}
use Rattle.str_base.specs.declared.names.PartId.{PartId}
use Rattle.str_base.specs.declared.names.TxId.{TxId}
use Rattle.str_base.specs.declared.names.Value.{Value}
use Rattle.str_base.specs.declared.names.Write.{Write}
use Rattle.str_base.specs.Versions.{same_key, same_node}
use Rattle.str_model.proofs.Principle.SingleChanges.{InTurn, Path}
use Rattle.str_model.proofs.Changes.SnapshotsGain.{Names, if_elim}
use Rattle.str_model.proofs.Principle.OwnPaths.{free_at, op_or_commit-path}
use Rattle.str_model.proofs.Principle.RulePaths.{named_owns}
use Rattle.str_model.specs.Acts.{abort_came, aborted, accepted, acked, begun, commit_came, decided_as, fresh, in_phase, marked, refused, replied, taken, waits}
use Rattle.str_model.specs.Arrivals.{held_key}
use Rattle.str_model.specs.Arrivals
use Rattle.str_model.specs.Clients
use Rattle.str_model.specs.Owned.{Owns}
use Rattle.str_model.specs.Proposals.{Accept, Ignore, MasterTurn, Park, Refuse, prepare_turn, proposed, takes, ts_limit}
use Rattle.str_model.specs.Returns.{has_asked, with_ack}
use Rattle.str_model.specs.Returns
use Rattle.str_model.specs.Scripts.{own_op}
use Rattle.str_model.specs.Scripts
use Rattle.str_model.specs.Steps.{decides, drop_held}
use Rattle.str_model.specs.Steps
use Rattle.str_model.specs.Strange
use Rattle.str_model.specs.Turns.{Give, ServeTurn, ServeWait, serve_turn}
use Rattle.str_model.specs.Views.{Aborted, Active, Committed, Doing, Global, Own, Phase, Remote, Reply, View, is_decided, lc_of, name_of, put}
use Rattle.str_model.specs.declared.messages.Arrived.{Arrived}
use Rattle.str_model.specs.declared.messages.Body.TheVariants.{Abort, Ack, Commit, Prepare, ReadReply, ReadReq, Refuse as Refusal, Replicate}
use Rattle.str_model.specs.declared.messages.Body.{Body}
use Rattle.str_model.specs.declared.messages.Input.TheVariants.{Client, Deliver}
use Rattle.str_model.specs.declared.messages.Input.{Input}
use Rattle.str_model.specs.declared.messages.Waiter.TheVariants.{Held}
use Rattle.str_scene.specs.Scenes.{Here, Session, hosts_key, is_master, nth}
use Rattle.str_scene.specs.declared.names.Op.{Op}
use Rattle.str_base.specs.declared.names.SessionId.{SessionId}
use Rattle.str_scene.specs.declared.names.TxPlace.{TxPlace}
use Rattle.str_base.proofs.Lists.{got_push, got_set}
use Rattle.str_base.specs.Members.{In}

-- a client step works on one own transaction as its turn does, or nothing is read and no dependency is gained
pub data Ruled (here : Here) (input : Input) (d r : Doing) : Type 0 where
  operates : (i : ℕ) (x : Own) → Owns d.view i x → Path here input (InTurn i) d r → Ruled here input d r
  is_calm : Calm d.view r.view → Ruled here input d r

abbrev pub RuledTo : Here → Input → Doing → Option Doing → Type 0
RuledTo here input d None = Unit {0}
RuledTo here input d (Some r) = Ruled here input d r

abbrev CalmTo : View → Option Doing → Type 0
CalmTo v None = Unit {0}
CalmTo v (Some r) = Calm v r.view

-- ---- what is calm

pub own_calm : (d e : View) → e.own ≡ d.own → Calm d e
own_calm d e q j y own op = calm_same d e j y (subst (λ (xs : List Own). slice_get xs j ≡ Some y) q own) op

pub calm_more : (a b c : View) → Calm a b → Calm b c → Calm a c
calm_more a b c f g j z own op = by_last (g j z own op)
  where
    by_last : ((y : Own) × Owns b j y × (is_decided y.phase ≡ false) × (z.reads ≡ y.reads) × ((seq : ℕ) → Names seq z.snap.deps → Names seq y.snap.deps)) ⊎ ((z.reads ≡ []) × (z.snap.deps ≡ []))
        → ((x : Own) × Owns a j x × (is_decided x.phase ≡ false) × (z.reads ≡ x.reads) × ((seq : ℕ) → Names seq z.snap.deps → Names seq x.snap.deps)) ⊎ ((z.reads ≡ []) × (z.snap.deps ≡ []))
    by_last (inr e) = inr e
    by_last (inl y) = elim (f j y.0 y.1 y.2) [
      | inl x ↦ inl (x.0, x.1, x.2, y.3 ∙ x.3, λ seq n. x.4 seq (y.4 seq n))
      | inr e ↦ inr (y.3 ∙ e.0, none y.0 y.4 e.1)
    ]
      where
        none : (y : Own) → ((seq : ℕ) → Names seq z.snap.deps → Names seq y.snap.deps) → y.snap.deps ≡ [] → z.snap.deps ≡ []
        none y h e = by_list z.snap.deps refl
          where
            by_list : (ds : List Rattle.dependency_set.specs.declared.names.Dep.Dep) → z.snap.deps ≡ ds → z.snap.deps ≡ []
            by_list [] q = q
            by_list (x ∷ xs) q = let n = h x.seq (x, subst (In x) (sym q) (inl refl), refl) in absurd (subst (In n.0) e n.1)

-- one own transaction is set, with its reads and no more dependencies
pub set_calm : (d e : View) (i : ℕ) (x y : Own) → Owns d i x → is_decided x.phase ≡ false → e.own ≡ slice_set d.own i y → y.reads ≡ x.reads → ((seq : ℕ) → Names seq y.snap.deps → Names seq x.snap.deps) → Calm d e
set_calm d e i x y own op q rd nm j z oz opz = elim (got_set d.own i j y z (subst (λ (xs : List Own). slice_get xs j ≡ Some z) q oz)) [
  | inl a ↦ inl (
    x,
    subst (λ (k : ℕ). Owns d k x) (sym a.0) own,
    op,
    ap (λ (u : Own). u.reads) a.1 ∙ rd,
    λ seq n. nm seq (subst (λ (u : Own). Names seq u.snap.deps) a.1 n),
  )
  | inr a ↦ calm_same d e j z a.1 opz
]

pub aborted_calm : (here : Here) (i : ℕ) (cause : Rattle.str_base.specs.declared.names.Cause.Cause) (x : Own) (d : Doing) → Owns d.view i x → is_decided x.phase ≡ false → Calm d.view (aborted here i cause x d).view
unfolding aborted
aborted_calm here i cause x d own op = set_calm d.view (aborted here i cause x d).view i x (decided_as (Aborted (lc_of x.phase) cause) x) own op refl refl (λ seq n. n)

module _ (here : Here) (input : Input) where
  -- ---- a client step

  begin-ruled : (place : TxPlace) (t : ℕ) (o : Option (List Op)) (d : Doing) → RuledTo here input d (Clients.begin here place t o d)
  unfolding begun
  begin-ruled place t None d = tt
  begin-ruled place t (Some ops) d =
      let rs : ℕ = max (min t Clients.reading_limit) d.view.floor in
      is_calm (λ j y own op. elim (got_push d.view.own j (fresh place rs) y own) [
        | inl a ↦ inr (ap (λ (u : Own). u.reads) a.1, ap (λ (u : Own). u.snap.deps) a.1)
        | inr a ↦ calm_same d.view d.view j y a op
      ])

  go_on-ruled : (s : SessionId) (t : ℕ) (text : Session) (i : ℕ) (x : Own) (p : Phase) (d : Doing) → Owns d.view i x → x.phase ≡ p → RuledTo here input d (Clients.go_on here s t text i x p d)
  go_on-ruled s t text i x Active d own e =
      operates i x own (op_or_commit-path here input (InTurn i) i x (own_op here x) d (free_at (InTurn i) d i x Active (own, refl) e refl refl) e refl)
  go_on-ruled s t text i x (Committed lc fc) d own e = begin-ruled (Clients.place_in s (x.place.index + 1)) t (nth text.txs (x.place.index + 1)) d
  go_on-ruled s t text i x (Aborted lc cause) d own e = begin-ruled (Clients.place_in s (x.place.index + 1)) t (nth text.txs (x.place.index + 1)) d
  go_on-ruled s t text i x _ d own e = tt

  go_on_at-ruled : (s : SessionId) (t : ℕ) (text : Session) (i : ℕ) (o : Option Own) (d : Doing) → slice_get d.view.own i ≡ o → RuledTo here input d (Clients.go_on_at here s t text i o d)
  go_on_at-ruled s t text i None d e = tt
  go_on_at-ruled s t text i (Some x) d e = go_on-ruled s t text i x x.phase d e refl

  go_on_last-ruled : (s : SessionId) (t : ℕ) (text : Session) (o : Option ℕ) (d : Doing) → RuledTo here input d (Clients.go_on_last here s t text o d)
  go_on_last-ruled s t text None d = begin-ruled (Clients.place_in s 1) t (nth text.txs 1) d
  go_on_last-ruled s t text (Some i) d = go_on_at-ruled s t text i (slice_get d.view.own i) d refl

  in_session-ruled : (s : SessionId) (t : ℕ) (o : Option Session) (d : Doing) → RuledTo here input d (Clients.in_session here s t o d)
  in_session-ruled s t None d = tt
  in_session-ruled s t (Some text) d =
      if_elim (RuledTo here input d) (same_node text.node here.node) (Clients.go_on_last here s t text (Clients.last_index (Clients.of_session s) d.view.own) d) None
      (λ e. go_on_last-ruled s t text (Clients.last_index (Clients.of_session s) d.view.own) d) (λ e. tt)

  client-ruled : (s : SessionId) (t : ℕ) (d : Doing) → RuledTo here input d (Clients.client_rule here s t d)
  unfolding Clients.client_rule
  client-ruled s t d = in_session-ruled s t (nth here.scene.sessions s.0) d

  -- ---- a message

  serve-same : (tx : TxId) (k : KeyId) (rs : ℕ) (turn : ServeTurn) (d : Doing) → (Arrivals.serve_done here tx k rs turn d).view.own ≡ d.view.own
  unfolding replied waits
  serve-same tx k rs (Give v by fc) d = refl
  serve-same tx k rs (ServeWait by) d = refl

  marked-same : (k : KeyId) (rs : ℕ) (d : Doing) → (marked k rs d).view.own ≡ d.view.own
  unfolding marked
  marked-same k rs d = refl

  read_req-calm : (tx : TxId) (k : KeyId) (rs : ℕ) (d : Doing) → CalmTo d.view (Arrivals.read_req here tx k rs d)
  unfolding Arrivals.read_req
  read_req-calm tx k rs d =
      let e : Doing = Arrivals.serve_done here tx k rs (serve_turn d.view.versions k rs) (marked k rs d) in
      if_elim (CalmTo d.view) (hosts_key here k && (not (same_node tx.node here.node) && not (list_any (Arrivals.waits_read tx k) d.view.waiters))) (Some e) None
      (λ h. own_calm d.view e.view (serve-same tx k rs (serve_turn d.view.versions k rs) (marked k rs d) ∙ marked-same k rs d)) (λ h. tt)

  reply_phase-calm : (i : ℕ) (x : Own) (k : KeyId) (v : Value) (by : Option TxId) (fc : ℕ) (p : Phase) (d : Doing) → Owns d.view i x → x.phase ≡ p → CalmTo d.view (Returns.reply_phase i x k v by fc p d)
  reply_phase-calm i x k v by fc (Remote l) d own e =
      if_elim (CalmTo d.view) (same_key l k) (Some (put i (in_phase (Reply k v by fc) x) d)) None
      (λ h. set_calm d.view (put i (in_phase (Reply k v by fc) x) d).view i x (in_phase (Reply k v by fc) x) own (ap is_decided e) refl refl (λ seq n. n)) (λ h. tt)
  reply_phase-calm i x k v by fc _ d own e = tt

  reply_own-calm : (tx : TxId) (k : KeyId) (v : Value) (by : Option TxId) (fc : ℕ) (o : Option Own) (d : Doing) → Returns.own_named here tx d ≡ o → CalmTo d.view (Returns.reply_own (tx.seq - 1) k v by fc o d)
  reply_own-calm tx k v by fc None d n = tt
  reply_own-calm tx k v by fc (Some x) d n = reply_phase-calm (tx.seq - 1) x k v by fc x.phase d (named_owns here tx d x n) refl

  read_reply-calm : (tx : TxId) (k : KeyId) (v : Value) (by : Option TxId) (fc : ℕ) (d : Doing) → CalmTo d.view (Returns.read_reply here tx k v by fc d)
  unfolding Returns.read_reply
  read_reply-calm tx k v by fc d = reply_own-calm tx k v by fc (Returns.own_named here tx d) d refl

  master-calm : (a : Arrived) (turn : MasterTurn) (d : Doing) → CalmTo d.view (Arrivals.master_done here a turn d)
  unfolding accepted refused waits
  master-calm a (Accept ts) d = own_calm d.view (accepted here a ts d).view refl
  master-calm a (Refuse u k) d = own_calm d.view (refused here a u k d).view refl
  master-calm a (Park u) d = own_calm d.view (waits (Held a) d).view refl
  master-calm a Ignore d = tt

  prepare-calm : (a : Arrived) (d : Doing) → CalmTo d.view (Arrivals.prepare_rule here a d)
  unfolding Arrivals.prepare_rule
  prepare-calm a d = master-calm a (prepare_turn here d.view a) d

  evict_at-calm : (a : Arrived) (i : ℕ) (x : Own) (o : Option Write) (d : Doing) → Owns d.view i x → is_decided x.phase ≡ false → Calm d.view (Arrivals.evict_at here a i x o d).view
  evict_at-calm a i x None d own op = own_calm d.view d.view refl
  evict_at-calm a i x (Some w) d own op = aborted_calm here i (ByConflict a.tx w.key here.node) x d own op

  evict_one-calm : (a : Arrived) (i : ℕ) (o : Option Own) (d : Doing) → slice_get d.view.own i ≡ o → Calm d.view (Scripts.of_own (Arrivals.evict_own here a i) o d).view
  evict_one-calm a i None d e = own_calm d.view d.view refl
  evict_one-calm a i (Some x) d e = by_decided (is_decided x.phase) refl
    where
      by_decided : (b : Bool) → is_decided x.phase ≡ b → Calm d.view (Scripts.unless_decided b (Arrivals.evict_own here a i x) d).view
      by_decided true q = own_calm d.view d.view refl
      by_decided false q = evict_at-calm a i x (held_key d.view.versions (name_of here i) a.writes) d e q

  evict-calm : (a : Arrived) (n : ℕ) (d : Doing) → Calm d.view (Arrivals.evict here a n d).view
  evict-calm a zero d = own_calm d.view d.view refl
  evict-calm a (suc i) d =
      let e : Doing = Arrivals.evict here a i d in
      calm_more d.view e.view (Scripts.at_own i (Arrivals.evict_own here a i) e).view (evict-calm a i d) (evict_one-calm a i (slice_get e.view.own i) e refl)

  take-calm : (a : Arrived) (d e : Doing) → Calm d.view e.view → CalmTo d.view (Arrivals.take_if here a e)
  unfolding taken
  take-calm a d e h =
      if_elim (CalmTo d.view) (nat_lt (proposed e.view a) ts_limit) (Some (taken here a (proposed e.view a) e)) None
      (λ q. calm_more d.view e.view (taken here a (proposed e.view a) e).view h (own_calm e.view (taken here a (proposed e.view a) e).view refl)) (λ q. tt)

  replicate-calm : (a : Arrived) (d : Doing) → CalmTo d.view (Arrivals.replicate_rule here a d)
  unfolding Arrivals.replicate_rule
  replicate-calm a d =
      if_elim (CalmTo d.view) (takes here d.view a) (Arrivals.take_if here a (Arrivals.evict here a (length d.view.own) d)) None
      (λ h. take-calm a d (Arrivals.evict here a (length d.view.own) d) (evict-calm a (length d.view.own) d)) (λ h. tt)

  ack_kept-calm : (i lc : ℕ) (x : Own) (o : Option (List Asked)) (d : Doing) → Owns d.view i x → x.phase ≡ Global lc → CalmTo d.view (Returns.ack_kept i x o d)
  unfolding acked
  ack_kept-calm i lc x None d own e = tt
  ack_kept-calm i lc x (Some parts) d own e = set_calm d.view (acked i parts x d).view i x (record x { parts = parts }) own (ap is_decided e) refl refl (λ seq n. n)

  ack_phase-calm : (i : ℕ) (x : Own) (from : NodeId) (p : PartId) (ts : ℕ) (ph : Phase) (d : Doing) → Owns d.view i x → x.phase ≡ ph → CalmTo d.view (Returns.ack_phase i x from p ts ph d)
  ack_phase-calm i x from p ts (Global lc) d own e = ack_kept-calm i lc x (with_ack x.parts p from ts) d own e
  ack_phase-calm i x from p ts _ d own e = tt

  ack_own-calm : (from : NodeId) (tx : TxId) (p : PartId) (ts : ℕ) (o : Option Own) (d : Doing) → Returns.own_named here tx d ≡ o → CalmTo d.view (Returns.ack_own (tx.seq - 1) from p ts o d)
  ack_own-calm from tx p ts None d n = tt
  ack_own-calm from tx p ts (Some x) d n = ack_phase-calm (tx.seq - 1) x from p ts x.phase d (named_owns here tx d x n) refl

  ack-calm : (from : NodeId) (tx : TxId) (p : PartId) (ts : ℕ) (d : Doing) → CalmTo d.view (Returns.ack_rule here from tx p ts d)
  unfolding Returns.ack_rule
  ack-calm from tx p ts d = ack_own-calm from tx p ts (Returns.own_named here tx d) d refl

  refuse_phase-calm : (i : ℕ) (x : Own) (from : NodeId) (p : PartId) (u : TxId) (k : KeyId) (ph : Phase) (d : Doing) → Owns d.view i x → x.phase ≡ ph → CalmTo d.view (Returns.refuse_phase here i x from p u k ph d)
  refuse_phase-calm i x from p u k (Global lc) d own e =
      if_elim (CalmTo d.view) (has_asked x.parts p && is_master here.scene from p) (Some (aborted here i (ByConflict u k from) x d)) None
      (λ h. aborted_calm here i (ByConflict u k from) x d own (ap is_decided e)) (λ h. tt)
  refuse_phase-calm i x from p u k _ d own e = tt

  refuse_own-calm : (from : NodeId) (tx : TxId) (p : PartId) (u : TxId) (k : KeyId) (o : Option Own) (d : Doing) → Returns.own_named here tx d ≡ o → CalmTo d.view (Returns.refuse_own here (tx.seq - 1) from p u k o d)
  refuse_own-calm from tx p u k None d n = tt
  refuse_own-calm from tx p u k (Some x) d n = refuse_phase-calm (tx.seq - 1) x from p u k x.phase d (named_owns here tx d x n) refl

  refuse-calm : (from : NodeId) (tx : TxId) (p : PartId) (u : TxId) (k : KeyId) (d : Doing) → CalmTo d.view (Returns.refuse_rule here from tx p u k d)
  unfolding Returns.refuse_rule
  refuse-calm from tx p u k d = refuse_own-calm from tx p u k (Returns.own_named here tx d) d refl

  body-calm : (from : NodeId) (body : Body) (d : Doing) → CalmTo d.view (Steps.body_rule here from body d)
  unfolding commit_came abort_came
  body-calm from (ReadReq tx k rs) d = read_req-calm tx k rs.0 d
  body-calm from (ReadReply tx k v by fc) d = read_reply-calm tx k v by fc.0 d
  body-calm from (Prepare tx p rs lc ws) d = prepare-calm (record { tx = tx; part = p; rs = rs; lc = lc; writes = ws }) d
  body-calm from (Refusal tx p u k) d = refuse-calm from tx p u k d
  body-calm from (Replicate tx p rs lc ws) d = replicate-calm (record { tx = tx; part = p; rs = rs; lc = lc; writes = ws }) d
  body-calm from (Ack tx p ts) d = ack-calm from tx p ts.0 d
  body-calm from (Commit tx p fc ms) d =
      if_elim (CalmTo d.view) (decides here tx p d.view) (Some (commit_came tx p fc.0 ms d)) None (λ h. own_calm d.view (commit_came tx p fc.0 ms d).view refl) (λ h. tt)
  body-calm from (Abort tx p) d =
      if_elim (CalmTo d.view) (decides here tx p d.view) (Some (abort_came tx p (drop_held tx p d.view.waiters) d)) None (λ h. own_calm d.view (abort_came tx p (drop_held tx p d.view.waiters) d).view refl) (λ h. tt)

  calm-ruled : (d : Doing) (o : Option Doing) → CalmTo d.view o → RuledTo here input d o
  calm-ruled d None h = tt
  calm-ruled d (Some r) h = is_calm h

  rule-ruled : (i : Input) (d : Doing) → RuledTo here input d (Steps.rule here i d)
  unfolding Steps.rule
  rule-ruled (Client s t) d = client-ruled s t d
  rule-ruled (Deliver m) d =
      if_elim (RuledTo here input d) (Strange.is_valid here m) (Steps.body_rule here m.sender m.body d) None
      (λ h. calm-ruled d (Steps.body_rule here m.sender m.body d) (body-calm m.sender m.body d)) (λ h. tt)

  pub ruled : (d : Doing) → RuledTo here input d (Steps.rule here input d)
  ruled d = rule-ruled input d
