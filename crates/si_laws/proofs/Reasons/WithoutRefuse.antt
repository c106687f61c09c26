-- What a step does without a Refuse: own transactions, their turns, evictions and client steps.
use Rattle.partition_map.specs.declared.rows.Asked.{Asked}
use Rattle.std.proofs.Common.{Bool, List, None, Option, Some, [], false, inl, inr, length, map, slice_get, subst, suc, sym, true, zero, ℕ, ◌++◌, ◌+◌, ◌∷◌}
use Rattle.str_base.specs.declared.names.Cause.{Cause}
use Rattle.str_base.specs.declared.names.Cause.TheVariants.{Conflict as ByConflict, Late as IsLate, Lost as IsLost, Wish}
use Rattle.str_base.specs.declared.names.KeyId.{KeyId}
use Rattle.str_base.specs.declared.names.NodeId.{NodeId}
use Rattle.str_base.specs.declared.names.PartId.{PartId}
use Rattle.str_base.specs.declared.names.SessionId.{SessionId}
use Rattle.str_base.specs.declared.names.Value.{Value}
use Rattle.str_base.specs.declared.names.Write.{Write}
use Rattle.str_base.specs.Versions.{same_node, stamp}
use Rattle.str_scene.specs.declared.names.Op.{Op}
use Rattle.str_scene.specs.declared.names.Op.TheVariants.{Abort as Stop, Add, Del, Get, Need, Put, Puts}
use Rattle.str_scene.specs.declared.names.TxPlace.{TxPlace}
use Rattle.str_scene.specs.Scenes.{Here, Session, first_or, in_part, leads, nth, others, replicas}
use Rattle.str_model.specs.declared.messages.Arrived.{Arrived}
use Rattle.str_model.specs.declared.messages.Body.{Body}
use Rattle.str_model.specs.declared.messages.Body.TheVariants.{Abort, Commit, Prepare, ReadReq, Refuse as Refusal, Replicate}
use Rattle.str_model.specs.declared.messages.Message.{Message}
use Rattle.str_model.specs.Acts.{aborted, asked, begun, certified, closed, committed, marked, requested}
use Rattle.str_model.specs.Acts
use Rattle.str_model.specs.Arrivals
use Rattle.str_model.specs.Clients
use Rattle.str_model.specs.Gates.{Ask, CommitAt, GateTurn, Missing, Shut, gate_of}
use Rattle.str_model.specs.Pass
use Rattle.str_model.specs.Pass.{half_turn, turn}
use Rattle.str_model.specs.Scripts
use Rattle.str_model.specs.Scripts.{known, own_op}
use Rattle.str_model.specs.Turns.{Away, CertTurn, Certified, Conflict, DepTurn, Keep, Late, Lost, Plain, ReadTurn, Speculative, Wait, WaitGate, cert_turn, dep_turn, left_by, read_turn, reply_turn}
use Rattle.str_model.specs.Views.{Aborted, Active, CertWait, Closing, Committed, Doing, Global, Local, Own, Phase, ReadWait, Reply, is_decided, letter, name_of, put}
use Rattle.str_model.proofs.Changes.SnapshotsGain.{if_elim}
use Rattle.str_base.proofs.Members.{in_append, in_map}
use Rattle.str_base.specs.Members.{In}

-- the body is a Refuse
abbrev pub IsRefusal : Body → Type 0
IsRefusal (Refusal tx p u k) = Unit {0}
IsRefusal _ = ⊥

-- no Refuse is sent between the two
abbrev pub NoRefusal : Doing → Doing → Type 0
NoRefusal d e = (m : Message) → In m e.sent → IsRefusal m.body → In m d.sent

-- the same of what a rule leaves, where it is not idle
abbrev pub NoneTo : Doing → Option Doing → Type 0
NoneTo d None = Unit {0}
NoneTo d (Some e) = NoRefusal d e

pub none_same : (d : Doing) → NoRefusal d d
none_same d m h r = h

pub none_then : (d e f : Doing) → NoRefusal d e → NoRefusal e f → NoRefusal d f
none_then d e f a b m h r = a m (b m h r) r

-- none of these messages is a Refuse
abbrev pub NoneOf : List Message → Type 0
NoneOf ms = (m : Message) → In m ms → IsRefusal m.body → ⊥

pub none_more : (old new : List Message) (m : Message) → NoneOf new → In m (old ++ new) → IsRefusal m.body → In m old
none_more old new m f h r = elim (in_append old new m h) [ inl j ↦ j | inr j ↦ absurd (f m j r) ]

pub none_mapped : {A : Type 0} (f : A → Message) (xs : List A) → ((x : A) → IsRefusal (f x).body → ⊥) → NoneOf (map f xs)
none_mapped f xs g m h r = let k = in_map f xs m h in g k.0 (subst (λ (z : Message). IsRefusal z.body) (sym k.2) r)

pub none_one : (l : Message) → (IsRefusal l.body → ⊥) → NoneOf (l ∷ [])
none_one l f m (inl q) r = f (subst (λ (z : Message). IsRefusal z.body) (sym q) r)
none_one l f m (inr z) r = absurd z

module _ (here : Here) where
  pub none_aborted : (i : ℕ) (cause : Cause) (x : Own) (d : Doing) → NoRefusal d (aborted here i cause x d)
  unfolding aborted
  none_aborted i cause x d m h r =
      none_more d.sent (Acts.abort_letters here i x.parts) m (none_mapped (λ (a : Asked). letter here a.node (Abort (name_of here i) a.part)) (Acts.asked_ones x.parts) (λ a z. z)) h r

  none_committed : (i lc fc : ℕ) (x : Own) (d : Doing) → NoRefusal d (committed here i lc fc x d)
  unfolding committed
  none_committed i lc fc x d m h r =
      none_more d.sent (Acts.commit_letters here i x fc d.view) m
      (none_mapped (λ (a : Asked). letter here a.node (Commit (name_of here i) a.part (stamp fc) (Acts.marks_in here d.view a.part x.writes))) x.parts (λ a z. z)) h r

  none_closed : (i : ℕ) (x : Own) (d : Doing) → NoRefusal d (closed here i x d)
  unfolding closed
  none_closed i x d m h r = h

  none_certified : (i : ℕ) (x : Own) (t : CertTurn) (d : Doing) → NoRefusal d (Scripts.cert_done here i x t d)
  unfolding certified
  none_certified i x (Certified lc snap) d m h r = h
  none_certified i x (Conflict u k) d m h r = none_aborted i (ByConflict u k here.node) x d m h r
  none_certified i x (WaitGate u) d m h r = h

  none_certify : (i : ℕ) (x : Own) (d : Doing) → NoRefusal d (Scripts.certify_now here i x d)
  unfolding Scripts.certify_now
  none_certify i x d m h r = none_certified i x (cert_turn here d.view x.snap x.writes) d m h r

  ask_none : (i lc : ℕ) (x : Own) (p : PartId) (rs : List NodeId) → NoneOf (Acts.ask_letters here i lc x p rs)
  ask_none i lc x p rs =
      if_elim NoneOf (leads here.node rs)
      (map (λ r. letter here r (Replicate (name_of here i) p (stamp x.snap.rs) (stamp lc) (Rattle.std.specs.Prelude.filter (in_part here.scene p) x.writes))) (others here.node rs))
      (letter here (first_or here.node rs) (Prepare (name_of here i) p (stamp x.snap.rs) (stamp lc) (Rattle.std.specs.Prelude.filter (in_part here.scene p) x.writes)) ∷ [])
      (λ b. none_mapped (λ (r : NodeId). letter here r (Replicate (name_of here i) p (stamp x.snap.rs) (stamp lc) (Rattle.std.specs.Prelude.filter (in_part here.scene p) x.writes))) (others here.node rs) (λ a z. z))
      (λ b. none_one (letter here (first_or here.node rs) (Prepare (name_of here i) p (stamp x.snap.rs) (stamp lc) (Rattle.std.specs.Prelude.filter (in_part here.scene p) x.writes))) (λ z. z))

  none_asked : (i lc : ℕ) (p : PartId) (x : Own) (d : Doing) → NoRefusal d (asked here i lc p x d)
  unfolding asked
  none_asked i lc p x d m h r = none_more d.sent (Acts.ask_letters here i lc x p (replicas here.scene p)) m (ask_none i lc x p (replicas here.scene p)) h r

  none_read : (i : ℕ) (k : KeyId) (x : Own) (t : ReadTurn) (d : Doing) → NoRefusal d (Scripts.read_done here i k x t d)
  unfolding requested
  none_read i k x (Plain v u fc snap) d m h r = h
  none_read i k x (Speculative v u snap) d m h r = h
  none_read i k x (Wait u) d m h r = h
  none_read i k x (Away to) d m h r =
      let l : Message = letter here to (ReadReq (name_of here i) k (stamp x.snap.rs)) in none_more d.sent (l ∷ []) m (none_one l (λ z. z)) h r

  none_read_now : (i : ℕ) (k : KeyId) (x : Own) (d : Doing) → NoRefusal d (Scripts.read_now here i k x d)
  unfolding Scripts.read_now marked
  none_read_now i k x d m h r = none_read i k x (read_turn here d.view x.snap k) (marked k x.snap.rs d) m h r

  -- ---- an own transaction, where there is one

  of_own_none : (f : Own → Doing → Doing) (o : Option Own) (d : Doing) → ((x : Own) → NoRefusal d (f x d)) → NoRefusal d (Scripts.of_own f o d)
  of_own_none f None d g m h r = h
  of_own_none f (Some x) d g m h r = by_decided (is_decided x.phase) m h r
    where
      by_decided : (b : Bool) → NoRefusal d (Scripts.unless_decided b (f x) d)
      by_decided true m h r = h
      by_decided false m h r = g x m h r

  pub at_own_none : (i : ℕ) (f : Own → Doing → Doing) (d : Doing) → ((x : Own) → NoRefusal d (f x d)) → NoRefusal d (Scripts.at_own i f d)
  at_own_none i f d g = of_own_none f (slice_get d.view.own i) d g

  -- ---- turns

  resolved_none : (i : ℕ) (x : Own) (t : DepTurn) (d : Doing) → NoRefusal d (Pass.resolved here i x t d)
  resolved_none i x (Lost q f es) d m h r = none_aborted i (IsLost (record { node = here.node; seq = q })) x d m h r
  resolved_none i x (Late q fc f es) d m h r = none_aborted i (IsLate (record { node = here.node; seq = q }) (stamp fc)) x d m h r
  resolved_none i x (Keep f es) d m h r = h

  resolve_none : (i : ℕ) (x : Own) (d : Doing) → NoRefusal d (Pass.resolve_own here i x d)
  resolve_none i x d m h r =
      let t = dep_turn d.view.own x.snap in
      let y : Own = record x { snap = left_by t x.snap } in
      resolved_none i y t (put i y d) m h r

  reply_none : (i : ℕ) (k : KeyId) (x : Own) (t : ReadTurn) (d : Doing) → NoRefusal d (Pass.again_reply here i k x t d)
  reply_none i k x (Plain v u fc snap) d m h r = h
  reply_none i k x _ d m h r = h

  again_none : (i : ℕ) (p : Phase) (x : Own) (d : Doing) → NoRefusal d (Pass.again_own here i p x d)
  again_none i (ReadWait k) x d = none_read_now i k x d
  again_none i (Reply k v u fc) x d = reply_none i k x (reply_turn here x.snap v u fc) d
  again_none i CertWait x d = none_certify i x d
  again_none i _ x d = none_same d

  pub half_none : (i : ℕ) (d : Doing) → NoRefusal d (half_turn here i d)
  unfolding half_turn
  half_none i d =
      let e : Doing = Scripts.at_own i (Pass.resolve_own here i) d in
      none_then d e (Scripts.at_own i (λ x. Pass.again_own here i x.phase x) e)
      (at_own_none i (Pass.resolve_own here i) d (λ x. resolve_none i x d))
      (at_own_none i (λ x. Pass.again_own here i x.phase x) e (λ x. again_none i x.phase x e))

  gate_none : (i : ℕ) (again : Doing → Doing) (lc : ℕ) (x : Own) (t : GateTurn) (d : Doing) → ((z : Doing) → NoRefusal z (again z)) → NoRefusal d (Pass.gate_done here i again lc x t d)
  gate_none i again lc x (Ask p) d g = let e : Doing = asked here i lc p x d in none_then d e (again e) (none_asked i lc p x d) (g e)
  gate_none i again lc x (Shut q) d g = none_same d
  gate_none i again lc x (Missing p n) d g = none_same d
  gate_none i again lc x (CommitAt fc) d g = none_committed i lc fc x d

  phase_none : (i : ℕ) (again : Doing → Doing) (p : Phase) (x : Own) (d : Doing) → ((z : Doing) → NoRefusal z (again z)) → NoRefusal d (Pass.gate_phase here i again p x d)
  phase_none i again (Local lc) x d g = gate_none i again lc x (gate_of here d.view lc x) d g
  phase_none i again (Global lc) x d g = gate_none i again lc x (gate_of here d.view lc x) d g
  phase_none i again _ x d g = none_same d

  gates_none : (i n : ℕ) (d : Doing) → NoRefusal d (Pass.gates here i n d)
  gates_none i zero d = none_same d
  gates_none i (suc n) d =
      at_own_none i (λ x. Pass.gate_phase here i (Pass.gates here i n) x.phase x) d (λ x. phase_none i (Pass.gates here i n) x.phase x d (λ z. gates_none i n z))

  free_none : (i : ℕ) (wish : Bool) (x : Own) (d : Doing) → NoRefusal d (Pass.close_free here i wish x d)
  free_none i true x d = none_aborted i Wish x d
  free_none i false x d = none_closed i x d

  close_none : (i : ℕ) (p : Phase) (x : Own) (d : Doing) → NoRefusal d (Pass.close_phase here i p x d)
  close_none i (Closing wish) x d = if_elim (λ e. NoRefusal d e) (Pass.is_empty x.snap.deps) (Pass.close_free here i wish x d) d (λ e. free_none i wish x d) (λ e m h r. h)
  close_none i _ x d = gates_none i (suc (length here.scene.parts)) d

  pub turn_none : (i : ℕ) (d : Doing) → NoRefusal (half_turn here i d) (turn here i d)
  unfolding turn
  turn_none i d =
      let e : Doing = half_turn here i d in at_own_none i (Pass.close_own here i) e (λ x. close_none i x.phase x e)

  -- ---- evictions

  evict_at_none : (a : Arrived) (i : ℕ) (x : Own) (o : Option Write) (d : Doing) → NoRefusal d (Arrivals.evict_at here a i x o d)
  evict_at_none a i x None d m h r = h
  evict_at_none a i x (Some w) d m h r = none_aborted i (ByConflict a.tx w.key here.node) x d m h r

  pub evict_one_none : (a : Arrived) (i : ℕ) (d : Doing) → NoRefusal d (Scripts.at_own i (Arrivals.evict_own here a i) d)
  evict_one_none a i d = at_own_none i (Arrivals.evict_own here a i) d (λ x. evict_at_none a i x (Arrivals.held_key d.view.versions (name_of here i) a.writes) d)

  -- ---- a client step

  need_none : (i : ℕ) (op : Op) (k : KeyId) (x : Own) (o : Option Value) (d : Doing) → NoRefusal d (Scripts.need_value here i op k x o d)
  need_none i op k x (Some v) d m h r = h
  need_none i op k x None d m h r = none_read_now i k x d m h r

  op_none : (i : ℕ) (x : Own) (op : Op) (d : Doing) → NoRefusal d (Scripts.do_op here i x op d)
  op_none i x (Get k) d = need_none i (Get k) k x (known x k) d
  op_none i x (Put k n) d = none_same d
  op_none i x (Puts k t) d = none_same d
  op_none i x (Add k n) d = need_none i (Add k n) k x (known x k) d
  op_none i x (Del k) d = none_same d
  op_none i x (Need k n) d = need_none i (Need k n) k x (known x k) d
  op_none i x Stop d = none_aborted i Wish x d

  commit_none : (i : ℕ) (x : Own) (ws : List Write) (d : Doing) → NoRefusal d (Scripts.ask_commit here i x ws d)
  commit_none i x [] d m h r = h
  commit_none i x (w ∷ ws) d m h r = none_certify i x d m h r

  next_none : (i : ℕ) (x : Own) (o : Option Op) (d : Doing) → NoRefusal d (Scripts.op_or_commit here i x o d)
  next_none i x (Some op) d = op_none i x op d
  next_none i x None d = commit_none i x x.writes d

  begin_none : (place : TxPlace) (t : ℕ) (o : Option (List Op)) (d : Doing) → NoneTo d (Clients.begin here place t o d)
  unfolding begun
  begin_none place t None d = tt
  begin_none place t (Some ops) d = λ m h r. h

  go_none : (s : SessionId) (t : ℕ) (text : Session) (i : ℕ) (x : Own) (p : Phase) (d : Doing) → NoneTo d (Clients.go_on here s t text i x p d)
  go_none s t text i x Active d = next_none i x (own_op here x) d
  go_none s t text i x (Committed lc fc) d = begin_none (Clients.place_in s (x.place.index + 1)) t (nth text.txs (x.place.index + 1)) d
  go_none s t text i x (Aborted lc c) d = begin_none (Clients.place_in s (x.place.index + 1)) t (nth text.txs (x.place.index + 1)) d
  go_none s t text i x _ d = tt

  go_at_none : (s : SessionId) (t : ℕ) (text : Session) (i : ℕ) (o : Option Own) (d : Doing) → NoneTo d (Clients.go_on_at here s t text i o d)
  go_at_none s t text i None d = tt
  go_at_none s t text i (Some x) d = go_none s t text i x x.phase d

  go_last_none : (s : SessionId) (t : ℕ) (text : Session) (o : Option ℕ) (d : Doing) → NoneTo d (Clients.go_on_last here s t text o d)
  go_last_none s t text None d = begin_none (Clients.place_in s 1) t (nth text.txs 1) d
  go_last_none s t text (Some i) d = go_at_none s t text i (slice_get d.view.own i) d

  session_none : (s : SessionId) (t : ℕ) (o : Option Session) (d : Doing) → NoneTo d (Clients.in_session here s t o d)
  session_none s t None d = tt
  session_none s t (Some text) d =
      if_elim (NoneTo d) (same_node text.node here.node) (Clients.go_on_last here s t text (Clients.last_index (Clients.of_session s) d.view.own) d) None
      (λ e. go_last_none s t text (Clients.last_index (Clients.of_session s) d.view.own) d) (λ e. tt)

  pub client_none : (s : SessionId) (t : ℕ) (d : Doing) → NoneTo d (Clients.client_rule here s t d)
  unfolding Clients.client_rule
  client_none s t d = session_none s t (nth here.scene.sessions s.0) d
