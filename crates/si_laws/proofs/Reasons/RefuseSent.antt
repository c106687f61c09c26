-- A Refuse is sent where a Prepare that is here is judged, from the moment before.
use Rattle.partition_map.specs.declared.rows.Asked.{Asked}
use Rattle.std.proofs.Common.{Bool, List, None, Option, Some, [], ap, false, if◌then◌else◌, inl, inr, length, map, not, refl, subst, sym, true, ℕ, ◌&&◌, ◌++◌, ◌-◌, ◌∙◌, ◌∷◌, ◌≡◌, ◌||◌, ◌⊎◌}
use Rattle.std.specs.List.{list_any}
use Rattle.str_base.specs.declared.names.Cause.TheVariants.{Conflict as ByConflict}
use Rattle.str_base.specs.declared.names.KeyId.{KeyId}
use Rattle.str_base.specs.declared.names.NodeId.{NodeId}
use Rattle.str_base.specs.declared.names.PartId.{PartId}
use Rattle.str_base.specs.declared.names.Ts.{Ts}
use Rattle.str_base.specs.declared.names.TxId.{TxId}
use Rattle.str_base.specs.declared.names.Value.{Value}
use Rattle.str_base.specs.Versions.{same_key, same_node, stamp}
use Rattle.str_scene.specs.Scenes.{Here, hosts_key, is_master, others, replicas}
use Rattle.str_model.specs.declared.messages.Arrived.{Arrived}
use Rattle.str_model.specs.declared.messages.Body.{Body}
use Rattle.str_model.specs.declared.messages.Body.TheVariants.{Abort, Ack, Commit, Prepare, ReadReply, ReadReq, Refuse as Refusal, Replicate}
use Rattle.str_model.specs.declared.messages.Input.{Input}
use Rattle.str_model.specs.declared.messages.Input.TheVariants.{Client, Deliver}
use Rattle.str_model.specs.declared.messages.Message.{Message}
use Rattle.str_model.specs.declared.messages.Waiter.{Waiter}
use Rattle.str_model.specs.declared.messages.Waiter.TheVariants.{Held, Read}
use Rattle.str_model.specs.Acts.{abort_came, aborted, accepted, acked, commit_came, in_phase, marked, refused, replied, taken, waits, with_waiters}
use Rattle.str_model.specs.Acts
use Rattle.str_model.specs.Arrivals
use Rattle.str_model.specs.Arrivals.{evict}
use Rattle.str_model.specs.Moments.{input_moments}
use Rattle.str_model.specs.Moments
use Rattle.str_model.specs.Pass.{pass_to}
use Rattle.str_model.specs.Proposals.{Accept, Ignore, MasterTurn, Park, Refuse, is_known, is_parked, master_turn, prepare_turn, proposed}
use Rattle.str_model.specs.Returns
use Rattle.str_model.specs.Returns.{has_asked, own_named}
use Rattle.str_model.specs.Steps
use Rattle.str_model.specs.Steps.{decides, drop_held, rule}
use Rattle.str_model.specs.Strange.{is_valid}
use Rattle.str_model.specs.Turns.{Give, ServeTurn, ServeWait, serve_turn}
use Rattle.str_model.specs.Views.{Doing, Global, Own, Phase, Remote, Reply, letter, put}
use Rattle.str_model.specs.Waiters
use Rattle.str_model.proofs.Principle.SingleChanges.{Comes, IsHere, it_comes, it_waits}
use Rattle.str_model.proofs.Changes.SnapshotsGain.{if_elim}
use Rattle.str_model.proofs.Principle.NextMoments.{Link, evict_linked_to, l_close, l_evict, l_half, l_rule, l_wait, last_of, valid}
use Rattle.str_model.proofs.Principle.MomentPaths.{take_is}
use Rattle.str_model.proofs.Principle.OwnPaths.{IsFresh, nor_left, nor_right}
use Rattle.si_laws.proofs.Reasons.WithoutRefuse.{IsRefusal, NoRefusal, NoneOf, NoneTo, client_none, evict_one_none, half_none, none_aborted, none_mapped, none_more, none_one, none_same, turn_none}
use Rattle.std.proofs.lemmas.Bool.{not-true}
use Rattle.str_base.proofs.Tests.{and_true_left, and_true_right}
use Rattle.str_base.proofs.Members.{in_append}
use Rattle.str_base.specs.Members.{In}

-- the message is the Refuse of a Prepare that is here and is judged so
pub record Judges (here : Here) (input : Input) (d : Doing) (m : Message) : Type 0 where
  pub arrived : Arrived
  pub by : TxId
  pub key : KeyId
  pub present : IsHere here input d arrived
  pub turn : master_turn d.view arrived ≡ Refuse by key
  pub is : letter here arrived.tx.node (Refusal arrived.tx arrived.part by key) ≡ m

-- each Refuse of e was sent before d, or is of a Prepare that is judged at d
abbrev pub Judged : Here → Input → Doing → Doing → Type 0
Judged here input d e = (m : Message) → In m e.sent → IsRefusal m.body → In m d.sent ⊎ Judges here input d m

fresh : (here : Here) (d : Doing) (a : Arrived) (u : TxId) (k : KeyId) → prepare_turn here d.view a ≡ Refuse u k → IsFresh here d a (Refuse u k)
unfolding prepare_turn
fresh here d a u k =
    if_elim (λ t. t ≡ Refuse u k → IsFresh here d a (Refuse u k))
    (is_master here.scene here.node a.part && (not (same_node a.tx.node here.node) && not (is_known d.view a.tx a.part || is_parked d.view a.tx a.part)))
    (master_turn d.view a) Ignore
    (λ e h. let n = and_true_right _ _ (and_true_right _ _ e) in
    record { is = h; unknown = nor_left (is_known d.view a.tx a.part) (is_parked d.view a.tx a.part) n; unparked = nor_right (is_known d.view a.tx a.part) (is_parked d.view a.tx a.part) n; mine = record { master = and_true_left _ _ e; foreign = not-true (same_node a.tx.node here.node) (and_true_left _ _ (and_true_right _ _ e)) } })
    (λ e h. absurd (cc h))

module _ (here : Here) (input : Input) where
  none_judged : (d e : Doing) → NoRefusal d e → Judged here input d e
  none_judged d e f m h r = inl (f m h r)

  -- ---- the rules of messages

  serve_none : (tx : TxId) (k : KeyId) (rs : ℕ) (t : ServeTurn) (d : Doing) → NoRefusal d (Arrivals.serve_done here tx k rs t d)
  unfolding replied waits
  serve_none tx k rs (Give v u fc) d m h r = none_more d.sent (letter here tx.node (ReadReply tx k v u (stamp fc)) ∷ []) m (none_one (letter here tx.node (ReadReply tx k v u (stamp fc))) (λ z. z)) h r
  serve_none tx k rs (ServeWait u) d m h r = h

  request_none : (tx : TxId) (k : KeyId) (rs : ℕ) (d : Doing) → NoneTo d (Arrivals.read_req here tx k rs d)
  unfolding Arrivals.read_req marked
  request_none tx k rs d =
      if_elim (NoneTo d) (hosts_key here k && (not (same_node tx.node here.node) && not (list_any (Arrivals.waits_read tx k) d.view.waiters)))
      (Some (Arrivals.serve_done here tx k rs (serve_turn d.view.versions k rs) (marked k rs d))) None
      (λ e. serve_none tx k rs (serve_turn d.view.versions k rs) (marked k rs d)) (λ e. tt)

  reply_phase_none : (i : ℕ) (x : Own) (k : KeyId) (v : Value) (u : Option TxId) (fc : ℕ) (p : Phase) (d : Doing) → NoneTo d (Returns.reply_phase i x k v u fc p d)
  reply_phase_none i x k v u fc (Remote l) d = if_elim (NoneTo d) (same_key l k) (Some (put i (in_phase (Reply k v u fc) x) d)) None (λ e. none_same d) (λ e. tt)
  reply_phase_none i x k v u fc _ d = tt

  reply_own_none : (i : ℕ) (k : KeyId) (v : Value) (u : Option TxId) (fc : ℕ) (o : Option Own) (d : Doing) → NoneTo d (Returns.reply_own i k v u fc o d)
  reply_own_none i k v u fc None d = tt
  reply_own_none i k v u fc (Some x) d = reply_phase_none i x k v u fc x.phase d

  reply_rule_none : (tx : TxId) (k : KeyId) (v : Value) (u : Option TxId) (fc : ℕ) (d : Doing) → NoneTo d (Returns.read_reply here tx k v u fc d)
  unfolding Returns.read_reply
  reply_rule_none tx k v u fc d = reply_own_none (tx.seq - 1) k v u fc (own_named here tx d) d

  ack_kept_none : (i : ℕ) (x : Own) (o : Option (List Asked)) (d : Doing) → NoneTo d (Returns.ack_kept i x o d)
  unfolding acked
  ack_kept_none i x None d = tt
  ack_kept_none i x (Some parts) d = λ m h r. h

  ack_phase_none : (i : ℕ) (x : Own) (from : NodeId) (p : PartId) (ts : ℕ) (q : Phase) (d : Doing) → NoneTo d (Returns.ack_phase i x from p ts q d)
  ack_phase_none i x from p ts (Global lc) d = ack_kept_none i x (Returns.with_ack x.parts p from ts) d
  ack_phase_none i x from p ts _ d = tt

  ack_own_none : (i : ℕ) (from : NodeId) (p : PartId) (ts : ℕ) (o : Option Own) (d : Doing) → NoneTo d (Returns.ack_own i from p ts o d)
  ack_own_none i from p ts None d = tt
  ack_own_none i from p ts (Some x) d = ack_phase_none i x from p ts x.phase d

  ack_rule_none : (from : NodeId) (tx : TxId) (p : PartId) (ts : ℕ) (d : Doing) → NoneTo d (Returns.ack_rule here from tx p ts d)
  unfolding Returns.ack_rule
  ack_rule_none from tx p ts d = ack_own_none (tx.seq - 1) from p ts (own_named here tx d) d

  refuse_phase_none : (i : ℕ) (x : Own) (from : NodeId) (p : PartId) (u : TxId) (k : KeyId) (q : Phase) (d : Doing) → NoneTo d (Returns.refuse_phase here i x from p u k q d)
  refuse_phase_none i x from p u k (Global lc) d =
      if_elim (NoneTo d) (has_asked x.parts p && is_master here.scene from p) (Some (aborted here i (ByConflict u k from) x d)) None (λ e. none_aborted here i (ByConflict u k from) x d) (λ e. tt)
  refuse_phase_none i x from p u k _ d = tt

  refuse_own_none : (i : ℕ) (from : NodeId) (p : PartId) (u : TxId) (k : KeyId) (o : Option Own) (d : Doing) → NoneTo d (Returns.refuse_own here i from p u k o d)
  refuse_own_none i from p u k None d = tt
  refuse_own_none i from p u k (Some x) d = refuse_phase_none i x from p u k x.phase d

  refuse_rule_none : (from : NodeId) (tx : TxId) (p : PartId) (u : TxId) (k : KeyId) (d : Doing) → NoneTo d (Returns.refuse_rule here from tx p u k d)
  unfolding Returns.refuse_rule
  refuse_rule_none from tx p u k d = refuse_own_none (tx.seq - 1) from p u k (own_named here tx d) d

  commit_rule_none : (tx : TxId) (p : PartId) (fc : Ts) (ms : List Rattle.str_model.specs.declared.names.KeyMark.KeyMark) (d : Doing)
      → NoneTo d (if decides here tx p d.view then Some (commit_came tx p fc.0 ms d) else None)
  unfolding commit_came
  commit_rule_none tx p fc ms d = if_elim (NoneTo d) (decides here tx p d.view) (Some (commit_came tx p fc.0 ms d)) None (λ e m h r. h) (λ e. tt)

  abort_rule_none : (tx : TxId) (p : PartId) (d : Doing) → NoneTo d (if decides here tx p d.view then Some (abort_came tx p (drop_held tx p d.view.waiters) d) else None)
  unfolding abort_came
  abort_rule_none tx p d = if_elim (NoneTo d) (decides here tx p d.view) (Some (abort_came tx p (drop_held tx p d.view.waiters) d)) None (λ e m h r. h) (λ e. tt)

  taken_none : (a : Arrived) (ts : ℕ) (d : Doing) → NoRefusal d (taken here a ts d)
  unfolding taken
  taken_none a ts d m h r = none_more d.sent (letter here a.tx.node (Ack a.tx a.part (stamp ts)) ∷ []) m (none_one (letter here a.tx.node (Ack a.tx a.part (stamp ts))) (λ z. z)) h r

  accepted_none : (a : Arrived) (ts : ℕ) (d : Doing) → NoRefusal d (accepted here a ts d)
  unfolding accepted
  accepted_none a ts d m h r = none_more d.sent (letter here a.tx.node (Ack a.tx a.part (stamp ts)) ∷ Acts.copies here a (replicas here.scene a.part)) m by_letter h r
    where
      by_letter : NoneOf (letter here a.tx.node (Ack a.tx a.part (stamp ts)) ∷ Acts.copies here a (replicas here.scene a.part))
      by_letter l (inl q) z = subst (λ (y : Message). IsRefusal y.body) (sym q) z
      by_letter l (inr j) z = none_mapped (λ (n : NodeId). letter here n (Replicate a.tx a.part a.rs a.lc a.writes)) (others a.tx.node (others here.node (replicas here.scene a.part))) (λ n y. y) l j z

  -- a refusal is of the Prepare that is judged
  refused_judged : (a : Arrived) (u : TxId) (k : KeyId) (ws : List Waiter) (d : Doing) → IsHere here input d a → master_turn d.view a ≡ Refuse u k → Judged here input d (refused here a u k (with_waiters ws d))
  unfolding refused
  refused_judged a u k ws d g t m h r =
      elim (in_append d.sent (letter here a.tx.node (Refusal a.tx a.part u k) ∷ []) m h) [
        | inl j ↦ inl j
        | inr j ↦ (elim j [ inl q ↦ inr (record { arrived = a; by = u; key = k; present = g; turn = t; is = q }) | inr z ↦ absurd z ])
      ]

  come_judged : (a : Arrived) (u : TxId) (k : KeyId) (d : Doing) → IsHere here input d a → master_turn d.view a ≡ Refuse u k → Judged here input d (refused here a u k d)
  unfolding refused
  come_judged a u k d g t m h r =
      elim (in_append d.sent (letter here a.tx.node (Refusal a.tx a.part u k) ∷ []) m h) [
        | inl j ↦ inl j
        | inr j ↦ (elim j [ inl q ↦ inr (record { arrived = a; by = u; key = k; present = g; turn = t; is = q }) | inr z ↦ absurd z ])
      ]

  master_judged : (from : NodeId) (a : Arrived) (t : MasterTurn) (d r : Doing) → Comes here input from (Prepare a.tx a.part a.rs a.lc a.writes) → prepare_turn here d.view a ≡ t → Arrivals.master_done here a t d ≡ Some r → Judged here input d r
  unfolding waits
  master_judged from a (Accept ts) d r c e q = let is : accepted here a ts d ≡ r = cc q in subst (Judged here input d) is (none_judged d (accepted here a ts d) (accepted_none a ts d))
  master_judged from a (Refuse u k) d r c e q =
      let f = fresh here d a u k e in
      let is : refused here a u k d ≡ r = cc q in subst (Judged here input d) is (come_judged a u k d (it_comes from c f.unknown f.unparked f.mine) f.is)
  master_judged from a (Park u) d r c e q = let is : waits (Held a) d ≡ r = cc q in subst (Judged here input d) is (λ m h z. inl h)
  master_judged from a Ignore d r c e q = absurd (cc q)

  prepare_judged : (from : NodeId) (a : Arrived) (d r : Doing) → Comes here input from (Prepare a.tx a.part a.rs a.lc a.writes) → Arrivals.prepare_rule here a d ≡ Some r → Judged here input d r
  unfolding Arrivals.prepare_rule
  prepare_judged from a d r c q = master_judged from a (prepare_turn here d.view a) d r c refl q

  to_judged : (d r : Doing) (o : Option Doing) → o ≡ Some r → NoneTo d o → Judged here input d r
  to_judged d r o e f = let g : NoneTo d (Some r) = subst (NoneTo d) e f in none_judged d r g

  rule_judged : (i : Input) (start r : Doing) → input ≡ i → rule here i start ≡ Some r → Judged here input (last_of start (input_moments here i start)) r
  unfolding rule
  rule_judged (Client s t) start r e q = to_judged start r (Rattle.str_model.specs.Clients.client_rule here s t start) q (client_none here s t start)
  rule_judged (Deliver m) start r e q = by_body m.body refl
    where
      valid_m : is_valid here m ≡ true
      valid_m = valid here (Deliver m) start r q m refl

      run : Steps.body_rule here m.sender m.body start ≡ Some r
      run = by_test (is_valid here m) q
        where
          by_test : (b : Bool) → (if b then Steps.body_rule here m.sender m.body start else None) ≡ Some r → Steps.body_rule here m.sender m.body start ≡ Some r
          by_test true f = f
          by_test false f = absurd (cc f)

      run_at : (b : Body) → m.body ≡ b → Steps.body_rule here m.sender b start ≡ Some r
      run_at b f = ap (λ c. Steps.body_rule here m.sender c start) (sym f) ∙ run

      by_body : (b : Body) → m.body ≡ b → Judged here input (last_of start (Moments.body_moments here b start)) r
      by_body (Replicate tx p rs lc ws) f =
          let a : Arrived = record { tx = tx; part = p; rs = rs; lc = lc; writes = ws } in
          let c : Comes here input m.sender (Replicate a.tx a.part a.rs a.lc a.writes) = (m, e, refl, f, valid_m) in
          let k = take_is here a start r (run_at (Replicate tx p rs lc ws) f) in
          let x : Doing = evict here a (length start.view.own) start in
          subst (λ z. Judged here input z r) (sym (evict_linked_to here input start m.sender a c (length start.view.own)))
          (subst (Judged here input x) k.2 (none_judged x (taken here a (proposed x.view a) x) (taken_none a (proposed x.view a) x)))
      by_body (Prepare tx p rs lc ws) f = prepare_judged m.sender (record { tx = tx; part = p; rs = rs; lc = lc; writes = ws }) start r (m, e, refl, f, valid_m) (run_at (Prepare tx p rs lc ws) f)
      by_body (ReadReq tx k rs) f = to_judged start r (Arrivals.read_req here tx k rs.0 start) (run_at (ReadReq tx k rs) f) (request_none tx k rs.0 start)
      by_body (ReadReply tx k v u fc) f = to_judged start r (Returns.read_reply here tx k v u fc.0 start) (run_at (ReadReply tx k v u fc) f) (reply_rule_none tx k v u fc.0 start)
      by_body (Refusal tx p u k) f = to_judged start r (Returns.refuse_rule here m.sender tx p u k start) (run_at (Refusal tx p u k) f) (refuse_rule_none m.sender tx p u k start)
      by_body (Ack tx p ts) f = to_judged start r (Returns.ack_rule here m.sender tx p ts.0 start) (run_at (Ack tx p ts) f) (ack_rule_none m.sender tx p ts.0 start)
      by_body (Commit tx p fc ms) f = to_judged start r (Steps.body_rule here m.sender (Commit tx p fc ms) start) (run_at (Commit tx p fc ms) f) (commit_rule_none tx p fc ms start)
      by_body (Abort tx p) f = to_judged start r (Steps.body_rule here m.sender (Abort tx p) start) (run_at (Abort tx p) f) (abort_rule_none tx p start)

  -- ---- those who wait

  read_none : (kept rest : List Waiter) (tx : TxId) (k : KeyId) (rs : Ts) (t : ServeTurn) (d : Doing) → NoRefusal d (Waiters.waiter_read here kept rest tx k rs t d).1
  unfolding replied
  read_none kept rest tx k rs (Give v u fc) d m h r =
      none_more d.sent (letter here tx.node (ReadReply tx k v u (stamp fc)) ∷ []) m (none_one (letter here tx.node (ReadReply tx k v u (stamp fc))) (λ z. z)) h r
  read_none kept rest tx k rs (ServeWait u) d m h r = h

  held_judged : (kept rest : List Waiter) (a : Arrived) (t : MasterTurn) (d : Doing) → d.view.waiters ≡ kept ++ Held a ∷ rest → master_turn d.view a ≡ t → Judged here input d (Waiters.waiter_held here kept rest a t d).1
  held_judged kept rest a (Accept ts) d q e m h r = inl (accepted_none a ts (with_waiters (kept ++ rest) d) m h r)
  held_judged kept rest a (Refuse u k) d q e m h r = refused_judged a u k (kept ++ rest) d (it_waits kept rest q) e m h r
  held_judged kept rest a (Park u) d q e m h r = inl h
  held_judged kept rest a Ignore d q e m h r = inl h

  wait_judged : (kept rest : List Waiter) (w : Waiter) (d : Doing) → d.view.waiters ≡ kept ++ w ∷ rest → Judged here input d (Waiters.waiter_turn here kept rest w d).1
  wait_judged kept rest (Read tx k rs) d q m h r = inl (read_none kept rest tx k rs (serve_turn d.view.versions k rs.0) d m h r)
  wait_judged kept rest (Held a) d q m h r = held_judged kept rest a (master_turn d.view a) d q refl m h r

  -- between two moments that follow one another
  pub link_judged : (start d e : Doing) → Link here input start d e → Judged here input d e
  link_judged start d e (l_evict from a i c) = none_judged (evict here a i start) (evict here a (Rattle.std.proofs.Common.suc i) start) (evict_one_none here a i (evict here a i start))
  link_judged start d e (l_rule r q) = rule_judged input start r refl q
  link_judged start d e (l_half i r) = none_judged (pass_to here i r) (Rattle.str_model.specs.Pass.half_turn here i (pass_to here i r)) (half_none here i (pass_to here i r))
  link_judged start d e (l_close i r) = none_judged (Rattle.str_model.specs.Pass.half_turn here i (pass_to here i r)) (Rattle.str_model.specs.Pass.turn here i (pass_to here i r)) (turn_none here i (pass_to here i r))
  link_judged start d e (l_wait kept rest w d' q) = wait_judged kept rest w d q
