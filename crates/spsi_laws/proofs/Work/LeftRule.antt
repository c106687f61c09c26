-- The rule of an input leaves less: at least 1 less than before with what the input counts for.
use Rattle.std.proofs.Common.{List, None, Option, Some, [], ap, append-nil, arith, false, is_some, length, nat_lt, not, option_map, refl, slice_get, sub-one, subst, suc, sym, true, zero, ℕ, ◌&&◌, ◌*◌, ◌++◌, ◌+◌, ◌-◌, ◌||◌, ◌∙◌, ◌∷◌, ◌≡◌, ◌≢◌, ◌≤◌}
use Rattle.std.proofs.lemmas.List.Sums.{sum_by-cons}
use Rattle.std.specs.List.{count_by, list_any, sum_by}
use Rattle.partition_map.specs.declared.rows.Asked.{Asked}
use Rattle.spsi_laws.proofs.Work.LeftActs.{Eases, eases_abort, eases_mark, eases_put, eases_request, eases_then, eases_waits, stays_eased, then_eases, waits_append, waits_cons, waits_left, waits_none, weights_cons, weights_none}
use Rattle.spsi_laws.proofs.Work.LeftHome.{Counted, HomeFit, mine, next_number}
use Rattle.spsi_laws.proofs.Work.LeftOwn.{few_asked, finish_left, left_active, left_closing, left_global, left_of, left_remote, left_reply, left_wait, named_left, rest_of, rest_some}
use Rattle.spsi_laws.proofs.Work.LeftPass.{accept_weight, at_own_eased, cert_done_eased, finish_place, fit_path, prepare_heavy}
use Rattle.str_base.specs.declared.names.Cause.TheVariants.{Conflict as ByConflict, Wish}
use Rattle.str_base.specs.declared.names.KeyId.{KeyId}
use Rattle.str_base.specs.declared.names.NodeId.{NodeId}
use Rattle.str_base.specs.declared.names.PartId.{PartId}
use Rattle.str_base.specs.declared.names.SessionId.{SessionId}
use Rattle.str_base.specs.declared.names.TxId.{TxId}
use Rattle.str_base.specs.declared.names.Value.{Value}
use Rattle.str_base.specs.declared.names.Value.TheVariants.{Absent}
use Rattle.str_base.specs.declared.names.Write.{Write}
use Rattle.str_base.specs.Versions.{same_key, same_node, same_part, stamp}
use Rattle.dependency_set.specs.Snapshots.{Snap}
use Rattle.str_model.proofs.Principle.SingleChanges.{Comes, InRule, IsMasters, NextPlace, is_first, is_next}
use Rattle.str_model.proofs.Changes.SnapshotsGain.{if_elim}
use Rattle.str_model.proofs.Principle.RulePaths.{evict-path}
use Rattle.str_model.specs.Acts.{abort_came, aborted, accepted, acked, asked_ones, begun, commit_came, copies, in_phase, marked, refused, replied, taken, waits}
use Rattle.str_model.specs.Arrivals
use Rattle.str_model.specs.Arrivals.{held_key}
use Rattle.str_model.specs.Clients
use Rattle.str_model.specs.Proposals.{Accept, Ignore, MasterTurn, Park, Refuse, prepare_turn, proposed, takes, ts_limit}
use Rattle.str_model.specs.Proposals
use Rattle.str_model.specs.Returns
use Rattle.str_model.specs.Returns.{has_asked, with_ack}
use Rattle.str_model.specs.Scripts
use Rattle.str_model.specs.Scripts.{finish, finish_next, known, noted, own_op}
use Rattle.str_model.specs.Steps
use Rattle.str_model.specs.Steps.{decides, drop_held}
use Rattle.str_model.specs.Strange
use Rattle.str_model.specs.Turns.{Away, Give, Plain, ReadTurn, ServeTurn, ServeWait, Speculative, Wait, cert_turn, read_turn, serve_turn}
use Rattle.str_model.specs.Views.{Aborted, Active, CertWait, Closing, Committed, Doing, Global, Own, Phase, ReadWait, Remote, Reply, View, is_decided, lc_of, letter, put, starts}
use Rattle.str_model.specs.Work.{body_weight, part_left, prepare_weight, waiter_left}
use Rattle.str_model.specs.declared.messages.Arrived.{Arrived}
use Rattle.str_model.specs.declared.messages.Body.{Body}
use Rattle.str_model.specs.declared.messages.Body.TheVariants.{Abort, Ack, Commit, Prepare, ReadReply, ReadReq, Refuse as Refusal, Replicate}
use Rattle.str_model.specs.declared.messages.Input.{Input}
use Rattle.str_model.specs.declared.messages.Input.TheVariants.{Client, Deliver}
use Rattle.str_model.specs.declared.messages.Message.{Message}
use Rattle.str_model.specs.declared.messages.Waiter.{Waiter}
use Rattle.str_model.specs.declared.messages.Waiter.TheVariants.{Held, Read}
use Rattle.str_model.specs.declared.names.KeyMark.{KeyMark}
use Rattle.str_scene.specs.declared.names.Op.{Op}
use Rattle.str_scene.specs.declared.names.Op.TheVariants.{Abort as Stop, Add, Del, Get, Need, Put, Puts}
use Rattle.str_scene.specs.declared.names.TxPlace.{TxPlace}
use Rattle.str_scene.specs.Scenes.{Here, Scene, Session, hosts_key, is_master, nth, replicas}
use Rattle.str_base.proofs.Tests.{and_true_left, and_true_right}
use Rattle.std.proofs.lemmas.Bool.{not-true}

-- what an input counts for
abbrev pub credit : Scene → Input → ℕ
credit scene (Client s t) = 0
credit scene (Deliver m) = body_weight scene m.body

-- a transaction begins: the next one of a session of this node
pub record BeginsOne (here : Here) (d e : Doing) : Type 0 where
  pub place : TxPlace
  pub rs : ℕ
  pub text : Session
  pub ops : List Op
  pub session : nth here.scene.sessions place.session.0 ≡ Some text
  pub node : same_node text.node here.node ≡ true
  pub script : nth text.txs place.index ≡ Some ops
  pub number : place.index ≡ count_by (mine place.session.0) d.view.own + 1
  pub is : e ≡ begun place rs d

-- what a rule leaves
pub data Ruled (here : Here) (d : Doing) (cost : ℕ) (e : Doing) : Type 0 where
  r_eased : Eases here d e 1 cost → Ruled here d cost e
  r_begins : BeginsOne here d e → Ruled here d cost e

abbrev pub RuledTo : Here → Doing → ℕ → Option Doing → Type 0
RuledTo here d cost None = Unit {0}
RuledTo here d cost (Some e) = Ruled here d cost e

module _ (here : Here) where
  -- ---- a client step

  begin_ruled : (place : TxPlace) (t : ℕ) (text : Session) (o : Option (List Op)) (d : Doing) → nth here.scene.sessions place.session.0 ≡ Some text → same_node text.node here.node ≡ true
      → nth text.txs place.index ≡ o → NextPlace d.view.own place → Counted d.view.own → RuledTo here d 0 (Clients.begin here place t o d)
  begin_ruled place t text None d s n q x c = tt
  begin_ruled place t text (Some ops) d s n q x c =
      r_begins (record { place = place; rs = _; text = text; ops = ops; session = s; node = n; script = q; number = next_number d.view.own place x c; is = refl })

  -- an operation is finished
  finished_eased : (i : ℕ) (op : Op) (v : Value) (x y : Own) (d : Doing) → slice_get d.view.own i ≡ Some x → x.phase ≡ Active → own_op here x ≡ Some op → (op ≡ Stop → ⊥)
      → y.place ≡ x.place → left_of here y ≤ 3 * (rest_of here x - 1) + (1 + named_left here x.place) → Eases here d (put i y d) 1 0
  finished_eased i op v x y d o a q n p l =
      let k = left_active here x a in
      let r = rest_some here x op q in
      eases_put here d i x y 1 0 o p (omega (arith, k, r, l))

  noted_finish : (op : Op) (k : KeyId) (v : Value) (by : Option TxId) (snap : Snap) (x : Own) → (op ≡ Stop → ⊥) → left_of here (finish op v (noted k v by snap x)) ≤ 3 * (rest_of here x - 1) + (1 + named_left here x.place)
  unfolding rest_of
  noted_finish op k v by snap x n = finish_left here op v (noted k v by snap x) n

  value_ruled : (i : ℕ) (op : Op) (k : KeyId) (v : Value) (by : Option TxId) (snap : Snap) (x : Own) (d : Doing) → slice_get d.view.own i ≡ Some x → x.phase ≡ Active → own_op here x ≡ Some op → (op ≡ Stop → ⊥)
      → Eases here d (Scripts.with_value here i k v by snap x d) 1 0
  value_ruled i op k v by snap x d o a q n =
      subst (λ (z : Option Op). Eases here d (put i (finish_next z v (noted k v by snap x)) d) 1 0) (sym q)
      (finished_eased i op v x (finish op v (noted k v by snap x)) d o a q n (finish_place op v (noted k v by snap x)) (noted_finish op k v by snap x n))

  read_ruled : (i : ℕ) (op : Op) (k : KeyId) (x : Own) (t : ReadTurn) (d : Doing) → slice_get d.view.own i ≡ Some x → x.phase ≡ Active → own_op here x ≡ Some op → (op ≡ Stop → ⊥)
      → Eases here d (Scripts.read_done here i k x t d) 1 0
  unfolding rest_of
  read_ruled i op k x (Plain v by fc snap) d o a q n = value_ruled i op k v by snap x d o a q n
  read_ruled i op k x (Speculative v by snap) d o a q n = value_ruled i op k v (Some by) snap x d o a q n
  read_ruled i op k x (Wait by) d o a q n =
      let e = left_active here x a in
      let r = rest_some here x op q in
      let w : left_of here (in_phase (ReadWait k) x) ≡ 3 * (rest_of here x - 1) + (3 + named_left here x.place) = left_wait here (in_phase (ReadWait k) x) k refl in
      eases_put here d i x (in_phase (ReadWait k) x) 1 0 o refl (omega (arith, e, r, w))
  read_ruled i op k x (Away m) d o a q n =
      let e = left_active here x a in
      let r = rest_some here x op q in
      let w : left_of here (in_phase (Remote k) x) ≡ 3 * (rest_of here x - 1) + (1 + named_left here x.place) = left_remote here (in_phase (Remote k) x) k refl in
      eases_request here i k m x d 1 o (omega (arith, e, r, w))

  value_known : (i : ℕ) (op : Op) (k : KeyId) (x : Own) (v : Option Value) (d : Doing) → slice_get d.view.own i ≡ Some x → x.phase ≡ Active → own_op here x ≡ Some op → (op ≡ Stop → ⊥)
      → Eases here d (Scripts.need_value here i op k x v d) 1 0
  unfolding Scripts.read_now marked
  value_known i op k x (Some v) d o a q n = finished_eased i op v x (finish op v x) d o a q n (finish_place op v x) (finish_left here op v x n)
  value_known i op k x None d o a q n =
      then_eases here d (marked k x.snap.rs d) (Scripts.read_done here i k x (read_turn here d.view x.snap k) (marked k x.snap.rs d)) 1 0 (eases_mark here k x.snap.rs d)
      (read_ruled i op k x (read_turn here d.view x.snap k) (marked k x.snap.rs d) o a q n)

  blind : (i : ℕ) (op : Op) (x : Own) (d : Doing) → slice_get d.view.own i ≡ Some x → x.phase ≡ Active → own_op here x ≡ Some op → (op ≡ Stop → ⊥) → Eases here d (put i (finish op Absent x) d) 1 0
  blind i op x d o a q n = finished_eased i op Absent x (finish op Absent x) d o a q n (finish_place op Absent x) (finish_left here op Absent x n)

  -- an active transaction has asked nobody
  none_asked : (d : Doing) (i : ℕ) (x : Own) → HomeFit here d.view → slice_get d.view.own i ≡ Some x → x.phase ≡ Active → length (asked_ones x.parts) ≡ 0
  none_asked d i x h o a = ap (λ ps. length (asked_ones ps)) ((h.home i x o).none (ap lc_of a))

  op_ruled : (i : ℕ) (x : Own) (op : Op) (d : Doing) → HomeFit here d.view → slice_get d.view.own i ≡ Some x → x.phase ≡ Active → own_op here x ≡ Some op → Eases here d (Scripts.do_op here i x op d) 1 0
  op_ruled i x (Get k) d h o a q = value_known i (Get k) k x (known x k) d o a q (λ z. cc z)
  op_ruled i x (Put k n) d h o a q = blind i (Put k n) x d o a q (λ z. cc z)
  op_ruled i x (Puts k t) d h o a q = blind i (Puts k t) x d o a q (λ z. cc z)
  op_ruled i x (Add k n) d h o a q = value_known i (Add k n) k x (known x k) d o a q (λ z. cc z)
  op_ruled i x (Del k) d h o a q = blind i (Del k) x d o a q (λ z. cc z)
  op_ruled i x (Need k n) d h o a q = value_known i (Need k n) k x (known x k) d o a q (λ z. cc z)
  op_ruled i x Stop d h o a q =
      let e = left_active here x a in
      let z = none_asked d i x h o a in
      eases_abort here i Wish x d 1 0 o (omega (arith, e, z))

  commit_ruled : (i : ℕ) (x : Own) (ws : List Write) (d : Doing) → HomeFit here d.view → slice_get d.view.own i ≡ Some x → x.phase ≡ Active → Eases here d (Scripts.ask_commit here i x ws d) 1 0
  unfolding Scripts.certify_now rest_of
  commit_ruled i x [] d h o a =
      let e = left_active here x a in
      let c : left_of here (in_phase (Closing false) x) ≡ 3 * (rest_of here x - 1) + named_left here x.place = left_closing here (in_phase (Closing false) x) false refl in
      eases_put here d i x (in_phase (Closing false) x) 1 0 o refl (omega (arith, e, c))
  commit_ruled i x (w ∷ ws) d h o a =
      let e = left_active here x a in
      let z = none_asked d i x h o a in
      cert_done_eased here i x (cert_turn here d.view x.snap x.writes) d 1 o h (omega (arith, e)) (omega (arith, e, z))

  next_ruled : (i : ℕ) (x : Own) (op : Option Op) (d : Doing) → HomeFit here d.view → slice_get d.view.own i ≡ Some x → x.phase ≡ Active → own_op here x ≡ op → Eases here d (Scripts.op_or_commit here i x op d) 1 0
  next_ruled i x (Some op) d h o a q = op_ruled i x op d h o a q
  next_ruled i x None d h o a q = commit_ruled i x x.writes d h o a

  go_on_ruled : (s : SessionId) (t : ℕ) (text : Session) (i : ℕ) (x : Own) (p : Phase) (d : Doing) → HomeFit here d.view → nth here.scene.sessions s.0 ≡ Some text → same_node text.node here.node ≡ true
      → Clients.last_index (Clients.of_session s) d.view.own ≡ Some i → slice_get d.view.own i ≡ Some x → x.phase ≡ p → RuledTo here d 0 (Clients.go_on here s t text i x p d)
  go_on_ruled s t text i x Active d h se ne la o e = r_eased (next_ruled i x (own_op here x) d h o e refl)
  go_on_ruled s t text i x (Committed lc fc) d h se ne la o e =
      begin_ruled (Clients.place_in s (x.place.index + 1)) t text (nth text.txs (x.place.index + 1)) d se ne refl (is_next i x la o (ap is_decided e) refl) h.counted
  go_on_ruled s t text i x (Aborted lc cause) d h se ne la o e =
      begin_ruled (Clients.place_in s (x.place.index + 1)) t text (nth text.txs (x.place.index + 1)) d se ne refl (is_next i x la o (ap is_decided e) refl) h.counted
  go_on_ruled s t text i x _ d h se ne la o e = tt

  go_on_at_ruled : (s : SessionId) (t : ℕ) (text : Session) (i : ℕ) (o : Option Own) (d : Doing) → HomeFit here d.view → nth here.scene.sessions s.0 ≡ Some text → same_node text.node here.node ≡ true
      → Clients.last_index (Clients.of_session s) d.view.own ≡ Some i → slice_get d.view.own i ≡ o → RuledTo here d 0 (Clients.go_on_at here s t text i o d)
  go_on_at_ruled s t text i None d h se ne la e = tt
  go_on_at_ruled s t text i (Some x) d h se ne la e = go_on_ruled s t text i x x.phase d h se ne la e refl

  go_on_last_ruled : (s : SessionId) (t : ℕ) (text : Session) (o : Option ℕ) (d : Doing) → HomeFit here d.view → nth here.scene.sessions s.0 ≡ Some text → same_node text.node here.node ≡ true
      → Clients.last_index (Clients.of_session s) d.view.own ≡ o → RuledTo here d 0 (Clients.go_on_last here s t text o d)
  go_on_last_ruled s t text None d h se ne la = begin_ruled (Clients.place_in s 1) t text (nth text.txs 1) d se ne refl (is_first la refl) h.counted
  go_on_last_ruled s t text (Some i) d h se ne la = go_on_at_ruled s t text i (slice_get d.view.own i) d h se ne la refl

  in_session_ruled : (s : SessionId) (t : ℕ) (o : Option Session) (d : Doing) → HomeFit here d.view → nth here.scene.sessions s.0 ≡ o → RuledTo here d 0 (Clients.in_session here s t o d)
  in_session_ruled s t None d h se = tt
  in_session_ruled s t (Some text) d h se =
      if_elim (RuledTo here d 0) (same_node text.node here.node) (Clients.go_on_last here s t text (Clients.last_index (Clients.of_session s) d.view.own) d) None
      (λ e. go_on_last_ruled s t text (Clients.last_index (Clients.of_session s) d.view.own) d h se e refl) (λ e. tt)

  client_ruled : (s : SessionId) (t : ℕ) (d : Doing) → HomeFit here d.view → RuledTo here d 0 (Clients.client_rule here s t d)
  unfolding Clients.client_rule
  client_ruled s t d h = in_session_ruled s t (nth here.scene.sessions s.0) d h refl

  -- ---- messages to a replica

  -- what is sent, where nobody begins or ceases to wait
  sends_one : (d e : Doing) (m : Message) (g c : ℕ) → e.view.own ≡ d.view.own → e.view.waiters ≡ d.view.waiters → e.sent ≡ d.sent ++ m ∷ [] → body_weight here.scene m.body + g ≤ c → Eases here d e g c
  sends_one d e m g c o w s l =
      eases_waits here d e (m ∷ []) g c o s
      (let k : waits_left here.scene e.view.waiters ≡ waits_left here.scene d.view.waiters = ap (waits_left here.scene) w in
      let a = weights_cons here.scene m [] in
      let z = weights_none here.scene in
      omega (arith, k, a, z, l))

  begins_waiting : (d : Doing) (r : Waiter) (c : ℕ) → waiter_left here.scene r + 1 ≤ c → Eases here d (waits r d) 1 c
  unfolding waits
  begins_waiting d r c l =
      eases_waits here d (waits r d) [] 1 c refl (sym (append-nil d.sent))
      (let a = waits_append here.scene d.view.waiters (r ∷ []) in
      let b = waits_cons here.scene r [] in
      let n = waits_none here.scene in
      let z = weights_none here.scene in
      omega (arith, a, b, n, z, l))

  serve_ruled : (tx : TxId) (k : KeyId) (rs : ℕ) (t : ServeTurn) (d : Doing) → Eases here d (Arrivals.serve_done here tx k rs t d) 1 2
  unfolding replied
  serve_ruled tx k rs (Give v by fc) d = sends_one d (replied here tx k v by fc d) (letter here tx.node (ReadReply tx k v by (stamp fc))) 1 2 refl refl refl (omega arith)
  serve_ruled tx k rs (ServeWait by) d = begins_waiting d (Read tx k (stamp rs)) 2 (omega arith)

  read_req_ruled : (tx : TxId) (k : KeyId) (rs : ℕ) (d : Doing) → RuledTo here d 2 (Arrivals.read_req here tx k rs d)
  unfolding Arrivals.read_req
  read_req_ruled tx k rs d =
      if_elim (RuledTo here d 2) (hosts_key here k && (not (same_node tx.node here.node) && not (list_any (Arrivals.waits_read tx k) d.view.waiters)))
      (Some (Arrivals.serve_done here tx k rs (serve_turn d.view.versions k rs) (marked k rs d))) None
      (λ e. r_eased (then_eases here d (marked k rs d) (Arrivals.serve_done here tx k rs (serve_turn d.view.versions k rs) (marked k rs d)) 1 2 (eases_mark here k rs d) (serve_ruled tx k rs (serve_turn d.view.versions k rs) (marked k rs d)))) (λ e. tt)

  judges : (a : Arrived) (d : Doing) → prepare_turn here d.view a ≢ Ignore → IsMasters here a
  unfolding prepare_turn
  judges a d =
      if_elim (λ t. t ≢ Ignore → IsMasters here a)
      (is_master here.scene here.node a.part && (not (same_node a.tx.node here.node) && not (Proposals.is_known d.view a.tx a.part || Proposals.is_parked d.view a.tx a.part)))
      (Proposals.master_turn d.view a) Ignore
      (λ e h. record { master = and_true_left _ _ e; foreign = not-true (same_node a.tx.node here.node) (and_true_left _ _ (and_true_right _ _ e)) })
      (λ e h. absurd (h refl))

  master_ruled : (a : Arrived) (t : MasterTurn) (d : Doing) → (t ≢ Ignore → IsMasters here a) → RuledTo here d (prepare_weight here.scene a.tx a.part) (Arrivals.master_done here a t d)
  unfolding accepted refused
  master_ruled a (Accept ts) d f =
      let m = f (λ q. cc q) in
      r_eased (eases_waits here d (accepted here a ts d) (letter here a.tx.node (Ack a.tx a.part (stamp ts)) ∷ copies here a (replicas here.scene a.part)) 1 (prepare_weight here.scene a.tx a.part) refl refl
      (let w = accept_weight here a ts m in omega (arith, w)))
  master_ruled a (Refuse u k) d f =
      let m = f (λ q. cc q) in
      r_eased (sends_one d (refused here a u k d) (letter here a.tx.node (Refusal a.tx a.part u k)) 1 (prepare_weight here.scene a.tx a.part) refl refl refl (let w = prepare_heavy here a m in omega (arith, w)))
  master_ruled a (Park u) d f =
      let m = f (λ q. cc q) in
      r_eased (begins_waiting d (Held a) (prepare_weight here.scene a.tx a.part) (let w = prepare_heavy here a m in omega (arith, w)))
  master_ruled a Ignore d f = tt

  prepare_ruled : (a : Arrived) (d : Doing) → RuledTo here d (prepare_weight here.scene a.tx a.part) (Arrivals.prepare_rule here a d)
  unfolding Arrivals.prepare_rule
  prepare_ruled a d = master_ruled a (prepare_turn here d.view a) d (judges a d)

  -- ---- a Replicate

  evict_at_eased : (a : Arrived) (i : ℕ) (x : Own) (o : Option Write) (d : Doing) → HomeFit here d.view → slice_get d.view.own i ≡ Some x → is_decided x.phase ≡ false → Eases here d (Arrivals.evict_at here a i x o d) 0 0
  evict_at_eased a i x None d h o f = stays_eased here d
  evict_at_eased a i x (Some w) d h o f =
      eases_abort here i (ByConflict a.tx w.key here.node) x d 0 0 o (let k = few_asked here d.view.versions i x (h.home i x o) f in omega (arith, k))

  module _ (input : Input) where
    evict_eased : (a : Arrived) (from : NodeId) (n : ℕ) (d : Doing) → Comes here input from (Replicate a.tx a.part a.rs a.lc a.writes) → HomeFit here d.view → Eases here d (Arrivals.evict here a n d) 0 0
    evict_eased a from zero d c h = stays_eased here d
    evict_eased a from (suc i) d c h =
        let e : Doing = Arrivals.evict here a i d in
        let k = fit_path here input InRule d e (evict-path here input InRule refl a from i d c) h in
        eases_then here d e (Scripts.at_own i (Arrivals.evict_own here a i) e) 0 0 (evict_eased a from i d c h)
        (at_own_eased here i (Arrivals.evict_own here a i) e (λ x o f. evict_at_eased a i x (held_key e.view.versions (Rattle.str_model.specs.Views.name_of here i) a.writes) e k o f))

    take_ruled : (a : Arrived) (d e : Doing) → Eases here d e 0 0 → RuledTo here d 2 (Arrivals.take_if here a e)
    unfolding taken
    take_ruled a d e l =
        if_elim (RuledTo here d 2) (nat_lt (proposed e.view a) ts_limit) (Some (taken here a (proposed e.view a) e)) None
        (λ q. r_eased (then_eases here d e (taken here a (proposed e.view a) e) 1 2 l (sends_one e (taken here a (proposed e.view a) e) (letter here a.tx.node (Ack a.tx a.part (stamp (proposed e.view a)))) 1 2 refl refl refl (omega arith)))) (λ q. tt)

    replicate_ruled : (a : Arrived) (from : NodeId) (d : Doing) → Comes here input from (Replicate a.tx a.part a.rs a.lc a.writes) → HomeFit here d.view → RuledTo here d 2 (Arrivals.replicate_rule here a d)
    unfolding Arrivals.replicate_rule
    replicate_ruled a from d c h =
        if_elim (RuledTo here d 2) (takes here d.view a) (Arrivals.take_if here a (Arrivals.evict here a (length d.view.own) d)) None
        (λ e. take_ruled a d (Arrivals.evict here a (length d.view.own) d) (evict_eased a from (length d.view.own) d c h)) (λ e. tt)

    -- ---- messages to the origin

    named_at : (tx : TxId) (d : Doing) (x : Own) → Returns.own_named here tx d ≡ Some x → slice_get d.view.own (tx.seq - 1) ≡ Some x
    named_at tx d x =
        if_elim (λ o. o ≡ Some x → slice_get d.view.own (tx.seq - 1) ≡ Some x) (same_node tx.node here.node) (nth d.view.own tx.seq) None (λ e q. at tx.seq q) (λ e q. absurd (cc q))
      where
        at : (n : ℕ) → nth d.view.own n ≡ Some x → slice_get d.view.own (n - 1) ≡ Some x
        at zero q = absurd (cc q)
        at (suc k) q = rw sub-one q

    reply_phase_ruled : (i : ℕ) (x : Own) (k : KeyId) (v : Value) (by : Option TxId) (fc : ℕ) (p : Phase) (d : Doing) → slice_get d.view.own i ≡ Some x → x.phase ≡ p → RuledTo here d 1 (Returns.reply_phase i x k v by fc p d)
    unfolding rest_of
    reply_phase_ruled i x k v by fc (Remote l) d o e =
        if_elim (RuledTo here d 1) (same_key l k) (Some (put i (in_phase (Reply k v by fc) x) d)) None
        (λ q. r_eased (eases_put here d i x (in_phase (Reply k v by fc) x) 1 1 o refl
        (let a = left_remote here x l e in
        let b : left_of here (in_phase (Reply k v by fc) x) ≡ 3 * (rest_of here x - 1) + (1 + named_left here x.place) = left_reply here (in_phase (Reply k v by fc) x) k v by fc refl in
        omega (arith, a, b)))) (λ q. tt)
    reply_phase_ruled i x k v by fc _ d o e = tt

    reply_own_ruled : (i : ℕ) (k : KeyId) (v : Value) (by : Option TxId) (fc : ℕ) (x : Option Own) (d : Doing) → ((y : Own) → x ≡ Some y → slice_get d.view.own i ≡ Some y) → RuledTo here d 1 (Returns.reply_own i k v by fc x d)
    reply_own_ruled i k v by fc None d f = tt
    reply_own_ruled i k v by fc (Some x) d f = reply_phase_ruled i x k v by fc x.phase d (f x refl) refl

    read_reply_ruled : (tx : TxId) (k : KeyId) (v : Value) (by : Option TxId) (fc : ℕ) (d : Doing) → RuledTo here d 1 (Returns.read_reply here tx k v by fc d)
    unfolding Returns.read_reply
    read_reply_ruled tx k v by fc d = reply_own_ruled (tx.seq - 1) k v by fc (Returns.own_named here tx d) d (λ y q. named_at tx d y q)

    -- an answer changes no weight
    acks_same : (old : List Asked) (p : PartId) (from : NodeId) (ts : ℕ) (new : List Asked) → with_ack old p from ts ≡ Some new → sum_by part_left new ≡ sum_by part_left old
    acks_same [] p from ts new e = absurd (cc e)
    acks_same (a ∷ old) p from ts new e0 =
        (if_elim (λ o. o ≡ Some new → sum_by part_left new ≡ sum_by part_left (a ∷ old)) (same_part a.part p && (same_node a.node from && (a.asked && not (is_some a.ack))))
        (Some (record a { ack = Some (stamp ts) } ∷ old)) (option_map (λ bs. a ∷ bs) (with_ack old p from ts))
        (λ t e. let is : record a { ack = Some (stamp ts) } ∷ old ≡ new = cc e in ap (sum_by part_left) (sym is) ∙ (let x = sum_by-cons part_left (record a { ack = Some (stamp ts) }) old in let y = sum_by-cons part_left a old in omega (arith, x, y)))
        (λ t e. later_ (with_ack old p from ts) (acks_same old p from ts) e)) e0
      where
        later_ : (o : Option (List Asked)) → ((bs : List Asked) → o ≡ Some bs → sum_by part_left bs ≡ sum_by part_left old) → option_map (λ bs. a ∷ bs) o ≡ Some new → sum_by part_left new ≡ sum_by part_left (a ∷ old)
        later_ None rec e = absurd (cc e)
        later_ (Some bs) rec e =
            let is : a ∷ bs ≡ new = cc e in
            let r = rec bs refl in
            let x = sum_by-cons part_left a bs in
            let y = sum_by-cons part_left a old in
            ap (sum_by part_left) (sym is) ∙ omega (arith, r, x, y)

    ack_kept_ruled : (i lc : ℕ) (x : Own) (p : PartId) (from : NodeId) (ts : ℕ) (o : Option (List Asked)) (d : Doing) → slice_get d.view.own i ≡ Some x → x.phase ≡ Global lc → with_ack x.parts p from ts ≡ o
        → RuledTo here d 1 (Returns.ack_kept i x o d)
    unfolding acked
    ack_kept_ruled i lc x p from ts None d o e q = tt
    ack_kept_ruled i lc x p from ts (Some parts) d o e q =
        r_eased (eases_put here d i x (record x { parts = parts }) 1 1 o refl
        (let a = left_global here x lc e in
        let b = left_global here (record x { parts = parts }) lc e in
        let c = acks_same x.parts p from ts parts q in
        omega (arith, a, b, c)))

    ack_phase_ruled : (i : ℕ) (x : Own) (from : NodeId) (p : PartId) (ts : ℕ) (ph : Phase) (d : Doing) → slice_get d.view.own i ≡ Some x → x.phase ≡ ph → RuledTo here d 1 (Returns.ack_phase i x from p ts ph d)
    ack_phase_ruled i x from p ts (Global lc) d o e = ack_kept_ruled i lc x p from ts (with_ack x.parts p from ts) d o e refl
    ack_phase_ruled i x from p ts _ d o e = tt

    ack_own_ruled : (i : ℕ) (from : NodeId) (p : PartId) (ts : ℕ) (x : Option Own) (d : Doing) → ((y : Own) → x ≡ Some y → slice_get d.view.own i ≡ Some y) → RuledTo here d 1 (Returns.ack_own i from p ts x d)
    ack_own_ruled i from p ts None d f = tt
    ack_own_ruled i from p ts (Some x) d f = ack_phase_ruled i x from p ts x.phase d (f x refl) refl

    ack_ruled : (from : NodeId) (tx : TxId) (p : PartId) (ts : ℕ) (d : Doing) → RuledTo here d 1 (Returns.ack_rule here from tx p ts d)
    unfolding Returns.ack_rule
    ack_ruled from tx p ts d = ack_own_ruled (tx.seq - 1) from p ts (Returns.own_named here tx d) d (λ y q. named_at tx d y q)

    refuse_phase_ruled : (i : ℕ) (x : Own) (from : NodeId) (p : PartId) (u : TxId) (k : KeyId) (ph : Phase) (d : Doing) → HomeFit here d.view → slice_get d.view.own i ≡ Some x → x.phase ≡ ph
        → RuledTo here d 1 (Returns.refuse_phase here i x from p u k ph d)
    refuse_phase_ruled i x from p u k (Global lc) d h o e =
        if_elim (RuledTo here d 1) (has_asked x.parts p && is_master here.scene from p) (Some (aborted here i (ByConflict u k from) x d)) None
        (λ q. r_eased (eases_abort here i (ByConflict u k from) x d 1 1 o (let z = few_asked here d.view.versions i x (h.home i x o) (ap is_decided e) in omega (arith, z)))) (λ q. tt)
    refuse_phase_ruled i x from p u k _ d h o e = tt

    refuse_own_ruled : (i : ℕ) (from : NodeId) (p : PartId) (u : TxId) (k : KeyId) (x : Option Own) (d : Doing) → HomeFit here d.view → ((y : Own) → x ≡ Some y → slice_get d.view.own i ≡ Some y)
        → RuledTo here d 1 (Returns.refuse_own here i from p u k x d)
    refuse_own_ruled i from p u k None d h f = tt
    refuse_own_ruled i from p u k (Some x) d h f = refuse_phase_ruled i x from p u k x.phase d h (f x refl) refl

    refuse_ruled : (from : NodeId) (tx : TxId) (p : PartId) (u : TxId) (k : KeyId) (d : Doing) → HomeFit here d.view → RuledTo here d 1 (Returns.refuse_rule here from tx p u k d)
    unfolding Returns.refuse_rule
    refuse_ruled from tx p u k d h = refuse_own_ruled (tx.seq - 1) from p u k (Returns.own_named here tx d) d h (λ y q. named_at tx d y q)

    -- ---- decisions

    dropped_less : (tx : TxId) (p : PartId) (ws : List Waiter) → waits_left here.scene (drop_held tx p ws) ≤ waits_left here.scene ws
    dropped_less tx p [] = omega arith
    dropped_less tx p (w ∷ ws) =
        let r = dropped_less tx p ws in
        let a = waits_cons here.scene w ws in
        let b = waits_cons here.scene w (drop_held tx p ws) in
        if_elim (λ zs. waits_left here.scene zs ≤ waits_left here.scene (w ∷ ws)) (Proposals.holds_pair tx p w) ws (w ∷ drop_held tx p ws) (λ q. omega (arith, a)) (λ q. omega (arith, r, a, b))

    commit_came_ruled : (tx : TxId) (p : PartId) (fc : ℕ) (ms : List KeyMark) (d : Doing) → Eases here d (commit_came tx p fc ms d) 1 1
    unfolding commit_came
    commit_came_ruled tx p fc ms d = eases_waits here d (commit_came tx p fc ms d) [] 1 1 refl (sym (append-nil d.sent)) (let z = weights_none here.scene in omega (arith, z))

    abort_came_ruled : (tx : TxId) (p : PartId) (d : Doing) → Eases here d (abort_came tx p (drop_held tx p d.view.waiters) d) 1 1
    unfolding abort_came
    abort_came_ruled tx p d =
        eases_waits here d (abort_came tx p (drop_held tx p d.view.waiters) d) [] 1 1 refl (sym (append-nil d.sent)) (let z = weights_none here.scene in let k = dropped_less tx p d.view.waiters in omega (arith, z, k))

    -- ---- the rule of an input

    body_ruled : (from : NodeId) (b : Body) (d : Doing) → Comes here input from b → HomeFit here d.view → RuledTo here d (body_weight here.scene b) (Steps.body_rule here from b d)
    body_ruled from (ReadReq tx k rs) d c h = read_req_ruled tx k rs.0 d
    body_ruled from (ReadReply tx k v by fc) d c h = read_reply_ruled tx k v by fc.0 d
    body_ruled from (Prepare tx p rs lc ws) d c h = prepare_ruled (record { tx = tx; part = p; rs = rs; lc = lc; writes = ws }) d
    body_ruled from (Refusal tx p u k) d c h = refuse_ruled from tx p u k d h
    body_ruled from (Replicate tx p rs lc ws) d c h = replicate_ruled (record { tx = tx; part = p; rs = rs; lc = lc; writes = ws }) from d c h
    body_ruled from (Ack tx p ts) d c h = ack_ruled from tx p ts.0 d
    body_ruled from (Commit tx p fc ms) d c h = if_elim (RuledTo here d 1) (decides here tx p d.view) (Some (commit_came tx p fc.0 ms d)) None (λ q. r_eased (commit_came_ruled tx p fc.0 ms d)) (λ q. tt)
    body_ruled from (Abort tx p) d c h =
        if_elim (RuledTo here d 1) (decides here tx p d.view) (Some (abort_came tx p (drop_held tx p d.view.waiters) d)) None (λ q. r_eased (abort_came_ruled tx p d)) (λ q. tt)

    rule_of_ruled : (i : Input) (d : Doing) → input ≡ i → HomeFit here d.view → RuledTo here d (credit here.scene i) (Steps.rule here i d)
    unfolding Steps.rule
    rule_of_ruled (Client s t) d e h = client_ruled s t d h
    rule_of_ruled (Deliver m) d e h =
        if_elim (RuledTo here d (body_weight here.scene m.body)) (Strange.is_valid here m) (Steps.body_rule here m.sender m.body d) None
        (λ q. body_ruled m.sender m.body d (m, e, refl, refl, q) h) (λ q. tt)

    pub rule_ruled : (d : Doing) → HomeFit here d.view → RuledTo here d (credit here.scene input) (Steps.rule here input d)
    rule_ruled d h = rule_of_ruled input d refl h
