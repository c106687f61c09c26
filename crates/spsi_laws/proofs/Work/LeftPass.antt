-- The pass and those who wait never raise what is left.
use Rattle.std.proofs.Common.{Bool, List, None, Option, Some, [], ap, arith, eq-eqb, eqb-true, false, filter, if◌then◌else◌, inl, length, map, not, refl, slice_get, subst, suc, sym, true, zero, ℕ, ◌*◌, ◌++◌, ◌+◌, ◌-◌, ◌∙◌, ◌∷◌, ◌≡◌, ◌≤◌}
use Rattle.spsi_laws.proofs.Work.LeftActs.{Eases, eases_abort, eases_ask, eases_certify, eases_close, eases_commit, eases_mark, eases_put, eases_request, eases_then, eases_waits, stays_eased, waits_append, waits_cons, waits_left, weights, weights_cons, weights_map, weights_none}
use Rattle.spsi_laws.proofs.Work.LeftHome.{HomeFit, fit-act}
use Rattle.spsi_laws.proofs.Work.LeftOwn.{few_asked, finish_next_left, left_gate, left_noted, left_of, left_remote, left_reply, left_snap, left_wait, named_left, rest_of}
use Rattle.str_base.specs.declared.names.Cause.TheVariants.{Conflict as ByConflict, Late as IsLate, Lost as IsLost, Wish}
use Rattle.str_base.specs.declared.names.KeyId.{KeyId}
use Rattle.str_base.specs.declared.names.NodeId.{NodeId}
use Rattle.str_base.specs.declared.names.TxId.{TxId}
use Rattle.str_base.specs.declared.names.Value.{Value}
use Rattle.str_base.specs.Values.{is_below}
use Rattle.str_base.specs.Versions.{same_node, stamp}
use Rattle.dependency_set.specs.Snapshots.{Snap}
use Rattle.str_model.proofs.Principle.SingleChanges.{InTurn, InWait, IsMasters, Path, Where, act_ask, along}
use Rattle.str_model.proofs.Principle.StepPaths.{first-path, half_turn-path, resolved_first, turn-path, waiter_turn-waited}
use Rattle.str_model.proofs.Changes.SnapshotsGain.{if_elim}
use Rattle.str_model.specs.Acts.{aborted, accepted, asked, copies, in_phase, marked, placed, refused, replied, with_waiters}
use Rattle.str_model.specs.Gates.{Ask, CommitAt, GateTurn, Missing, Shut, dep_parts, gate_of}
use Rattle.str_model.specs.Pass
use Rattle.str_model.specs.Proposals.{Accept, Ignore, MasterTurn, Park, Refuse, master_turn}
use Rattle.str_model.specs.Scripts
use Rattle.str_model.specs.Scripts.{finish, finish_next, noted, own_op}
use Rattle.str_model.specs.Turns.{Away, CertTurn, Certified, Conflict, DepTurn, Give, Keep, Late, Lost, Plain, ReadTurn, ServeTurn, ServeWait, Speculative, Wait, WaitGate, cert_turn, dep_turn, left_by, read_turn, reply_turn, serve_turn}
use Rattle.str_model.specs.Views.{CertWait, Closing, Doing, Global, Local, Own, Phase, ReadWait, Remote, Reply, View, is_decided, lc_of, letter, put}
use Rattle.str_model.specs.Waiters
use Rattle.str_model.specs.Work.{prepare_weight, waiter_left}
use Rattle.str_model.specs.declared.messages.Arrived.{Arrived}
use Rattle.str_model.specs.declared.messages.Body.TheVariants.{Ack, Replicate, ReadReply, Refuse as Refusal}
use Rattle.str_model.specs.declared.messages.Input.{Input}
use Rattle.str_model.specs.declared.messages.Waiter.{Waiter}
use Rattle.str_model.specs.declared.messages.Waiter.TheVariants.{Held, Read}
use Rattle.str_scene.specs.declared.names.Op.{Op}
use Rattle.str_scene.specs.declared.names.Op.TheVariants.{Abort as Stop, Add, Del, Get, Need, Put, Puts}
use Rattle.str_scene.specs.Scenes.{Here, leads, others, replicas}
use Rattle.std.proofs.lemmas.Bool.{false_from_ne_true}
use Rattle.str_base.proofs.Lists.{get_set}
use Rattle.str_base.proofs.Members.{in_right}
use Rattle.str_base.specs.Members.{In}

-- the place stays
pub finish_place : (op : Op) (v : Value) (x : Own) → (finish op v x).place ≡ x.place
finish_place (Get k) v x = refl
finish_place (Put k n) v x = refl
finish_place (Puts k t) v x = refl
finish_place (Add k n) v x = refl
finish_place (Del k) v x = refl
finish_place (Need k n) v x = if_elim (λ (y : Own). y.place ≡ x.place) (is_below v n) (record x { phase = Closing true }) (record x { next = x.next + 1; phase = Rattle.str_model.specs.Views.Active }) (λ e. refl) (λ e. refl)
finish_place Stop v x = refl

pub finish_next_place : (o : Option Op) (v : Value) (x : Own) → (finish_next o v x).place ≡ x.place
finish_next_place None v x = refl
finish_next_place (Some op) v x = finish_place op v x

filter_both : {A : Type 0} (p q : A → Bool) (xs : List A) → length (filter p (filter q xs)) ≤ length (filter p xs)
filter_both p q [] = omega arith
filter_both {A = A} p q (x ∷ xs) = by_tests (p x) (q x) refl (filter_both p q xs)
  where
    by_tests : (a b : Bool) → p x ≡ a → length (filter p (filter q xs)) ≤ length (filter p xs)
        → length (filter p (if b then x ∷ filter q xs else filter q xs)) ≤ length (if a then x ∷ filter p xs else filter p xs)
    by_tests true true e r = rw e (omega (arith, r))
    by_tests true false e r = omega (arith, r)
    by_tests false true e r = rw e (omega (arith, r))
    by_tests false false e r = r

-- the master itself is no slave
fewer_by_one : (n o : NodeId) (rs : List NodeId) → leads n rs ≡ true → same_node o n ≡ false → length (others o (others n rs)) + 1 ≤ length (others o rs)
fewer_by_one n o [] e f = absurd (cc e)
fewer_by_one n o (r ∷ rs) e f =
    let is : r.0 ≡ n.0 = eqb-true r.0 n.0 e in
    let apart : same_node r o ≡ false = false_from_ne_true (same_node r o) (λ q. cc (eq-eqb o.0 n.0 (sym (eqb-true r.0 o.0 q) ∙ is), f)) in
    let b = filter_both (λ (z : NodeId). not (same_node z o)) (λ (z : NodeId). not (same_node z n)) rs in
    rw (e, apart) (omega (arith, b))

module _ (here : Here) where
  abbrev Owned : Doing → ℕ → Own → Type 0
  Owned d i x = slice_get d.view.own i ≡ Some x

  -- ---- an own transaction as it stands

  pub at_own_eased : (i : ℕ) (f : Own → Doing → Doing) (d : Doing) → ((x : Own) → slice_get d.view.own i ≡ Some x → is_decided x.phase ≡ false → Eases here d (f x d) 0 0) → Eases here d (Scripts.at_own i f d) 0 0
  at_own_eased i f d h = of_own (slice_get d.view.own i) refl
    where
      of_own : (o : Option Own) → slice_get d.view.own i ≡ o → Eases here d (Scripts.of_own f o d) 0 0
      of_own None e = stays_eased here d
      of_own (Some x) e = by_phase (is_decided x.phase) refl
        where
          by_phase : (b : Bool) → is_decided x.phase ≡ b → Eases here d (Scripts.unless_decided b (f x) d) 0 0
          by_phase true q = stays_eased here d
          by_phase false q = h x e q

  -- ---- the dependencies are looked at

  resolved_eased : (i : ℕ) (y : Own) (t : DepTurn) (d : Doing) → slice_get d.view.own i ≡ Some y → length (Rattle.str_model.specs.Acts.asked_ones y.parts) ≤ left_of here y → Eases here d (Pass.resolved here i y t d) 0 0
  resolved_eased i y (Lost q g es) d o l = eases_abort here i (IsLost (record { node = here.node; seq = q })) y d 0 0 o (omega (arith, l))
  resolved_eased i y (Late q fc g es) d o l = eases_abort here i (IsLate (record { node = here.node; seq = q }) (stamp fc)) y d 0 0 o (omega (arith, l))
  resolved_eased i y (Keep g es) d o l = stays_eased here d

  resolve_eased : (i : ℕ) (x : Own) (d : Doing) → slice_get d.view.own i ≡ Some x → is_decided x.phase ≡ false → HomeFit here d.view → Eases here d (Pass.resolve_own here i x d) 0 0
  resolve_eased i x d o f h =
      let t = dep_turn d.view.own x.snap in
      let y : Own = record x { snap = left_by t x.snap } in
      let s = left_snap here x (left_by t x.snap) in
      let k = few_asked here d.view.versions i x (h.home i x o) f in
      eases_then here d (put i y d) (Pass.resolved here i y t (put i y d)) 0 0
      (eases_put here d i x y 0 0 o refl (omega (arith, s)))
      (resolved_eased i y t (put i y d) (get_set d.view.own i x y o) (omega (arith, s, k)))

  -- ---- what waits is tried again

  pub with_value_eased : (i : ℕ) (k : KeyId) (v : Value) (by : Option TxId) (snap : Snap) (x : Own) (d : Doing) → slice_get d.view.own i ≡ Some x
      → 3 * (rest_of here x - 1) + (1 + named_left here x.place) ≤ left_of here x → Eases here d (Scripts.with_value here i k v by snap x d) 0 0
  unfolding rest_of
  with_value_eased i k v by snap x d o l =
      let z : Own = noted k v by snap x in
      let n = left_noted here k v by snap x in
      eases_put here d i x (finish_next (own_op here x) v z) 0 0 o (finish_next_place (own_op here x) v z)
      (let r = finish_next_left here (own_op here x) v z (omega (arith, n, l)) in omega (arith, r, n))

  pub read_done_eased : (i : ℕ) (k : KeyId) (x : Own) (t : ReadTurn) (d : Doing) → slice_get d.view.own i ≡ Some x → x.phase ≡ ReadWait k → Eases here d (Scripts.read_done here i k x t d) 0 0
  unfolding rest_of
  read_done_eased i k x (Plain v by fc snap) d o e = with_value_eased i k v by snap x d o (let w = left_wait here x k e in omega (arith, w))
  read_done_eased i k x (Speculative v by snap) d o e = with_value_eased i k v (Some by) snap x d o (let w = left_wait here x k e in omega (arith, w))
  read_done_eased i k x (Wait by) d o e =
      eases_put here d i x (in_phase (ReadWait k) x) 0 0 o refl (let a = left_wait here x k e in let b = wait_same in omega (arith, a, b))
    where
      wait_same : left_of here (in_phase (ReadWait k) x) ≡ 3 * (rest_of here x - 1) + (3 + named_left here x.place)
      wait_same = left_wait here (in_phase (ReadWait k) x) k refl
  read_done_eased i k x (Away n) d o e =
      eases_request here i k n x d 0 o (let a = left_wait here x k e in let b = remote_is in omega (arith, a, b))
    where
      remote_is : left_of here (in_phase (Remote k) x) ≡ 3 * (rest_of here x - 1) + (1 + named_left here x.place)
      remote_is = left_remote here (in_phase (Remote k) x) k refl

  read_now_eased : (i : ℕ) (k : KeyId) (x : Own) (d : Doing) → slice_get d.view.own i ≡ Some x → x.phase ≡ ReadWait k → Eases here d (Scripts.read_now here i k x d) 0 0
  unfolding Scripts.read_now marked
  read_now_eased i k x d o e =
      eases_then here d (marked k x.snap.rs d) (Scripts.read_done here i k x (read_turn here d.view x.snap k) (marked k x.snap.rs d)) 0 0 (eases_mark here k x.snap.rs d)
      (read_done_eased i k x (read_turn here d.view x.snap k) (marked k x.snap.rs d) (marked_own k x.snap.rs d i x o) e)
    where
      marked_own : (k : KeyId) (t : ℕ) (d : Doing) (i : ℕ) (x : Own) → slice_get d.view.own i ≡ Some x → slice_get (marked k t d).view.own i ≡ Some x
      marked_own k t d i x o = o

  again_reply_eased : (i : ℕ) (k : KeyId) (a : Value) (by : Option TxId) (fc : ℕ) (x : Own) (t : ReadTurn) (d : Doing) → slice_get d.view.own i ≡ Some x → x.phase ≡ Reply k a by fc
      → Eases here d (Pass.again_reply here i k x t d) 0 0
  again_reply_eased i k a by fc x (Plain v u gc snap) d o e = with_value_eased i k v u snap x d o (let w = left_reply here x k a by fc e in omega (arith, w))
  again_reply_eased i k a by fc x (Speculative v u snap) d o e = stays_eased here d
  again_reply_eased i k a by fc x (Wait u) d o e = stays_eased here d
  again_reply_eased i k a by fc x (Away n) d o e = stays_eased here d

  pub cert_done_eased : (i : ℕ) (x : Own) (t : CertTurn) (d : Doing) (g : ℕ) → slice_get d.view.own i ≡ Some x → HomeFit here d.view → named_left here x.place + g ≤ left_of here x
      → length (Rattle.str_model.specs.Acts.asked_ones x.parts) + g ≤ left_of here x → Eases here d (Scripts.cert_done here i x t d) g 0
  cert_done_eased i x (Certified lc snap) d g o h l k = eases_certify here i lc snap x d g o (h.scripts i x o) l
  cert_done_eased i x (Conflict u key) d g o h l k = eases_abort here i (ByConflict u key here.node) x d g 0 o (omega (arith, k))
  cert_done_eased i x (WaitGate by) d g o h l k = eases_put here d i x (in_phase CertWait x) g 0 o refl (let a = left_gate here (in_phase CertWait x) refl in omega (arith, a, l))

  certify_now_eased : (i : ℕ) (x : Own) (d : Doing) → slice_get d.view.own i ≡ Some x → HomeFit here d.view → x.phase ≡ CertWait → Eases here d (Scripts.certify_now here i x d) 0 0
  unfolding Scripts.certify_now
  certify_now_eased i x d o h e =
      let a = left_gate here x e in
      let k = few_asked here d.view.versions i x (h.home i x o) (ap is_decided e) in
      cert_done_eased i x (cert_turn here d.view x.snap x.writes) d 0 o h (omega (arith, a)) (omega (arith, k))

  again_eased : (i : ℕ) (p : Phase) (x : Own) (d : Doing) → slice_get d.view.own i ≡ Some x → HomeFit here d.view → x.phase ≡ p → Eases here d (Pass.again_own here i p x d) 0 0
  again_eased i (ReadWait k) x d o h e = read_now_eased i k x d o e
  again_eased i (Reply k v by fc) x d o h e = again_reply_eased i k v by fc x (reply_turn here x.snap v by fc) d o e
  again_eased i CertWait x d o h e = certify_now_eased i x d o h e
  again_eased i _ x d o h e = stays_eased here d

  -- ---- the closing

  close_free_eased : (i : ℕ) (wish : Bool) (x : Own) (d : Doing) → slice_get d.view.own i ≡ Some x → HomeFit here d.view → is_decided x.phase ≡ false → Eases here d (Pass.close_free here i wish x d) 0 0
  close_free_eased i true x d o h f = eases_abort here i Wish x d 0 0 o (let k = few_asked here d.view.versions i x (h.home i x o) f in omega (arith, k))
  close_free_eased i false x d o h f = eases_close here i x d o

  -- an acceptance: its answer, and 2 for each slave but the origin
  pub accept_weight : (a : Arrived) (ts : ℕ) → IsMasters here a
      → weights here.scene (letter here a.tx.node (Ack a.tx a.part (stamp ts)) ∷ copies here a (replicas here.scene a.part)) + 1 ≤ prepare_weight here.scene a.tx a.part
  accept_weight a ts m =
      let rs = replicas here.scene a.part in
      let ms = copies here a rs in
      let x = weights_cons here.scene (letter here a.tx.node (Ack a.tx a.part (stamp ts))) ms in
      let y = weights_map here.scene (λ (r : NodeId). letter here r (Replicate a.tx a.part a.rs a.lc a.writes)) 2 (others a.tx.node (others here.node rs)) (λ z. refl) in
      let k = fewer_by_one here.node a.tx.node rs m.master m.foreign in
      omega (arith, x, y, k)

  pub prepare_heavy : (a : Arrived) → IsMasters here a → 2 ≤ prepare_weight here.scene a.tx a.part
  prepare_heavy a m = let k = fewer_by_one here.node a.tx.node (replicas here.scene a.part) m.master m.foreign in omega (arith, k)

  module _ (input : Input) where
    gate_done_eased : (i : ℕ) (again : Doing → Doing) (lc : ℕ) (x : Own) (t : GateTurn) (d : Doing) → ((e : Doing) → HomeFit here e.view → Eases here e (again e) 0 0) → slice_get d.view.own i ≡ Some x
        → HomeFit here d.view → is_decided x.phase ≡ false → lc_of x.phase ≡ Some lc → gate_of here d.view lc x ≡ t → Eases here d (Pass.gate_done here i again lc x t d) 0 0
    gate_done_eased i again lc x (Ask p) d rec o h f l e =
        let m : Doing = asked here i lc p x d in
        let fit = fit-act here input (InTurn i) d m (act_ask i lc p x d (o, refl) f l e) h in
        eases_then here d m (again m) 0 0 (eases_ask here i lc p x d (map (dep_parts here d.view.own) x.snap.deps) o f l e (h.home i x o) (h.together i x o)) (rec m fit)
    gate_done_eased i again lc x (Shut q) d rec o h f l e = stays_eased here d
    gate_done_eased i again lc x (Missing p n) d rec o h f l e = stays_eased here d
    gate_done_eased i again lc x (CommitAt fc) d rec o h f l e = eases_commit here i lc fc x d o l f

    gate_phase_eased : (i : ℕ) (again : Doing → Doing) (p : Phase) (x : Own) (d : Doing) → ((e : Doing) → HomeFit here e.view → Eases here e (again e) 0 0) → slice_get d.view.own i ≡ Some x
        → HomeFit here d.view → x.phase ≡ p → Eases here d (Pass.gate_phase here i again p x d) 0 0
    gate_phase_eased i again (Local lc) x d rec o h e = gate_done_eased i again lc x (gate_of here d.view lc x) d rec o h (ap is_decided e) (ap lc_of e) refl
    gate_phase_eased i again (Global lc) x d rec o h e = gate_done_eased i again lc x (gate_of here d.view lc x) d rec o h (ap is_decided e) (ap lc_of e) refl
    gate_phase_eased i again _ x d rec o h e = stays_eased here d

    gates_eased : (i n : ℕ) (d : Doing) → HomeFit here d.view → Eases here d (Pass.gates here i n d) 0 0
    gates_eased i zero d h = stays_eased here d
    gates_eased i (suc n) d h =
        at_own_eased i (λ x. Pass.gate_phase here i (Pass.gates here i n) x.phase x) d
        (λ x o f. gate_phase_eased i (Pass.gates here i n) x.phase x d (λ e k. gates_eased i n e k) o h refl)

    close_phase_eased : (i : ℕ) (p : Phase) (x : Own) (d : Doing) → slice_get d.view.own i ≡ Some x → HomeFit here d.view → x.phase ≡ p → Eases here d (Pass.close_phase here i p x d) 0 0
    close_phase_eased i (Closing wish) x d o h e =
        if_elim (λ z. Eases here d z 0 0) (Pass.is_empty x.snap.deps) (Pass.close_free here i wish x d) d
        (λ t. close_free_eased i wish x d o h (ap is_decided e)) (λ t. stays_eased here d)
    close_phase_eased i _ x d o h e = gates_eased i (suc (length here.scene.parts)) d h

    -- ---- a turn

    pub fit_path : (w : Where) (d e : Doing) → Path here input w d e → HomeFit here d.view → HomeFit here e.view
    fit_path w d e p h = along here input w (λ z. HomeFit here z.view) (fit-act here input w) d e p h

    first_eased : (i : ℕ) (d : Doing) → HomeFit here d.view → Eases here d (resolved_first here input (InTurn i) i d) 0 0
    unfolding resolved_first
    first_eased i d h = at_own_eased i (Pass.resolve_own here i) d (λ x o f. resolve_eased i x d o f h)

    half_eased : (i : ℕ) (d : Doing) → HomeFit here d.view → Eases here d (Pass.half_turn here i d) 0 0
    unfolding Pass.half_turn resolved_first
    half_eased i d h =
        let d1 : Doing = resolved_first here input (InTurn i) i d in
        let h1 = fit_path (InTurn i) d d1 (first-path here input (InTurn i) i d refl) h in
        eases_then here d d1 (Pass.half_turn here i d) 0 0 (first_eased i d h)
        (at_own_eased i (λ x. Pass.again_own here i x.phase x) d1 (λ x o f. again_eased i x.phase x d1 o h1 refl))

    pub turn_eased : (i : ℕ) (d : Doing) → HomeFit here d.view → Eases here d (Pass.turn here i d) 0 0
    unfolding Pass.turn
    turn_eased i d h =
        let e : Doing = Pass.half_turn here i d in
        let k = fit_path (InTurn i) d e (half_turn-path here input (InTurn i) i d refl) h in
        eases_then here d e (Pass.turn here i d) 0 0 (half_eased i d h)
        (at_own_eased i (Pass.close_own here i) e (λ x o f. close_phase_eased i x.phase x e o k refl))

    pub pass_fit : (n : ℕ) (d : Doing) → HomeFit here d.view → HomeFit here (Pass.pass_to here n d).view
    pass_fit zero d h = h
    pass_fit (suc i) d h = fit_path (InTurn i) (Pass.pass_to here i d) (Pass.turn here i (Pass.pass_to here i d)) (turn-path here input (InTurn i) i (Pass.pass_to here i d) refl) (pass_fit i d h)

    pub pass_eased : (n : ℕ) (d : Doing) → HomeFit here d.view → Eases here d (Pass.pass_to here n d) 0 0
    pass_eased zero d h = stays_eased here d
    pass_eased (suc i) d h =
        eases_then here d (Pass.pass_to here i d) (Pass.turn here i (Pass.pass_to here i d)) 0 0 (pass_eased i d h) (turn_eased i (Pass.pass_to here i d) (pass_fit i d h))

    -- ---- those who wait

    held_moves : (kept rest : List Waiter) (a : Arrived) (t : MasterTurn) (d : Doing) → d.view.waiters ≡ kept ++ Held a ∷ rest → IsMasters here a
        → Eases here d (Waiters.waiter_held here kept rest a t d).1 0 0
    unfolding accepted refused
    held_moves kept rest a (Accept ts) d q m =
        eases_waits here d (accepted here a ts (with_waiters (kept ++ rest) d)) (letter here a.tx.node (Ack a.tx a.part (stamp ts)) ∷ copies here a (replicas here.scene a.part)) 0 0 refl refl
        (let k = left_out kept rest (Held a) d q in let w = accept_weight a ts m in omega (arith, k, w))
      where
        left_out : (kept rest : List Waiter) (r : Waiter) (d : Doing) → d.view.waiters ≡ kept ++ r ∷ rest → waits_left here.scene d.view.waiters ≡ waits_left here.scene (kept ++ rest) + waiter_left here.scene r
        left_out kept rest r d q =
            let a = waits_append here.scene kept (r ∷ rest) in
            let b = waits_append here.scene kept rest in
            let c = waits_cons here.scene r rest in
            let e : waits_left here.scene d.view.waiters ≡ waits_left here.scene (kept ++ r ∷ rest) = ap (waits_left here.scene) q in
            omega (arith, a, b, c, e)
    held_moves kept rest a (Refuse by k) d q m =
        eases_waits here d (refused here a by k (with_waiters (kept ++ rest) d)) (letter here a.tx.node (Refusal a.tx a.part by k) ∷ []) 0 0 refl refl
        (let o = left_out in
        let w = prepare_heavy a m in
        let x = weights_cons here.scene (letter here a.tx.node (Refusal a.tx a.part by k)) [] in
        let z = weights_none here.scene in
        omega (arith, o, w, x, z))
      where
        left_out : waits_left here.scene d.view.waiters ≡ waits_left here.scene (kept ++ rest) + waiter_left here.scene (Held a)
        left_out =
            let a' = waits_append here.scene kept (Held a ∷ rest) in
            let b = waits_append here.scene kept rest in
            let c = waits_cons here.scene (Held a) rest in
            let e : waits_left here.scene d.view.waiters ≡ waits_left here.scene (kept ++ Held a ∷ rest) = ap (waits_left here.scene) q in
            omega (arith, a', b, c, e)
    held_moves kept rest a (Park by) d q m = stays_eased here d
    held_moves kept rest a Ignore d q m = stays_eased here d

    read_moves : (kept rest : List Waiter) (tx : TxId) (k : KeyId) (rs : Rattle.str_base.specs.declared.names.Ts.Ts) (t : ServeTurn) (d : Doing) → d.view.waiters ≡ kept ++ Read tx k rs ∷ rest
        → Eases here d (Waiters.waiter_read here kept rest tx k rs t d).1 0 0
    unfolding replied
    read_moves kept rest tx k rs (Give v by fc) d q =
        eases_waits here d (replied here tx k v by fc (with_waiters (kept ++ rest) d)) (letter here tx.node (ReadReply tx k v by (stamp fc)) ∷ []) 0 0 refl refl
        (let o = left_out in
        let x = weights_cons here.scene (letter here tx.node (ReadReply tx k v by (stamp fc))) [] in
        let z = weights_none here.scene in
        omega (arith, o, x, z))
      where
        left_out : waits_left here.scene d.view.waiters ≡ waits_left here.scene (kept ++ rest) + waiter_left here.scene (Read tx k rs)
        left_out =
            let a' = waits_append here.scene kept (Read tx k rs ∷ rest) in
            let b = waits_append here.scene kept rest in
            let c = waits_cons here.scene (Read tx k rs) rest in
            let e : waits_left here.scene d.view.waiters ≡ waits_left here.scene (kept ++ Read tx k rs ∷ rest) = ap (waits_left here.scene) q in
            omega (arith, a', b, c, e)
    read_moves kept rest tx k rs (ServeWait by) d q = stays_eased here d

    waiter_moves : (kept rest : List Waiter) (r : Waiter) (d : Doing) → d.view.waiters ≡ kept ++ r ∷ rest → HomeFit here d.view → Eases here d (Waiters.waiter_turn here kept rest r d).1 0 0
    waiter_moves kept rest (Read tx k rs) d q h = read_moves kept rest tx k rs (serve_turn d.view.versions k rs.0) d q
    waiter_moves kept rest (Held a) d q h =
        held_moves kept rest a (master_turn d.view a) d q (h.masters a (subst (In (Held a)) (sym q) (in_right kept (Held a ∷ rest) (Held a) (inl refl))))

    pub waits_eased : (kept ws : List Waiter) (d : Doing) → d.view.waiters ≡ kept ++ ws → HomeFit here d.view → Eases here d (Waiters.wait_turns here kept ws d) 0 0
    waits_eased kept [] d q h = stays_eased here d
    waits_eased kept (r ∷ rest) d q h =
        let t = Waiters.waiter_turn here kept rest r d in
        let p = waiter_turn-waited here input InWait kept rest r d q in
        let k = fit_path InWait d t.1 p.path h in
        eases_then here d t.1 (Waiters.wait_turns here t.0 rest t.1) 0 0 (waiter_moves kept rest r d q h) (waits_eased t.0 rest t.1 p.same k)
