-- The pass, those who wait and a whole step are paths of single changes.
use Rattle.std.proofs.Common.{Bool, List, None, Option, Some, [], ap, append_assoc, false, length, map, option_map, refl, suc, sym, true, zero, ℕ, ◌++◌, ◌∙◌, ◌∷◌, ◌≡◌, inl, subst}
use Rattle.str_base.specs.declared.names.KeyId.{KeyId}
use Rattle.str_base.specs.declared.names.Ts.{Ts}
use Rattle.str_base.specs.declared.names.TxId.{TxId}
use Rattle.str_base.specs.declared.names.Value.{Value}
use Rattle.str_model.specs.declared.messages.Arrived.{Arrived}
use Rattle.str_model.specs.declared.messages.Input.{Input}
use Rattle.str_model.specs.declared.messages.Waiter.{Waiter}
use Rattle.str_model.specs.declared.messages.Waiter.TheVariants.{Held, Read}
use Rattle.str_model.specs.Acts.{accepted, asked, refused, replied, with_waiters}
use Rattle.str_model.specs.Gates.{Ask, CommitAt, GateTurn, Missing, Shut, dep_parts, gate_of}
use Rattle.str_model.specs.Pass
use Rattle.str_model.specs.Proposals.{Accept, Ignore, MasterTurn, Park, Refuse, master_turn}
use Rattle.str_scene.specs.Scenes.{Here}
use Rattle.str_model.specs.Scripts
use Rattle.str_model.specs.Steps
use Rattle.str_model.specs.Turns.{DepTurn, Give, Keep, Late, Lost, Plain, ReadTurn, ServeTurn, ServeWait, dep_turn, left_by, reply_turn, serve_turn}
use Rattle.str_model.specs.Views.{CertWait, Closing, Doing, Global, Local, Own, Phase, ReadWait, Reply, View, is_decided, lc_of, put, starts}
use Rattle.str_model.specs.Waiters
use Rattle.str_model.proofs.Principle.SingleChanges.{Act, InRule, InTurn, InWait, IsOwn, Path, PathTo, Touches, Where, act_abort, act_accept, act_ask, act_close, act_commit, act_put, act_refuse, act_reply, act_unwait, along, and_then, asks_again, at_need, by_late, by_lost, by_script, ch_resolve, ch_take, it_waits, one, reads_again, s_read, stay, IsTurn, asked_before, touches_turn}
use Rattle.str_model.proofs.Changes.SnapshotsGain.{TurnGood, if_elim, reply_turn-good}
use Rattle.str_model.proofs.Changes.DependencyLooks.{dep_turn_again}
use Rattle.str_model.proofs.Principle.OwnPaths.{IsFree, at_own-path, certify_now-path, free_at, gate_commits, read_now-path, resolved-extends, with_value-path}
use Rattle.str_model.proofs.Principle.RulePaths.{rule-path}
use Rattle.str_base.proofs.Lists.{get_set}
use Rattle.str_base.proofs.Members.{in_right}
use Rattle.str_base.specs.Members.{In}

module _ (here : Here) (input : Input) (w : Where) where
  -- ---- the pass

  -- the snapshot that is left is put
  left-path : (i : ℕ) (x : Own) (t : DepTurn) (d : Doing) → IsOwn w d i x → is_decided x.phase ≡ false → dep_turn d.view.own x.snap ≡ t
      → Path here input w d (put i (record x { snap = left_by t x.snap }) d)
  left-path i x t d own f e =
      one (act_put i x _ d own (record { goes = record { was_open = f; is_open = f; same_place = refl; snap = resolved-extends x t d e; same_lc = refl }; change = ch_resolve t e }))

  -- it aborts where a dependency decides
  resolved-path : (i : ℕ) (y : Own) (t : DepTurn) (d : Doing) → IsOwn w d i y → is_decided y.phase ≡ false → dep_turn d.view.own y.snap ≡ t → Path here input w d (Pass.resolved here i y t d)
  resolved-path i y (Lost q g es) d own f e = one (act_abort i _ y d own f (by_lost q g es e))
  resolved-path i y (Late q fc g es) d own f e = one (act_abort i _ y d own f (by_late q fc g es e))
  resolved-path i y (Keep g es) d own f e = stay d

  resolve_own-path : (i : ℕ) (x : Own) (d : Doing) → IsOwn w d i x → is_decided x.phase ≡ false → Path here input w d (Pass.resolve_own here i x d)
  resolve_own-path i x d own f =
      let t = dep_turn d.view.own x.snap in
      let y : Own = record x { snap = left_by t x.snap } in
      let e : Doing = put i y d in
      and_then d e (Pass.resolved here i y t e) (left-path i x t d own f refl)
      (resolved-path i y t e (get_set d.view.own i x y own.0, own.1) f (dep_turn_again d.view.own i x own.0))

  again_reply-path : (i : ℕ) (k : KeyId) (a : Value) (by : Option TxId) (fc : ℕ) (x : Own) (turn : ReadTurn) (d : Doing) → IsFree w d i x → TurnGood d.view x.snap turn
      → x.phase ≡ Reply k a by fc → reply_turn here x.snap a by fc ≡ turn → Path here input w d (Pass.again_reply here i k x turn d)
  again_reply-path i k a by fc x (Plain v u gc snap) d f h e q = with_value-path here input w i k v u snap x d f h (ch_take k a v by u fc gc snap e q)
  again_reply-path i k a by fc x _ d f h e q = stay d

  again_own-path : (i : ℕ) (p : Phase) (x : Own) (d : Doing) → IsOwn w d i x → x.phase ≡ p → Path here input w d (Pass.again_own here i p x d)
  again_own-path i (ReadWait k) x d own e = read_now-path here input w i k x d (free_at w d i x (ReadWait k) own e refl refl) (reads_again e)
  again_own-path i (Reply k v by fc) x d own e =
      again_reply-path i k v by fc x (reply_turn here x.snap v by fc) d (free_at w d i x (Reply k v by fc) own e refl refl) (reply_turn-good here d.view x.snap v by fc) e refl
  again_own-path i CertWait x d own e = certify_now-path here input w i x d (free_at w d i x CertWait own e refl refl) (asks_again e)
  again_own-path i _ x d own e = stay d

  empty-is : {X : Type 0} (xs : List X) → Pass.is_empty xs ≡ true → xs ≡ []
  empty-is [] e = refl
  empty-is (x ∷ xs) e = absurd cc

  close_free-path : (i : ℕ) (wish : Bool) (x : Own) (d : Doing) → IsTurn w d i x → x.phase ≡ Closing wish → x.snap.deps ≡ [] → Path here input w d (Pass.close_free here i wish x d)
  close_free-path i true x d own e n = one (act_abort i _ x d (own.0, touches_turn w i own.1) (ap is_decided e) (by_script (at_need e n)))
  close_free-path i false x d own e n = one (act_close i x d own e n)

  -- ---- the gate

  again-path : (Doing → Doing) → Type 0
  again-path f = (d : Doing) → Path here input w d (f d)

  gate_done-path : (i : ℕ) (again : Doing → Doing) (lc : ℕ) (x : Own) (turn : GateTurn) (d : Doing) → again-path again → IsTurn w d i x → is_decided x.phase ≡ false → lc_of x.phase ≡ Some lc
      → gate_of here d.view lc x ≡ turn → Path here input w d (Pass.gate_done here i again lc x turn d)
  unfolding again-path
  gate_done-path i again lc x (Ask p) d h own f l e =
      let m : Doing = asked here i lc p x d in and_then d m (again m) (one (act_ask i lc p x d (own.0, touches_turn w i own.1) f l e)) (h m)
  gate_done-path i again lc x (Shut q) d h own f l e = stay d
  gate_done-path i again lc x (Missing p n) d h own f l e = stay d
  gate_done-path i again lc x (CommitAt fc) d h own f l e =
      let g = gate_commits x.snap lc x.parts (map (dep_parts here d.view.own) x.snap.deps) fc e in one (act_commit i lc fc x d own l g.0 g.1 f e)

  gate_phase-path : (i : ℕ) (again : Doing → Doing) (p : Phase) (x : Own) (d : Doing) → again-path again → IsTurn w d i x → x.phase ≡ p
      → Path here input w d (Pass.gate_phase here i again p x d)
  gate_phase-path i again (Local lc) x d h own e = gate_done-path i again lc x (gate_of here d.view lc x) d h own (ap is_decided e) (ap lc_of e) refl
  gate_phase-path i again (Global lc) x d h own e = gate_done-path i again lc x (gate_of here d.view lc x) d h own (ap is_decided e) (ap lc_of e) refl
  gate_phase-path i again _ x d h own e = stay d

  pub gates-path : (i n : ℕ) (d : Doing) → w ≡ InTurn i → Path here input w d (Pass.gates here i n d)
  unfolding again-path
  gates-path i zero d t = stay d
  gates-path i (suc n) d t =
      at_own-path here input w i (λ x. Pass.gate_phase here i (Pass.gates here i n) x.phase x) d (touches_turn w i t)
      (λ x own o. gate_phase-path i (Pass.gates here i n) x.phase x d (λ e. gates-path i n e t) (own.0, t) refl)

  close_phase-path : (i : ℕ) (p : Phase) (x : Own) (d : Doing) → w ≡ InTurn i → IsOwn w d i x → x.phase ≡ p → Path here input w d (Pass.close_phase here i p x d)
  close_phase-path i (Closing wish) x d t own e =
      if_elim (λ e. Path here input w d e) (Pass.is_empty x.snap.deps) (Pass.close_free here i wish x d) d
      (λ h. close_free-path i wish x d (own.0, t) e (empty-is x.snap.deps h)) (λ h. stay d)
  close_phase-path i _ x d t own e = gates-path i (suc (length here.scene.parts)) d t

  -- the first part of a turn, and the rest of it
  unfoldable pub resolved_first : ℕ → Doing → Doing
  resolved_first i d = Scripts.at_own i (Pass.resolve_own here i) d

  pub first-path : (i : ℕ) (d : Doing) → Touches w i → Path here input w d (resolved_first i d)
  unfolding resolved_first
  first-path i d t = at_own-path here input w i (Pass.resolve_own here i) d t (λ x own o. resolve_own-path i x d own o)

  again-half : (i : ℕ) (d : Doing) → Touches w i → Path here input w (resolved_first i d) (Pass.half_turn here i d)
  unfolding Pass.half_turn resolved_first
  again-half i d t =
      let d1 : Doing = Scripts.at_own i (Pass.resolve_own here i) d in
      at_own-path here input w i (λ x. Pass.again_own here i x.phase x) d1 t (λ x own o. again_own-path i x.phase x d1 own refl)

  pub half_turn-path : (i : ℕ) (d : Doing) → Touches w i → Path here input w d (Pass.half_turn here i d)
  half_turn-path i d t = and_then d (resolved_first i d) (Pass.half_turn here i d) (first-path i d t) (again-half i d t)

  pub close-path : (i : ℕ) (d : Doing) → w ≡ InTurn i → Path here input w (Pass.half_turn here i d) (Pass.turn here i d)
  unfolding Pass.turn
  close-path i d t =
      let e : Doing = Pass.half_turn here i d in
      at_own-path here input w i (Pass.close_own here i) e (touches_turn w i t) (λ x own o. close_phase-path i x.phase x e t own refl)

  pub rest-path : (i : ℕ) (d : Doing) → w ≡ InTurn i → Path here input w (resolved_first i d) (Pass.turn here i d)
  rest-path i d t = and_then (resolved_first i d) (Pass.half_turn here i d) (Pass.turn here i d) (again-half i d (touches_turn w i t)) (close-path i d t)

  pub turn-path : (i : ℕ) (d : Doing) → w ≡ InTurn i → Path here input w d (Pass.turn here i d)
  turn-path i d t = and_then d (resolved_first i d) (Pass.turn here i d) (first-path i d (touches_turn w i t)) (rest-path i d t)

  -- ---- those who wait

  pub record Waited (d : Doing) (rest : List Waiter) (r : List Waiter × Doing) : Type 0 where
    pub path : Path here input w d r.1
    pub same : r.1.view.waiters ≡ r.0 ++ rest

  stays : (kept rest : List Waiter) (w : Waiter) (d : Doing) → d.view.waiters ≡ kept ++ w ∷ rest → Waited d rest (kept ++ w ∷ [], d)
  stays kept rest w d e = record { path = stay d; same = e ∙ sym (append_assoc kept (w ∷ []) rest) }

  waiter_read-waited : (kept rest : List Waiter) (tx : TxId) (k : KeyId) (rs : Ts) (turn : ServeTurn) (d : Doing)
      → d.view.waiters ≡ kept ++ Read tx k rs ∷ rest → serve_turn d.view.versions k rs.0 ≡ turn → Waited d rest (Waiters.waiter_read here kept rest tx k rs turn d)
  unfolding replied
  waiter_read-waited kept rest tx k rs (Give v by fc) d w e =
      let m : Doing = replied here tx k v by fc d in
      record { path = and_then d m (with_waiters (kept ++ rest) m) (one (act_reply tx k rs.0 v by fc d (record { gives = e; was_asked = asked_before rs refl (subst (In (Read tx k rs)) (sym w) (in_right kept (Read tx k rs ∷ rest) (Read tx k rs) (inl refl))) }))) (one (act_unwait kept rest (Read tx k rs) m (record { waiters = w; served = s_read tx k rs }))); same = refl }
  waiter_read-waited kept rest tx k rs (ServeWait by) d w e = stays kept rest (Read tx k rs) d w

  waiter_held-waited : (kept rest : List Waiter) (a : Arrived) (turn : MasterTurn) (d : Doing)
      → d.view.waiters ≡ kept ++ Held a ∷ rest → master_turn d.view a ≡ turn → Waited d rest (Waiters.waiter_held here kept rest a turn d)
  unfolding accepted refused
  waiter_held-waited kept rest a (Accept ts) d w e = record { path = one (act_accept a ts d (it_waits kept rest w) e); same = refl }
  waiter_held-waited kept rest a (Refuse u k) d w e = record { path = one (act_refuse a u k d (it_waits kept rest w) e); same = refl }
  waiter_held-waited kept rest a (Park u) d w e = stays kept rest (Held a) d w
  waiter_held-waited kept rest a Ignore d w e = stays kept rest (Held a) d w

  pub waiter_turn-waited : (kept rest : List Waiter) (w : Waiter) (d : Doing) → d.view.waiters ≡ kept ++ w ∷ rest → Waited d rest (Waiters.waiter_turn here kept rest w d)
  waiter_turn-waited kept rest (Read tx k rs) d e = waiter_read-waited kept rest tx k rs (serve_turn d.view.versions k rs.0) d e refl
  waiter_turn-waited kept rest (Held a) d e = waiter_held-waited kept rest a (master_turn d.view a) d e refl

  pub wait_turns-path : (kept ws : List Waiter) (d : Doing) → d.view.waiters ≡ kept ++ ws → Path here input w d (Waiters.wait_turns here kept ws d)
  wait_turns-path kept [] d e = stay d
  wait_turns-path kept (w ∷ rest) d e =
      let r = Waiters.waiter_turn here kept rest w d in
      let t = waiter_turn-waited kept rest w d e in
      and_then d r.1 (Waiters.wait_turns here r.0 rest r.1) t.path (wait_turns-path r.0 rest r.1 t.same)

-- a whole step: the rule of the input, the turns upwards, and those who wait
pub record StepPath (here : Here) (input : Input) (d e : Doing) : Type 0 where
  pub ruled : Doing
  pub is_rule : Steps.rule here input d ≡ Some ruled
  pub rule : Path here input InRule d ruled
  pub turns : (i : ℕ) → Path here input (InTurn i) (Pass.pass_to here i ruled) (Pass.pass_to here (suc i) ruled)
  pub waits : Path here input InWait (Pass.pass_to here (length ruled.view.own) ruled) e

abbrev pub StepTo : Here → Input → Doing → Option Doing → Type 0
StepTo here input d None = Unit {0}
StepTo here input d (Some e) = StepPath here input d e

module _ (here : Here) (input : Input) where
  with_after : (d : Doing) (o : Option Doing) → Steps.rule here input d ≡ o → PathTo here input InRule d o → StepTo here input d (option_map (Steps.after_rule here) o)
  unfolding Steps.after_rule
  with_after d None q p = tt
  with_after d (Some r) q p =
      let e : Doing = Pass.pass_to here (length r.view.own) r in
      record {
        ruled = r;
        is_rule = q;
        rule = p;
        turns = λ i. turn-path here input (InTurn i) i (Pass.pass_to here i r) refl;
        waits = wait_turns-path here input InWait [] e.view.waiters e refl;
      }

  pub step-path : (view : View) → StepTo here input (starts view) (Steps.step here input view)
  unfolding Steps.step
  step-path view =
      let d : Doing = starts view in with_after d (Steps.rule here input d) refl (rule-path here input InRule refl d)

  -- what each change keeps, a whole step keeps
  module _ (I : Doing → Type 0) (keeps : (w : Where) (d e : Doing) → Act here input w d e → I d → I e) where
    pass-keeps : (n : ℕ) (d : Doing) → ((i : ℕ) → Path here input (InTurn i) (Pass.pass_to here i d) (Pass.pass_to here (suc i) d)) → I d → I (Pass.pass_to here n d)
    pass-keeps zero d t h = h
    pass-keeps (suc i) d t h = along here input (InTurn i) I (keeps (InTurn i)) (Pass.pass_to here i d) (Pass.pass_to here (suc i) d) (t i) (pass-keeps i d t h)

    pub step-keeps : (d e : Doing) → StepPath here input d e → I d → I e
    step-keeps d e s h =
        along here input InWait I (keeps InWait) (Pass.pass_to here (length s.ruled.view.own) s.ruled) e s.waits
        (pass-keeps (length s.ruled.view.own) s.ruled s.turns (along here input InRule I (keeps InRule) d s.ruled s.rule h))
