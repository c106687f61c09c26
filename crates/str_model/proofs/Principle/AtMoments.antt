-- What each change keeps holds at every moment of a step.
use Rattle.std.proofs.Common.{List, None, Option, Some, [], inl, inr, length, refl, subst, suc, true, zero, ℕ, ◌++◌, ◌∷◌, ◌≡◌}
use Rattle.str_base.specs.declared.names.NodeId.{NodeId}
use Rattle.str_model.specs.declared.messages.Arrived.{Arrived}
use Rattle.str_model.specs.declared.messages.Body.{Body}
use Rattle.str_model.specs.declared.messages.Body.TheVariants.{Replicate}
use Rattle.str_model.specs.declared.messages.Input.{Input}
use Rattle.str_model.specs.declared.messages.Input.TheVariants.{Client, Deliver}
use Rattle.str_model.specs.declared.messages.Message.{Message}
use Rattle.str_model.specs.declared.messages.Waiter.{Waiter}
use Rattle.str_model.specs.Arrivals
use Rattle.str_model.specs.Moments.{moments_of}
use Rattle.str_model.specs.Moments
use Rattle.str_model.specs.Pass
use Rattle.str_scene.specs.Scenes.{Here}
use Rattle.str_model.specs.Steps
use Rattle.str_model.specs.Strange.{is_valid}
use Rattle.str_model.specs.Views.{Doing, View, starts}
use Rattle.str_model.specs.Waiters
use Rattle.str_model.proofs.Principle.SingleChanges.{Act, Comes, InRule, InTurn, InWait, PathTo, Where, along}
use Rattle.str_model.proofs.Principle.StepPaths.{half_turn-path, turn-path, waiter_turn-waited}
use Rattle.str_model.proofs.Changes.SnapshotsGain.{if_elim}
use Rattle.str_model.proofs.Principle.RulePaths.{evict-path, rule-path}
use Rattle.str_base.proofs.Members.{in_append}
use Rattle.str_base.specs.Members.{In}

module _ (here : Here) (input : Input) (I : Doing → Type 0) (keeps : (w : Where) (d e : Doing) → Act here input w d e → I d → I e) where
  All : List Doing → Type 0
  All ms = (m : Doing) → In m ms → I m

  all_append : (xs ys : List Doing) → All xs → All ys → All (xs ++ ys)
  unfolding All
  all_append xs ys a b m h = elim (in_append xs ys m h) [ inl k ↦ a m k | inr k ↦ b m k ]

  evicted : (a : Arrived) (from : NodeId) (n : ℕ) (d : Doing) → Comes here input from (Replicate a.tx a.part a.rs a.lc a.writes) → I d → All (Moments.evict_moments here a n d)
  unfolding All
  evicted a from zero d c h = λ m j. absurd j
  evicted a from (suc i) d c h =
      all_append (Moments.evict_moments here a i d) (Arrivals.evict here a (suc i) d ∷ []) (evicted a from i d c h)
      (λ m j. elim j [ inl q ↦ subst I q (along here input InRule I (keeps InRule) d (Arrivals.evict here a (suc i) d) (evict-path here input InRule refl a from (suc i) d c) h) | inr z ↦ absurd z ])

  two : (i : ℕ) (e : Doing) → I (Pass.half_turn here i e) → I (Pass.turn here i e) → All (Moments.turn_moments here i e)
  unfolding All
  two i e g t m (inl q) = subst I q g
  two i e g t m (inr (inl q)) = subst I q t
  two i e g t m (inr (inr z)) = absurd z

  passed : (n : ℕ) (d : Doing) → I d → (I (Pass.pass_to here n d)) × All (Moments.pass_moments here n d)
  unfolding All
  passed zero d h = (h, λ m j. absurd j)
  passed (suc i) d h =
      let p = passed i d h in
      let e : Doing = Pass.pass_to here i d in
      let t : I (Pass.turn here i e) = along here input (InTurn i) I (keeps (InTurn i)) e (Pass.turn here i e) (turn-path here input (InTurn i) i e refl) p.0 in
      let g : I (Pass.half_turn here i e) = along here input (InTurn i) I (keeps (InTurn i)) e (Pass.half_turn here i e) (half_turn-path here input (InTurn i) i e refl) p.0 in
      (t, all_append (Moments.pass_moments here i d) (Moments.turn_moments here i e) p.1 (two i e g t))

  waited : (kept ws : List Waiter) (d : Doing) → d.view.waiters ≡ kept ++ ws → I d → All (Moments.wait_moments here kept ws d)
  unfolding All
  waited kept [] d q h = λ m j. absurd j
  waited kept (w ∷ rest) d q h =
      let r = Waiters.waiter_turn here kept rest w d in
      let t = waiter_turn-waited here input InWait kept rest w d q in
      let i : I r.1 = along here input InWait I (keeps InWait) d r.1 t.path h in
      λ m j. elim j [ inl e ↦ subst I e i | inr k ↦ waited r.0 rest r.1 t.same i m k ]

  after : (d : Doing) → I d → All (Moments.after_moments here d)
  unfolding All
  after d h m (inl q) = subst I q h
  after d h m (inr k) =
      let n = length d.view.own in
      let e : Doing = Pass.pass_to here n d in
      let p = passed n d h in
      all_append (Moments.pass_moments here n d) (Moments.wait_moments here [] e.view.waiters e) p.1 (waited [] e.view.waiters e refl p.0) m k

  body-moments : (from : NodeId) (b : Body) (d : Doing) → Comes here input from b → I d → All (Moments.body_moments here b d)
  unfolding All
  body-moments from (Replicate tx p rs lc ws) d c h = evicted (record { tx = tx; part = p; rs = rs; lc = lc; writes = ws }) from (length d.view.own) d c h
  body-moments from _ d c h = λ m j. absurd j

  -- a rule that is not idle has a message that is not strange
  valid : (i : Input) (d r : Doing) → Steps.rule here i d ≡ Some r → (l : Message) → i ≡ Deliver l → is_valid here l ≡ true
  unfolding Steps.rule
  valid (Client s t) d r e l q = absurd (cc q)
  valid (Deliver k) d r e l q =
      let same : k ≡ l = cc q in
      subst (λ (z : Message). is_valid here z ≡ true) same
      (if_elim (λ o. o ≡ Some r → is_valid here k ≡ true) (is_valid here k) (Steps.body_rule here k.sender k.body d) None (λ h e. h) (λ h e. absurd (cc e)) e)

  input-moments : (i : Input) (d : Doing) → input ≡ i → ((l : Message) → i ≡ Deliver l → is_valid here l ≡ true) → I d → All (Moments.input_moments here i d)
  unfolding All
  input-moments (Client s t) d q v h = λ m j. absurd j
  input-moments (Deliver l) d q v h = body-moments l.sender l.body d (l, q, refl, refl, v l refl) h

  from_rule-moments : (d : Doing) (o : Option Doing) → Steps.rule here input d ≡ o → PathTo here input InRule d o → I d → All (Moments.from_rule here input d o)
  unfolding All
  from_rule-moments d None e p h m j = elim j [ inl q ↦ subst I q h | inr z ↦ absurd z ]
  from_rule-moments d (Some r) e p h m (inl q) = subst I q h
  from_rule-moments d (Some r) e p h m (inr k) =
      all_append (Moments.input_moments here input d) (Moments.after_moments here r) (input-moments input d refl (valid input d r e) h)
      (after r (along here input InRule I (keeps InRule) d r p h)) m k

  -- at every moment of a step
  pub at_moments : (view : View) → I (starts view) → (m : Doing) → In m (moments_of here input view) → I m
  unfolding moments_of All
  at_moments view h =
      let d : Doing = starts view in
      from_rule-moments d (Steps.rule here input d) refl (rule-path here input InRule refl d) h
