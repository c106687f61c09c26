-- The room that a step needs: at most 242 for each undecided own transaction, 25 for each that waits and for one that comes, and 32.
use Rattle.std.proofs.Common.{Bool, List, None, Option, Some, [], ap, arith, false, inl, inr, length, length-append, not, option_map, refl, slice_get, subst, suc, sym, true, zero, ℕ, ◌&&◌, ◌*◌, ◌++◌, ◌+◌, ◌∙◌, ◌∷◌, ◌≡◌, ◌≤◌}
use Rattle.str_base.specs.declared.names.KeyId.{KeyId}
use Rattle.str_base.specs.declared.names.TxId.{TxId}
use Rattle.str_model.specs.declared.messages.Body.{Body}
use Rattle.str_model.specs.declared.messages.Body.TheVariants.{Prepare, ReadReply}
use Rattle.str_model.specs.declared.messages.Input.{Input}
use Rattle.str_model.specs.declared.messages.Waiter.{Waiter}
use Rattle.str_model.specs.declared.messages.Waiter.TheVariants.{Held, Read}
use Rattle.str_base.specs.Versions.{stamp}
use Rattle.str_model.specs.Acts.{replied, with_waiters}
use Rattle.str_model.specs.NodeFacts.{MomentFacts, how_many, one_if}
use Rattle.str_model.specs.Owned.{Owns}
use Rattle.str_model.specs.Pass.{is_empty, pass_to, turn}
use Rattle.str_model.specs.Pass
use Rattle.str_model.specs.Proposals.{Accept, Ignore, MasterTurn, Park, Refuse, master_turn}
use Rattle.str_model.specs.Scripts.{at_own}
use Rattle.str_model.specs.Steps.{after_rule, count_of, need, rule, step}
use Rattle.str_model.specs.Strange.{has_node}
use Rattle.str_model.specs.Turns.{Give, ServeTurn, ServeWait, serve_turn}
use Rattle.str_model.specs.Views.{Aborted, Active, CertWait, Closing, Committed, Doing, Global, Local, Own, Phase, ReadWait, Remote, Reply, View, is_decided, letter, starts}
use Rattle.str_model.specs.Waiters.{wait_turns, waiter_held, waiter_read, waiter_turn}
use Rattle.str_scene.specs.SceneLimits.{IsScene}
use Rattle.str_scene.specs.Scenes.{Here}
use Rattle.str_model.proofs.Principle.SingleChanges.{Act, Arrives, Comes, InRule, InTurn, Path, PathTo, Where, a_prepare, a_read, along}
use Rattle.str_model.proofs.Principle.StepPaths.{turn-path}
use Rattle.str_model.proofs.Principle.RulePaths.{rule-path}
use Rattle.str_model.proofs.OwnFacts.TurnsBelow.{leaves}
use Rattle.str_model.proofs.Room.PartCosts.{Grew, cost, grew_more, grew_none, grew_within}
use Rattle.str_model.proofs.OwnFacts.FewOwn.{is_open}
use Rattle.str_model.proofs.Room.NeedRules.{BodyFits, InputFits, OptRuled, Ruled, accept_cost, is_active, is_busy, is_idle, refuse_cost, ruled}
use Rattle.str_model.proofs.Room.NeedTurns.{turn_cost}
use Rattle.str_model.proofs.ViewFacts.NodeKept.{moment_along, pass_passed}
use Rattle.str_model.proofs.Changes.VersionChanges.{WaitStep, w_fewer, w_more, wait_step}
use Rattle.str_model.proofs.ViewFacts.QuietTurns.{none_rests, turn_decided, turn_idle}
use Rattle.str_base.proofs.Members.{in_append}
use Rattle.str_base.specs.Members.{In}
use Rattle.std.proofs.lemmas.Bool.{and_parts}

-- ---- who waits writes no more than 16 keys

abbrev pub WaiterFits : Waiter → Type 0
WaiterFits (Read tx k rs) = Unit {0}
WaiterFits (Held a) = length a.writes ≤ 16

abbrev pub AllFit : List Waiter → Type 0
AllFit ws = (w : Waiter) → In w ws → WaiterFits w

module _ (here : Here) (input : Input) (fits : InputFits input) where
  came_fits : (from : _) (b : Body) → Comes here input from b → BodyFits b
  came_fits from b c = subst BodyFits c.3 (subst InputFits c.1 fits)

  fit-act : (w : Where) (d e : Doing) → Act here input w d e → AllFit d.view.waiters → AllFit e.view.waiters
  fit-act w d e act h r k = by_step (wait_step here input w d e act)
    where
      arrived : (q : Waiter) → Arrives here input d q → WaiterFits q
      arrived q (a_read from tx l rs c) = tt
      arrived q (a_prepare from a c u z m) = came_fits from (Prepare a.tx a.part a.rs a.lc a.writes) c

      by_step : WaitStep here input d e → WaiterFits r
      by_step (w_fewer f) = h r (f r k)
      by_step (w_more q c s) = elim (in_append d.view.waiters (q ∷ []) r (subst (In r) s k)) [
        | inl j ↦ h r j
        | inr j ↦ (elim j [ inl z ↦ subst WaiterFits z (arrived q c) | inr z ↦ absurd z ])
      ]

  fit_along : (w : Where) (d e : Doing) → Path here input w d e → AllFit d.view.waiters → AllFit e.view.waiters
  fit_along w d e p h = along here input w (λ z. AllFit z.view.waiters) (fit-act w) d e p h

-- ---- counts by place

-- whether there is one that passes
abbrev passes_at : (Own → Bool) → Option Own → Bool
passes_at p None = false
passes_at p (Some x) = p x

-- how many of the first n pass
abbrev count_to : (Own → Bool) → List Own → ℕ → ℕ
count_to p own zero = 0
count_to p own (suc n) = count_to p own n + one_if (passes_at p (slice_get own n))

count_shift : (p : Own → Bool) (x : Own) (xs : List Own) (n : ℕ) → count_to p (x ∷ xs) (suc n) ≡ one_if (p x) + count_to p xs n
count_shift p x xs zero = omega arith
count_shift p x xs (suc n) = let r = count_shift p x xs n in omega (arith, r)

count_none : (p : Own → Bool) (n : ℕ) → count_to p [] n ≡ 0
count_none p zero = refl
count_none p (suc n) = let r = count_none p n in omega (arith, r)

count_within : (p : Own → Bool) (own : List Own) (n : ℕ) → count_to p own n ≤ how_many p own
count_within p [] n = let r = count_none p n in omega (arith, r)
count_within p (x ∷ xs) zero = omega arith
count_within p (x ∷ xs) (suc n) = let r = count_within p xs n in let s = count_shift p x xs n in omega (arith, r, s)

-- ---- the pass

module _ (here : Here) (ok : IsScene here.scene) (exists : has_node here here.node ≡ true) (input : Input) where
  turn_none : (i : ℕ) (d : Doing) → slice_get d.view.own i ≡ None → turn here i d ≡ d
  unfolding turn Pass.half_turn
  turn_none i d e =
      let a = none_rests i (Pass.resolve_own here i) d e in
      let b = none_rests i (λ z. Pass.again_own here i z.phase z) d e in
      let c = none_rests i (Pass.close_own here i) d e in
      ap (λ z. at_own i (Pass.close_own here i) (at_own i (λ y. Pass.again_own here i y.phase y) z)) a ∙ (ap (λ z. at_own i (Pass.close_own here i) z) b ∙ c)

  -- a turn costs where its transaction is busy alone
  turn_busy : (i : ℕ) (d : Doing) → MomentFacts here d.view → Grew (242 * one_if (passes_at is_busy (slice_get d.view.own i))) d (turn here i d)
  turn_busy i d h = by_own (slice_get d.view.own i) refl
    where
      rests : (n : ℕ) → turn here i d ≡ d → Grew n d (turn here i d)
      rests n q = subst (Grew n d) (sym q) (grew_within 0 n d d (omega arith) (grew_none d))

      empty-is : {X : Type 0} (xs : List X) → is_empty xs ≡ true → xs ≡ []
      empty-is [] e = refl
      empty-is (x ∷ xs) e = absurd cc

      active-is : (p : Phase) → is_active p ≡ true → p ≡ Active
      active-is Active e = refl
      active-is (ReadWait k) e = absurd (cc e)
      active-is (Remote k) e = absurd (cc e)
      active-is (Reply k a by fc) e = absurd (cc e)
      active-is CertWait e = absurd (cc e)
      active-is (Closing w) e = absurd (cc e)
      active-is (Local lc) e = absurd (cc e)
      active-is (Global lc) e = absurd (cc e)
      active-is (Committed m fc) e = absurd (cc e)
      active-is (Aborted m c) e = absurd (cc e)

      by_idle : (x : Own) (b c : Bool) → Owns d.view i x → is_decided x.phase ≡ b → is_idle x ≡ c → Grew (242 * one_if (not b && not c)) d (turn here i d)
      by_idle x true c own e f = rests (242 * one_if false) (turn_decided here i d x own e)
      by_idle x false true own e f = let p = and_parts (is_active x.phase) (is_empty x.snap.deps) f in rests (242 * one_if false) (turn_idle here i d x own (active-is x.phase p.0) (empty-is x.snap.deps p.1))
      by_idle x false false own e f = turn_cost here ok exists i input d h

      by_own : (o : Option Own) → slice_get d.view.own i ≡ o → Grew (242 * one_if (passes_at is_busy o)) d (turn here i d)
      by_own None e = rests 0 (turn_none i d e)
      by_own (Some x) e = by_idle x (is_decided x.phase) (is_idle x) e refl refl

  -- those above n are as they were
  pass_rests : (n j : ℕ) (r : Doing) → n ≤ j → slice_get (pass_to here n r).view.own j ≡ slice_get r.view.own j
  pass_rests zero j r le = refl
  pass_rests (suc i) j r le =
      let d : Doing = pass_to here i r in
      let one = along here input (InTurn i) (λ z. slice_get z.view.own j ≡ slice_get d.view.own j)
      (λ a b act q. (leaves here input (InTurn i) a b (λ z. cc z) act).others j (λ t. omega (arith, t, le)) ∙ q) d (turn here i d) (turn-path here input (InTurn i) i d refl) refl in
      one ∙ pass_rests i j r (omega (arith, le))

  pass_busy : (n : ℕ) (r : Doing) → MomentFacts here r.view → Grew (242 * count_to is_busy r.view.own n) r (pass_to here n r)
  pass_busy zero r h = grew_none r
  pass_busy (suc i) r h =
      let d : Doing = pass_to here i r in
      let g = pass_busy i r h in
      let t = turn_busy i d (pass_passed here ok exists input i r h).moment in
      let same : one_if (passes_at is_busy (slice_get d.view.own i)) ≡ one_if (passes_at is_busy (slice_get r.view.own i)) = ap (λ o. one_if (passes_at is_busy o)) (pass_rests i i r (omega arith)) in
      grew_more (242 * count_to is_busy r.view.own i) (242 * one_if (passes_at is_busy (slice_get d.view.own i))) (242 * count_to is_busy r.view.own (suc i)) r d (turn here i d) (omega (arith, same)) g t

  -- ---- those who wait

  reply_cost : (tx : TxId) (k : KeyId) (a : _) (by : _) (fc : ℕ) (d : Doing) → cost (replied here tx k a by fc d) ≤ cost d + 1
  unfolding replied
  reply_cost tx k a by fc d = let s = length-append d.sent (letter here tx.node (ReadReply tx k a by (stamp fc)) ∷ []) in omega (arith, s)

  module _ (v : View) (h : MomentFacts here v) where
    waiter_cost : (kept rest : List Waiter) (w : Waiter) (d : Doing) → WaiterFits w → cost (waiter_turn here kept rest w d).1 ≤ cost d + 25
    waiter_cost kept rest (Read tx k rs) d f = by_turn (serve_turn d.view.versions k rs.0)
      where
        by_turn : (t : ServeTurn) → cost (waiter_read here kept rest tx k rs t d).1 ≤ cost d + 25
        by_turn (Give a by fc) = let c = reply_cost tx k a by fc (with_waiters (kept ++ rest) d) in omega (arith, c)
        by_turn (ServeWait by) = omega arith
    waiter_cost kept rest (Held a) d f = by_turn (master_turn d.view a)
      where
        by_turn : (t : MasterTurn) → cost (waiter_held here kept rest a t d).1 ≤ cost d + 25
        by_turn (Accept ts) = let c = accept_cost here ok exists v h a ts (with_waiters (kept ++ rest) d) f in omega (arith, c)
        by_turn (Refuse by k) = let c = refuse_cost here ok exists v h a by k (with_waiters (kept ++ rest) d) in omega (arith, c)
        by_turn (Park by) = omega arith
        by_turn Ignore = omega arith

    waits_cost : (kept ws : List Waiter) (d : Doing) → AllFit ws → cost (wait_turns here kept ws d) ≤ cost d + 25 * length ws
    waits_cost kept [] d f = omega arith
    waits_cost kept (w ∷ rest) d f =
        let r = waiter_turn here kept rest w d in
        let a = waiter_cost kept rest w d (f w (inl refl)) in
        let b = waits_cost r.0 rest r.1 (λ q k. f q (inr k)) in
        omega (arith, a, b)

  -- ---- a step

  module _ (fits : InputFits input) (v : View) (h : MomentFacts here v) (fit : AllFit v.waiters) where
    turns_fit : (n : ℕ) (r : Doing) → AllFit r.view.waiters → AllFit (pass_to here n r).view.waiters
    turns_fit zero r f = f
    turns_fit (suc i) r f = fit_along here input fits (InTurn i) (pass_to here i r) (turn here i (pass_to here i r)) (turn-path here input (InTurn i) i (pass_to here i r) refl) (turns_fit i r f)

    after_cost : (r : Doing) → Path here input InRule (starts v) r → Ruled v r → cost (after_rule here r) ≤ 242 * how_many is_open v.own + 25 * (length v.waiters + 1) + 32
    unfolding after_rule
    after_cost r p g =
        let n = length r.view.own in
        let hr = moment_along here ok exists input InRule (starts v) r p h in
        let fr = fit_along here input fits InRule (starts v) r p fit in
        let e : Doing = pass_to here n r in
        let a = pass_busy n r hr in
        let b = count_within is_busy r.view.own n in
        let c = waits_cost v h [] e.view.waiters e (turns_fit n r fr) in
        let l : length e.view.waiters ≡ length r.view.waiters = ap length a.waiters in
        let x = a.cost_is in
        let y = g.cost_is in
        let z = g.waiting in
        omega (arith, b, c, l, x, y, z)

    -- the room that a step needs
    pub need_bound : need here input v ≤ 242 * how_many is_open v.own + 25 * (length v.waiters + 1) + 32
    unfolding need step
    need_bound = by_rule (rule here input (starts v)) (rule-path here input InRule refl (starts v)) (ruled here ok exists v h input fits)
      where
        by_rule : (o : Option Doing) → PathTo here input InRule (starts v) o → OptRuled v o
            → count_of (option_map (after_rule here) o) ≤ 242 * how_many is_open v.own + 25 * (length v.waiters + 1) + 32
        by_rule None p g = omega arith
        by_rule (Some r) p g = after_cost r p g
