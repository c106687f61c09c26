-- The turn of an own transaction, piece by piece: what each piece needs, and that all of them are what the model does.
use Rattle.std.proofs.Common.{Bool, Option, Some, [], ap, arith, false, if◌then◌else◌, inl, inr, length, not, refl, subst, sym, true, ℕ, ◌+◌, ◌<◌, ◌∙◌, ◌≡◌, ◌⊎◌}
use Rattle.cascade_abort.specs.declared.fates.DepTurn.{DepTurn}
use Rattle.cascade_abort.specs.declared.fates.DepTurn.TheVariants.{Keep}
use Rattle.cascade_abort.specs.Fates.{turn_of}
use Rattle.dependency_set.specs.Snapshots.{Snap}
use Rattle.node_parts.specs.declared.phases.Phase as Spoken
use Rattle.node_parts.specs.declared.phases.Phase.TheVariants as spoken
use Rattle.node_parts.specs.Phases.{phase_of}
use Rattle.node_core.proofs.Whole.Growing.{fits_before, grows_along}
use Rattle.node_core.proofs.Whole.Moves.{did_as, did_then, facts_then, fits_as, fits_then, holds_then, stays_self}
use Rattle.node_core.proofs.PassTurns.OwnMoments.{any_input, looked_moment}
use Rattle.node_core.proofs.Rules.ScriptSteps.{empty_is, own_then, put_same}
use Rattle.node_core.specs.Reading.{MayRead}
use Rattle.node_core.specs.Working.{Did, Fits, HasFacts, OwnIs, WorkState}
use Rattle.str_base.proofs.Lists.{get_set}
use Rattle.str_base.specs.declared.names.KeyId.{KeyId}
use Rattle.str_base.specs.declared.names.Ts.{Ts}
use Rattle.str_base.specs.declared.names.TxId.{TxId}
use Rattle.str_base.specs.declared.names.Value.{Value}
use Rattle.str_model.specs.NodeFacts.{MomentFacts, OpenTo}
use Rattle.str_model.specs.Owned.{Owns, WaitsFor}
use Rattle.str_model.specs.Pass
use Rattle.str_model.specs.Pass.{again_own, close_free, close_own, close_phase, gate_phase, gates, gates_in, half_turn, is_empty, resolve_own, resolved, turn}
use Rattle.str_model.specs.Scripts.{at_own, with_value}
use Rattle.str_model.specs.Turns
use Rattle.str_model.specs.Turns.{dep_turn, left_by, reply_turn}
use Rattle.str_model.specs.Views.{Active, CertWait, Closing, Doing, Own, Phase, ReadWait, Remote, Reply, is_decided, lc_of, put}
use Rattle.str_model.proofs.Changes.SnapshotsGain.{TurnGood, reply_turn-good}
use Rattle.str_model.proofs.OwnFacts.DependenciesStand.{same_length}
use Rattle.str_model.proofs.OwnFacts.TurnsBelow.{OpenAt}
use Rattle.str_model.proofs.Principle.SingleChanges.{InTurn, Path, along}
use Rattle.str_model.proofs.Principle.StepPaths.{close-path, first-path, half_turn-path, resolved_first, rest-path}
use Rattle.str_model.proofs.ViewFacts.NodeKept.{moment_along, turn_ready}
use Rattle.str_model.proofs.ViewFacts.QuietTurns.{decided_rests, open_does}
use Rattle.str_scene.specs.Scenes.{Here}

-- ---- the look at dependencies

module _ (w : WorkState) (i : ℕ) (o : OwnIs (λ x. is_decided x.phase ≡ false) i w) where
  -- without dependencies it changes nothing
  pub resolve_rests : not (is_empty o.0.snap.deps) ≡ false → Did (at_own i (resolve_own w.here i) w.doing) w w
  unfolding dep_turn
  resolve_rests e =
      let same : (let y : Own = record (o.0) { snap = record (o.0.snap) { deps = [] } } in y) ≡ o.0 = ap (λ ds. let y : Own = record (o.0) { snap = record (o.0.snap) { deps = ds } } in y) (sym (empty_is o.0.snap.deps e)) in
      let all : resolve_own w.here i o.0 w.doing ≡ w.doing =
      ap (λ ds. let s : Snap = record (o.0.snap) { deps = ds } in let t = dep_turn w.doing.view.own s in let y : Own = record (o.0) { snap = left_by t s } in resolved w.here i y t (put i y w.doing)) (empty_is o.0.snap.deps e)
      ∙ (ap (λ y. put i y w.doing) same ∙ put_same i o.0 w.doing o.1) in
      record { done = sym (open_does i (resolve_own w.here i) w.doing o.0 o.1 o.2 ∙ all); stays = stays_self w }

  abbrev looked : Turns.DepTurn
  looked = dep_turn w.doing.view.own o.0.snap

  abbrev left : Own
  left = record (o.0) { snap = left_by looked o.0.snap }

  module _ (f : HasFacts w) (turn : DepTurn) (is : turn_of turn left.snap ≡ looked) (mid : WorkState) (s : Did (at_own i (λ x. put i (record x { snap = left_by (dep_turn w.doing.view.own x.snap) x.snap })) w.doing) w mid) where
    did_look : Did (put i left w.doing) w mid
    did_look = did_as w mid _ _ (open_does i (λ x. put i (record x { snap = left_by (dep_turn w.doing.view.own x.snap) x.snap })) w.doing o.0 o.1 o.2) s

    left_owns : Owns (put i left w.doing).view i left
    left_owns = get_set w.doing.view.own i o.0 left o.1

    pub resolve_facts : HasFacts mid
    resolve_facts = facts_then w mid (put i left w.doing) f did_look (looked_moment w.here f.limits f.exists w.doing f.moment i o.0 o.1 o.2)

    pub resolve_open : OwnIs (λ x. is_decided x.phase ≡ false) i mid
    resolve_open = own_then (λ h x. is_decided x.phase ≡ false) i w mid (put i left w.doing) left did_look left_owns o.2

    resolve_is : at_own i (resolve_own w.here i) w.doing ≡ resolved w.here i left (turn_of turn left.snap) (put i left w.doing)
    resolve_is = open_does i (resolve_own w.here i) w.doing o.0 o.1 o.2 ∙ ap (λ t. resolved w.here i left t (put i left w.doing)) (sym is)

    pub resolve_keeps : turn ≡ Keep → Did (at_own i (resolve_own w.here i) w.doing) w mid
    resolve_keeps e = did_as w mid _ _ (sym (resolve_is ∙ ap (λ t. resolved w.here i left (turn_of t left.snap) (put i left w.doing)) e)) did_look

    pub resolve_does : (F : Here → Own → Doing → Doing) (u : DepTurn) → turn ≡ u → resolved w.here i left (turn_of u left.snap) (put i left w.doing) ≡ F w.here left (put i left w.doing)
        → (new : WorkState) → Did (at_own i (F mid.here) mid.doing) mid new → Did (at_own i (resolve_own w.here i) w.doing) w new
    resolve_does F u q e new t =
        did_as w new _ _ (open_does i (F w.here) (put i left w.doing) left left_owns o.2 ∙ (sym (ap (λ z. resolved w.here i left (turn_of z left.snap) (put i left w.doing)) q ∙ e) ∙ sym resolve_is))
        (did_then (λ h d. at_own i (F h) d) w mid new (put i left w.doing) did_look t)

    pub resolve_fits : (F : Here → Own → Doing → Doing) (u : DepTurn) → turn ≡ u → resolved w.here i left (turn_of u left.snap) (put i left w.doing) ≡ F w.here left (put i left w.doing)
        → Fits w (at_own i (resolve_own w.here i) w.doing) → Fits mid (at_own i (F mid.here) mid.doing)
    resolve_fits F u q e g =
        fits_then (λ h d. at_own i (F h) d) w mid (put i left w.doing) did_look
        (fits_as w _ _ (resolve_is ∙ ((ap (λ z. resolved w.here i left (turn_of z left.snap) (put i left w.doing)) q ∙ e) ∙ sym (open_does i (F w.here) (put i left w.doing) left left_owns o.2))) g)

-- ---- what waits is tried again

module _ (w : WorkState) (i : ℕ) (x : Own) (own : Owns w.doing.view i x) where
  -- something is done of the transaction, by its phase
  pub phase_does : (A : Here → ℕ → Phase → Own → Doing → Doing) (F : Own → Doing → Doing) (p : Phase) → x.phase ≡ p → is_decided p ≡ false → A w.here i p x w.doing ≡ F x w.doing
      → at_own i (λ z. A w.here i z.phase z) w.doing ≡ at_own i F w.doing
  phase_does A F p e f q =
      open_does i (λ z. A w.here i z.phase z) w.doing x own (ap is_decided e ∙ f)
      ∙ (ap (λ z. A w.here i z x w.doing) e ∙ (q ∙ sym (open_does i F w.doing x own (ap is_decided e ∙ f))))

  -- nothing is done, by its phase
  pub phase_rests : (A : Here → ℕ → Phase → Own → Doing → Doing) → (is_decided x.phase ≡ false → A w.here i x.phase x w.doing ≡ w.doing) → Did (at_own i (λ z. A w.here i z.phase z) w.doing) w w
  phase_rests A q = record { done = sym (by_test (is_decided x.phase) refl); stays = stays_self w }
    where
      by_test : (b : Bool) → is_decided x.phase ≡ b → at_own i (λ z. A w.here i z.phase z) w.doing ≡ w.doing
      by_test true e = decided_rests i (λ z. A w.here i z.phase z) w.doing x own e
      by_test false e = open_does i (λ z. A w.here i z.phase z) w.doing x own e ∙ q e

  pub wait_reads : HasFacts w → (k : KeyId) → x.phase ≡ ReadWait k → OwnIs (MayRead w.here k) i w
  wait_reads f k e =
      let waits : WaitsFor x.phase k = subst (λ p. WaitsFor p k) (sym e) refl in
      (x, own, (inr waits, (f.moment.needy i x own).waits k waits))

  -- a reply is taken
  module _ (f : HasFacts w) (k : KeyId) (a : Value) (by : Option TxId) (fc : ℕ) (e : x.phase ≡ Reply k a by fc) (turn : Turns.ReadTurn) (is : turn ≡ reply_turn w.here x.snap a by fc) where
    reply_open : is_decided x.phase ≡ false
    reply_open = ap is_decided e

    reply_is : at_own i (λ z. again_own w.here i z.phase z) w.doing ≡ Pass.again_reply w.here i k x turn w.doing
    reply_is =
        open_does i (λ z. again_own w.here i z.phase z) w.doing x own reply_open
        ∙ (ap (λ p. again_own w.here i p x w.doing) e ∙ ap (λ t. Pass.again_reply w.here i k x t w.doing) (sym is))

    pub reply_takes : (b : Value) (u : Option TxId) (g : ℕ) (snap : Snap) → turn ≡ Turns.Plain b u g snap → OwnIs (λ z. MayRead w.here k z × (snap.rs ≡ z.snap.rs)) i w
    reply_takes b u g snap q =
        let waits : WaitsFor x.phase k = subst (λ p. WaitsFor p k) (sym e) refl in
        let good = subst (TurnGood w.doing.view x.snap) (sym is ∙ q) (reply_turn-good w.here w.doing.view x.snap a by fc) in
        (x, own, ((inr waits, (f.moment.needy i x own).waits k waits), good.rs))

    pub reply_does : (b : Value) (u : Option TxId) (g : ℕ) (snap : Snap) → turn ≡ Turns.Plain b u g snap
        → at_own i (with_value w.here i k b u snap) w.doing ≡ at_own i (λ z. again_own w.here i z.phase z) w.doing
    reply_does b u g snap q =
        open_does i (with_value w.here i k b u snap) w.doing x own reply_open
        ∙ sym (reply_is ∙ ap (λ t. Pass.again_reply w.here i k x t w.doing) q)

    pub reply_rests : ((b : Value) (u : Option TxId) (g : ℕ) (snap : Snap) → turn ≡ Turns.Plain b u g snap → ⊥) → Did (at_own i (λ z. again_own w.here i z.phase z) w.doing) w w
    reply_rests n = record { done = sym (reply_is ∙ by_turn turn n); stays = stays_self w }
      where
        by_turn : (t : Turns.ReadTurn) → ((b : Value) (u : Option TxId) (g : ℕ) (snap : Snap) → t ≡ Turns.Plain b u g snap → ⊥) → Pass.again_reply w.here i k x t w.doing ≡ w.doing
        by_turn (Turns.Plain b u g snap) n = absurd (n b u g snap refl)
        by_turn _ n = refl

-- ---- a whole turn

module _ (w : WorkState) (i : ℕ) (f : HasFacts w) where
  -- once the dependencies were looked at
  abbrev first : Doing
  first = resolved_first w.here any_input (InTurn i) i w.doing

  first_is : at_own i (resolve_own w.here i) w.doing ≡ first
  unfolding resolved_first
  first_is = refl

  length_along : (d e : Doing) → Path w.here any_input (InTurn i) d e → length e.view.own ≡ length d.view.own
  length_along d e p = along w.here any_input (InTurn i) (λ z. length z.view.own ≡ length d.view.own) (same_length w.here any_input (InTurn i) (λ q. cc q) (length d.view.own)) d e p refl

  facts_along : (d e : Doing) (mid : WorkState) → Path w.here any_input (InTurn i) d e → MomentFacts w.here d.view → Did e w mid → HasFacts mid
  facts_along d e mid p h s = facts_then w mid e f s (moment_along w.here f.limits f.exists any_input (InTurn i) d e p h)

  pub turn_resolves : Fits w (turn w.here i w.doing) → Fits w (at_own i (resolve_own w.here i) w.doing)
  turn_resolves g =
      fits_as w first _ (sym first_is)
      (fits_before w first (turn w.here i w.doing) (grows_along w.here any_input (InTurn i) first (turn w.here i w.doing) (rest-path w.here any_input (InTurn i) i w.doing refl)) g)

  module _ (mid : WorkState) (s : Did (at_own i (resolve_own w.here i) w.doing) w mid) where
    did_first : Did first w mid
    did_first = did_as w mid _ _ first_is s

    pub first_facts : HasFacts mid
    first_facts = facts_along w.doing first mid (first-path w.here any_input (InTurn i) i w.doing refl) f.moment did_first

    pub first_there : i < length w.doing.view.own → i < length mid.doing.view.own
    first_there l =
        let e = length_along w.doing first (first-path w.here any_input (InTurn i) i w.doing refl) in
        holds_then (λ h z. i < length z.view.own) w mid first did_first (omega (arith, l, e))

    pub first_opens : OpenTo w.doing.view i → OpenTo mid.doing.view (i + 1)
    first_opens h =
        let r = turn_ready w.here f.limits f.exists any_input i w.doing f.moment (record { base = f.moment.base; below = h }) in
        holds_then (λ y z. OpenTo z.view (i + 1)) w mid first did_first (up_to r.1.below r.1.at_it)
      where
        order : (j : ℕ) → j < i + 1 → (j < i) ⊎ (j ≡ i)
        order j lt = grind arith

        up_to : OpenTo first.view i → OpenAt first.view i → OpenTo first.view (i + 1)
        up_to b a j x dep lt own u m = elim (order j lt) [
          | inl l ↦ b j x dep l own u m
          | inr e ↦ a x dep (subst (λ k. Owns first.view k x) e own) u m
        ]

    half_is : at_own i (λ x. again_own w.here i x.phase x) first ≡ half_turn w.here i w.doing
    unfolding half_turn resolved_first
    half_is = refl

    turn_is : at_own i (close_own w.here i) (half_turn w.here i w.doing) ≡ turn w.here i w.doing
    unfolding turn
    turn_is = refl

    pub first_fits : Fits w (turn w.here i w.doing) → Fits mid (at_own i (λ x. again_own mid.here i x.phase x) mid.doing)
    first_fits g =
        fits_then (λ h d. at_own i (λ x. again_own h i x.phase x) d) w mid first did_first
        (fits_as w (half_turn w.here i w.doing) _ (sym half_is)
        (fits_before w (half_turn w.here i w.doing) (turn w.here i w.doing) (grows_along w.here any_input (InTurn i) (half_turn w.here i w.doing) (turn w.here i w.doing) (close-path w.here any_input (InTurn i) i w.doing refl)) g))

    module _ (half : WorkState) (t : Did (at_own i (λ x. again_own mid.here i x.phase x) mid.doing) mid half) where
      did_half : Did (half_turn w.here i w.doing) w half
      did_half = did_as w half _ _ half_is (did_then (λ h d. at_own i (λ x. again_own h i x.phase x) d) w mid half first did_first t)

      pub half_facts : HasFacts half
      half_facts = facts_along w.doing (half_turn w.here i w.doing) half (half_turn-path w.here any_input (InTurn i) i w.doing refl) f.moment did_half

      pub half_there : i < length w.doing.view.own → i < length half.doing.view.own
      half_there l =
          let e = length_along w.doing (half_turn w.here i w.doing) (half_turn-path w.here any_input (InTurn i) i w.doing refl) in
          holds_then (λ h z. i < length z.view.own) w half (half_turn w.here i w.doing) did_half (omega (arith, l, e))

      pub half_fits : Fits w (turn w.here i w.doing) → Fits half (at_own i (close_own half.here i) half.doing)
      half_fits g =
          fits_then (λ h d. at_own i (close_own h i) d) w half (half_turn w.here i w.doing) did_half (fits_as w (turn w.here i w.doing) _ (sym turn_is) g)

      pub turn_done : (new : WorkState) → Did (at_own i (close_own half.here i) half.doing) half new → Did (turn w.here i w.doing) w new
      turn_done new u = did_as w new _ _ turn_is (did_then (λ h d. at_own i (close_own h i) d) w half new (half_turn w.here i w.doing) did_half u)

-- ---- what waits is tried again, by the phase

module _ (w : WorkState) (i : ℕ) (x : Own) (own : Owns w.doing.view i x) where
  again_is : (F : Own → Doing → Doing) (p : Phase) → x.phase ≡ p → is_decided p ≡ false → again_own w.here i p x w.doing ≡ F x w.doing → at_own i (λ z. again_own w.here i z.phase z) w.doing ≡ at_own i F w.doing
  again_is F p e f q = phase_does w i x own (λ h j y z d. again_own h j y z d) F p e f q

  pub again_fits : (F : Own → Doing → Doing) (p : Phase) → x.phase ≡ p → is_decided p ≡ false → again_own w.here i p x w.doing ≡ F x w.doing
      → Fits w (at_own i (λ z. again_own w.here i z.phase z) w.doing) → Fits w (at_own i F w.doing)
  again_fits F p e f q g = fits_as w _ _ (again_is F p e f q) g

  pub again_does : (F : Own → Doing → Doing) (p : Phase) → x.phase ≡ p → is_decided p ≡ false → again_own w.here i p x w.doing ≡ F x w.doing
      → (new : WorkState) → Did (at_own i F w.doing) w new → Did (at_own i (λ z. again_own w.here i z.phase z) w.doing) w new
  again_does F p e f q new t = did_as w new _ _ (sym (again_is F p e f q)) t

  -- one that waits for nothing at this node
  pub again_rests : (p : Spoken.Phase) → phase_of p ≡ x.phase → ((k : KeyId) → p ≡ spoken.ReadWait k → ⊥)
      → ((k : KeyId) (v : Value) (by : Option TxId) (fc : Ts) → p ≡ spoken.Reply k v by fc → ⊥) → (p ≡ spoken.CertWait → ⊥) → Did (at_own i (λ z. again_own w.here i z.phase z) w.doing) w w
  again_rests p e r a c = phase_rests w i x own (λ h j y z d. again_own h j y z d) (λ f. subst (λ y. again_own w.here i y x w.doing ≡ w.doing) e (by_phase p r a c))
    where
      by_phase : (p : Spoken.Phase) → ((k : KeyId) → p ≡ spoken.ReadWait k → ⊥) → ((k : KeyId) (v : Value) (by : Option TxId) (fc : Ts) → p ≡ spoken.Reply k v by fc → ⊥)
          → (p ≡ spoken.CertWait → ⊥) → again_own w.here i (phase_of p) x w.doing ≡ w.doing
      by_phase (spoken.ReadWait k) r a c = absurd (r k refl)
      by_phase (spoken.Reply k v by fc) r a c = absurd (a k v by fc refl)
      by_phase spoken.CertWait r a c = absurd (c refl)
      by_phase _ r a c = refl

  -- ---- the closing, by the phase

  close_is : (F : Own → Doing → Doing) (p : Phase) → x.phase ≡ p → is_decided p ≡ false → close_phase w.here i p x w.doing ≡ F x w.doing → at_own i (close_own w.here i) w.doing ≡ at_own i F w.doing
  close_is F p e f q = phase_does w i x own (λ h j y z d. close_phase h j y z d) F p e f q

  -- it goes on waiting for its dependencies
  pub closing_waits : (b : Bool) → x.phase ≡ Closing b → not (is_empty x.snap.deps) ≡ true → Did (at_own i (close_own w.here i) w.doing) w w
  closing_waits b e n =
      record {
        done = sym (open_does i (close_own w.here i) w.doing x own (ap is_decided e) ∙ (ap (λ p. close_phase w.here i p x w.doing) e
            ∙ ap (λ t. if t then close_free w.here i b x w.doing else w.doing) (not_true (is_empty x.snap.deps) n)));
        stays = stays_self w;
      }
    where
      not_true : (t : Bool) → not t ≡ true → t ≡ false
      not_true true q = absurd (cc q)
      not_true false q = refl

  -- it has none left
  closing_ends : (b : Bool) → x.phase ≡ Closing b → not (is_empty x.snap.deps) ≡ false → at_own i (close_own w.here i) w.doing ≡ at_own i (close_free w.here i b) w.doing
  closing_ends b e n =
      close_is (close_free w.here i b) (Closing b) e refl (ap (λ t. if t then close_free w.here i b x w.doing else w.doing) (not_false (is_empty x.snap.deps) n))
    where
      not_false : (t : Bool) → not t ≡ false → t ≡ true
      not_false true q = refl
      not_false false q = absurd (cc q)

  pub closing_fits : (b : Bool) → x.phase ≡ Closing b → not (is_empty x.snap.deps) ≡ false → Fits w (at_own i (close_own w.here i) w.doing) → Fits w (at_own i (close_free w.here i b) w.doing)
  closing_fits b e n g = fits_as w _ _ (closing_ends b e n) g

  pub closing_does : (b : Bool) → x.phase ≡ Closing b → not (is_empty x.snap.deps) ≡ false → (new : WorkState) → Did (at_own i (close_free w.here i b) w.doing) w new
      → Did (at_own i (close_own w.here i) w.doing) w new
  closing_does b e n new t = did_as w new _ _ (sym (closing_ends b e n)) t

  -- the gate of a certified one is looked at
  gates_are : (lc : ℕ) → is_decided x.phase ≡ false → lc_of x.phase ≡ Some lc → at_own i (close_own w.here i) w.doing ≡ gates_in w.here i w.doing
  gates_are lc f l = open_does i (close_own w.here i) w.doing x own f ∙ by_phase x.phase l
    where
      by_phase : (p : Phase) → lc_of p ≡ Some lc → close_phase w.here i p x w.doing ≡ gates_in w.here i w.doing
      by_phase (Closing b) l = absurd (cc l)
      by_phase _ l = refl

  pub gates_fits : (lc : ℕ) → is_decided x.phase ≡ false → lc_of x.phase ≡ Some lc → Fits w (at_own i (close_own w.here i) w.doing) → Fits w (gates_in w.here i w.doing)
  gates_fits lc f l g = fits_as w _ _ (gates_are lc f l) g

  pub gates_does : (lc : ℕ) → is_decided x.phase ≡ false → lc_of x.phase ≡ Some lc → (new : WorkState) → Did (gates_in w.here i w.doing) w new → Did (at_own i (close_own w.here i) w.doing) w new
  gates_does lc f l new t = did_as w new _ _ (sym (gates_are lc f l)) t

  -- one that neither closes nor was certified
  pub close_rests : (p : Spoken.Phase) → phase_of p ≡ x.phase → ((b : Bool) → p ≡ spoken.Closing b → ⊥) → ((t : Ts) → p ≡ spoken.Local t → ⊥) → ((t : Ts) → p ≡ spoken.Global t → ⊥)
      → Did (at_own i (close_own w.here i) w.doing) w w
  close_rests p e c l g = phase_rests w i x own (λ h j y z d. close_phase h j y z d) (λ f. subst (λ y. close_phase w.here i y x w.doing ≡ w.doing) e (by_phase p (ap is_decided e ∙ f) e c l g))
    where
      quiet : (p : Phase) → p ≡ x.phase → is_decided p ≡ false → ((again : Doing → Doing) → gate_phase w.here i again p x w.doing ≡ w.doing) → gates_in w.here i w.doing ≡ w.doing
      quiet p e f q =
          let again : Doing → Doing = gates w.here i (length w.here.scene.parts) in
          open_does i (λ z. gate_phase w.here i again z.phase z) w.doing x own (ap is_decided (sym e) ∙ f) ∙ (ap (λ y. gate_phase w.here i again y x w.doing) (sym e) ∙ q again)

      by_phase : (p : Spoken.Phase) → is_decided (phase_of p) ≡ false → phase_of p ≡ x.phase → ((b : Bool) → p ≡ spoken.Closing b → ⊥) → ((t : Ts) → p ≡ spoken.Local t → ⊥)
          → ((t : Ts) → p ≡ spoken.Global t → ⊥) → close_phase w.here i (phase_of p) x w.doing ≡ w.doing
      by_phase (spoken.Closing b) f e c l g = absurd (c b refl)
      by_phase (spoken.Local t) f e c l g = absurd (l t refl)
      by_phase (spoken.Global t) f e c l g = absurd (g t refl)
      by_phase spoken.Active f e c l g = quiet Active e f (λ again. refl)
      by_phase (spoken.ReadWait k) f e c l g = quiet (ReadWait k) e f (λ again. refl)
      by_phase (spoken.Remote k) f e c l g = quiet (Remote k) e f (λ again. refl)
      by_phase (spoken.Reply k v by fc) f e c l g = quiet (Reply k v by fc.0) e f (λ again. refl)
      by_phase spoken.CertWait f e c l g = quiet CertWait e f (λ again. refl)
      by_phase (spoken.Committed m fc) f e c l g = absurd (cc f)
      by_phase (spoken.Aborted m q) f e c l g = absurd (cc f)
