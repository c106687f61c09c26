-- The work of an own transaction's script, piece by piece: what each piece needs, and that all of them are what the model does.
use Rattle.std.proofs.Common.{List, None, Option, Some, [], ap, false, inl, inr, length, not, refl, slice_get, subst, sym, true, ℕ, ◌+◌, ◌<◌, ◌∙◌, ◌∷◌, ◌≡◌, ◌≢◌}
use Rattle.std.proofs.lemmas.Option.{slice_get_within}
use Rattle.dependency_set.specs.Snapshots.{Snap}
use Rattle.node_parts.specs.Owning.{IsFree, turned}
use Rattle.node_core.proofs.Whole.Moves.{did_as, did_then, facts_then, fits_as, fits_then, holds_then}
use Rattle.node_core.proofs.PassTurns.OwnMoments.{marked_moment}
use Rattle.node_core.proofs.Rules.ScriptTurns.{can_turn, has_place, need_there, value_turns, waits_free}
use Rattle.node_core.specs.Reading.{AsksToCommit, CanTurn, MayRead}
use Rattle.node_core.specs.Working.{Did, Fits, HasFacts, OwnIs, WorkState}
use Rattle.str_base.proofs.Lists.{get_set, set_got}
use Rattle.str_base.specs.declared.names.KeyId.{KeyId}
use Rattle.str_base.specs.declared.names.TxId.{TxId}
use Rattle.str_base.specs.declared.names.Value.{Value}
use Rattle.str_base.specs.declared.names.Write.{Write}
use Rattle.str_model.specs.Acts.{in_phase, marked}
use Rattle.str_model.specs.NodeFacts.{OpenTo}
use Rattle.str_model.specs.Owned.{Owns}
use Rattle.str_model.specs.Pass.{is_empty}
use Rattle.str_model.specs.Scripts.{ask_commit, at_own, cert_done, certify_now, noted, op_or_commit, own_op, read_done, read_now, with_value}
use Rattle.str_model.specs.Strange.{has_key}
use Rattle.str_model.specs.Turns.{CertTurn, Certified, Plain, ReadTurn, Speculative, cert_turn, read_turn}
use Rattle.str_model.specs.Views.{Active, Closing, Doing, Own, View, is_decided, lc_of, put}
use Rattle.str_model.proofs.Changes.SnapshotsGain.{CertGood, TurnGood, cert_turn-good, read_turn-good}
use Rattle.str_model.proofs.Room.SmallNumbers.{has_room}
use Rattle.str_model.proofs.ViewFacts.NodeUses.{have_marks}
use Rattle.str_model.proofs.ViewFacts.QuietTurns.{open_does}
use Rattle.str_scene.specs.Scenes.{Here, script_at}
use Rattle.tx_script.proofs.OfNode.{turn_does}
use Rattle.tx_script.specs.Doing.{by_turn, run_of}
use Rattle.tx_script.specs.declared.turns.Turn.{Turn}
use Rattle.tx_script.specs.Turns.{Turned, turn_of}

-- ---- one own transaction of a work

pub own_there : (P : Own → Type 0) (i : ℕ) (w : WorkState) → OwnIs P i w → i < length w.doing.view.own
own_there P i w o = slice_get_within w.doing.view.own i o.0 o.1

-- what holds of the transaction after a change that leaves it
pub own_then : (P : Here → Own → Type 0) (i : ℕ) (old mid : WorkState) (d : Doing) (x : Own) → Did d old mid → slice_get d.view.own i ≡ Some x → P old.here x → OwnIs (P mid.here) i mid
own_then P i old mid d x s own p = holds_then (λ h z. (y : Own) × (slice_get z.view.own i ≡ Some y) × P h y) old mid d s (x, own, p)

pub open_then : (n : ℕ) (old mid : WorkState) (d : Doing) → Did d old mid → OpenTo d.view n → OpenTo mid.doing.view n
open_then n old mid d s h = holds_then (λ y z. OpenTo z.view n) old mid d s h

pub put_same : (i : ℕ) (x : Own) (d : Doing) → Owns d.view i x → put i x d ≡ d
put_same i x d own = ap (λ xs. let v : View = record (d.view) { own = xs } in let e : Doing = record d { view = v } in e) (set_got d.view.own i x own)

-- ---- a value has come

module _ (w : WorkState) (i : ℕ) (k : KeyId) (v : Value) (by : Option TxId) (snap : Snap) (f : HasFacts w) (o : OwnIs (λ x. MayRead w.here k x × (snap.rs ≡ x.snap.rs)) i w) where
  pub take_keeps : OwnIs (λ x. IsFree x × (length x.reads < 16) × (snap.rs ≡ x.snap.rs)) i w
  take_keeps =
      let p = waits_free o.0.phase k o.2.0.0 in
      let n = o.2.0.1 in
      let r = has_room w.here f.limits w.doing.view f.moment i o.0 n.0 o.1 p.2 n.1 in
      (o.0, o.1, ((p.0, p.1), r.reads, o.2.1))

  module _ (mid : WorkState) (s : Did (at_own i (λ x. put i (noted k v by snap x)) w.doing) w mid) where
    abbrev kept : Own
    kept = noted k v by snap o.0

    kept_open : is_decided o.0.phase ≡ false
    kept_open = (waits_free o.0.phase k o.2.0.0).0

    kept_owns : Owns (put i kept w.doing).view i kept
    kept_owns = get_set w.doing.view.own i o.0 kept o.1

    did_keep : Did (put i kept w.doing) w mid
    did_keep = did_as w mid _ _ (open_does i (λ x. put i (noted k v by snap x)) w.doing o.0 o.1 kept_open) s

    pub take_turns : OwnIs (CanTurn mid.here) i mid
    take_turns =
        let p = waits_free o.0.phase k o.2.0.0 in
        own_then (λ h y. CanTurn h y) i w mid (put i kept w.doing) kept did_keep kept_owns
        (record { free = (p.0, p.1); placed = f.moment.order.placed i o.0 o.1; place = has_place w.here f.limits kept (f.moment.lengths i o.0 o.1).gets })

    pub take_does : (new : WorkState) → Did (at_own i (λ x. put i (turned (turn_of (script_at mid.here.scene x.place) (run_of x)) x)) mid.doing) mid new
        → Did (at_own i (with_value w.here i k v by snap) w.doing) w new
    take_does new t =
        did_as w new _ _
        (open_does i (λ x. put i (turned (turn_of (script_at w.here.scene x.place) (run_of x)) x)) (put i kept w.doing) kept kept_owns kept_open
        ∙ (sym (value_turns w.here i k v by snap o.0 w.doing o.2.0.1) ∙ sym (open_does i (with_value w.here i k v by snap) w.doing o.0 o.1 kept_open)))
        (did_then (λ h d. at_own i (λ x. put i (turned (turn_of (script_at h.scene x.place) (run_of x)) x)) d) w mid new (put i kept w.doing) did_keep t)

-- ---- a read

module _ (w : WorkState) (i : ℕ) (k : KeyId) (f : HasFacts w) (o : OwnIs (MayRead w.here k) i w) where
  pub read_free : IsFree o.0
  read_free = let p = waits_free o.0.phase k o.2.0 in (p.0, p.1)

  pub read_key : has_key w.here k ≡ true
  read_key = need_there w.here f.limits o.0 k o.2.1

  pub read_mark : k.0 < length w.doing.view.marks
  read_mark = have_marks w.here w.doing.view f.moment k read_key

  module _ (turn : ReadTurn) (is : turn ≡ read_turn w.here w.doing.view o.0.snap k) (rs : ℕ) (at : rs ≡ o.0.snap.rs) (mid : WorkState) (s : Did (marked k rs w.doing) w mid) where
    abbrev after : Doing
    after = marked k o.0.snap.rs w.doing

    did_mark : Did after w mid
    did_mark = did_as w mid _ _ (ap (λ n. marked k n w.doing) at) s

    still_owns : Owns after.view i o.0
    unfolding marked
    still_owns = o.1

    pub read_facts : HasFacts mid
    read_facts = facts_then w mid after f did_mark (marked_moment w.here f.limits f.exists w.doing f.moment i o.0 o.1 k)

    pub read_may : (snap : Snap) → snap.rs ≡ o.0.snap.rs → OwnIs (λ x. MayRead mid.here k x × (snap.rs ≡ x.snap.rs)) i mid
    read_may snap e = own_then (λ h x. MayRead h k x × (snap.rs ≡ x.snap.rs)) i w mid after o.0 did_mark still_owns (o.2, e)

    pub read_own : OwnIs IsFree i mid
    read_own = own_then (λ h x. IsFree x) i w mid after o.0 did_mark still_owns read_free

    turn_good : TurnGood w.doing.view o.0.snap turn
    turn_good = subst (TurnGood w.doing.view o.0.snap) (sym is) (read_turn-good w.here w.doing.view o.0.snap k)

    read_is : at_own i (read_now w.here i k) w.doing ≡ read_done w.here i k o.0 turn after
    unfolding read_now
    read_is = open_does i (read_now w.here i k) w.doing o.0 o.1 read_free.0 ∙ ap (λ t. read_done w.here i k o.0 t after) (sym is)

    pub plain_rs : (v : Value) (by : Option TxId) (fc : ℕ) (snap : Snap) → turn ≡ Plain v by fc snap → snap.rs ≡ o.0.snap.rs
    plain_rs v by fc snap e = (subst (TurnGood w.doing.view o.0.snap) e turn_good).rs

    pub local_rs : (v : Value) (by : TxId) (snap : Snap) → turn ≡ Speculative v by snap → snap.rs ≡ o.0.snap.rs
    local_rs v by snap e = (subst (TurnGood w.doing.view o.0.snap) e turn_good).rs

    -- what the read comes to is done of the transaction as it stands
    pub read_does : (F : Here → Own → Doing → Doing) (u : ReadTurn) → turn ≡ u → read_done w.here i k o.0 u after ≡ F w.here o.0 after → (new : WorkState) → Did (at_own i (F mid.here) mid.doing) mid new
        → Did (at_own i (read_now w.here i k) w.doing) w new
    read_does F u q e new t =
        did_as w new _ _ (open_does i (F w.here) after o.0 still_owns read_free.0 ∙ (sym (ap (λ z. read_done w.here i k o.0 z after) q ∙ e) ∙ sym read_is))
        (did_then (λ h d. at_own i (F h) d) w mid new after did_mark t)

    pub read_fits : (F : Here → Own → Doing → Doing) (u : ReadTurn) → turn ≡ u → read_done w.here i k o.0 u after ≡ F w.here o.0 after → Fits w (at_own i (read_now w.here i k) w.doing) → Fits mid (at_own i (F mid.here) mid.doing)
    read_fits F u q e g =
        fits_then (λ h d. at_own i (F h) d) w mid after did_mark
        (fits_as w _ _ (read_is ∙ ((ap (λ z. read_done w.here i k o.0 z after) q ∙ e) ∙ sym (open_does i (F w.here) after o.0 still_owns read_free.0))) g)

-- ---- a certification

asks_free : (here : Here) (x : Own) → AsksToCommit here x → IsFree x
asks_free here x (inl a) = (ap is_decided a.0, ap lc_of a.0)
asks_free here x (inr e) = (ap is_decided e, ap lc_of e)

module _ (w : WorkState) (i : ℕ) (o : OwnIs (AsksToCommit w.here) i w) where
  pub cert_free : IsFree o.0
  cert_free = asks_free w.here o.0 o.2

  module _ (turn : CertTurn) (is : turn ≡ cert_turn w.here w.doing.view o.0.snap o.0.writes) where
    pub cert_snap : (lc : ℕ) (snap : Snap) → turn ≡ Certified lc snap → OwnIs (λ x. IsFree x × (snap.rs ≡ x.snap.rs)) i w
    cert_snap lc snap e =
        let g = subst (CertGood w.doing.view o.0.snap) (sym is ∙ e) (cert_turn-good w.here w.doing.view o.0.snap o.0.writes) in
        (o.0, o.1, (cert_free, g.0.rs))

    -- what the certification comes to
    pub cert_is : (F : Here → Own → Doing → Doing) (u : CertTurn) → turn ≡ u → cert_done w.here i o.0 u w.doing ≡ F w.here o.0 w.doing
        → at_own i (F w.here) w.doing ≡ at_own i (certify_now w.here i) w.doing
    unfolding certify_now
    cert_is F u q e =
        open_does i (F w.here) w.doing o.0 o.1 cert_free.0
        ∙ (sym (ap (λ z. cert_done w.here i o.0 z w.doing) q ∙ e) ∙ (ap (λ t. cert_done w.here i o.0 t w.doing) is ∙ sym (open_does i (certify_now w.here i) w.doing o.0 o.1 cert_free.0)))

-- ---- the request to commit

not_empty : {X : Type 0} (xs : List X) → not (is_empty xs) ≡ true → xs ≢ []
not_empty [] e q = cc e
not_empty (x ∷ xs) e q = cc q

pub empty_is : {X : Type 0} (xs : List X) → not (is_empty xs) ≡ false → xs ≡ []
empty_is [] e = refl
empty_is (x ∷ xs) e = absurd (cc e)

module _ (w : WorkState) (i : ℕ) (o : OwnIs (λ x. (x.phase ≡ Active) × (own_op w.here x ≡ None)) i w) where
  ask_open : is_decided o.0.phase ≡ false
  ask_open = ap is_decided o.2.0

  pub ask_certifies : not (is_empty o.0.writes) ≡ true → OwnIs (AsksToCommit w.here) i w
  ask_certifies e = (o.0, o.1, inl (o.2.0, o.2.1, not_empty o.0.writes e))

  pub ask_is : not (is_empty o.0.writes) ≡ true → at_own i (certify_now w.here i) w.doing ≡ at_own i (λ x. ask_commit w.here i x x.writes) w.doing
  ask_is e =
      open_does i (certify_now w.here i) w.doing o.0 o.1 ask_open
      ∙ (by_writes o.0.writes e ∙ sym (open_does i (λ x. ask_commit w.here i x x.writes) w.doing o.0 o.1 ask_open))
    where
      by_writes : (ws : List Write) → not (is_empty ws) ≡ true → certify_now w.here i o.0 w.doing ≡ ask_commit w.here i o.0 ws w.doing
      by_writes [] e = absurd (cc e)
      by_writes (x ∷ ws) e = refl

  pub ask_closes : not (is_empty o.0.writes) ≡ false → at_own i (λ x. put i (in_phase (Closing false) x)) w.doing ≡ at_own i (λ x. ask_commit w.here i x x.writes) w.doing
  ask_closes e =
      open_does i (λ x. put i (in_phase (Closing false) x)) w.doing o.0 o.1 ask_open
      ∙ (sym (ap (λ ws. ask_commit w.here i o.0 ws w.doing) (empty_is o.0.writes e)) ∙ sym (open_does i (λ x. ask_commit w.here i x x.writes) w.doing o.0 o.1 ask_open))

-- ---- the next operation

module _ (w : WorkState) (i : ℕ) (f : HasFacts w) (o : OwnIs (λ x. x.phase ≡ Active) i w) where
  go_open : is_decided o.0.phase ≡ false
  go_open = ap is_decided o.2

  pub go_turns : OwnIs (CanTurn w.here) i w
  go_turns = (o.0, o.1, can_turn w.here f.limits w.doing.view f.moment i o.0 o.1 (go_open, ap lc_of o.2))

  abbrev next_turn : Turned
  next_turn = turn_of (script_at w.here.scene o.0.place) (run_of o.0)

  module _ (turn : Turn) (is : turn ≡ next_turn.turn) (mid : WorkState) (s : Did (at_own i (λ x. put i (turned (turn_of (script_at w.here.scene x.place) (run_of x)) x)) w.doing) w mid) where
    go_is : at_own i (λ x. op_or_commit w.here i x (own_op w.here x)) w.doing ≡ by_turn w.here i o.0 turn next_turn.run w.doing
    go_is =
        open_does i (λ x. op_or_commit w.here i x (own_op w.here x)) w.doing o.0 o.1 go_open
        ∙ (turn_does w.here i o.0 w.doing ∙ ap (λ t. by_turn w.here i o.0 t next_turn.run w.doing) (sym is))

    did_turn : Did (put i (turned next_turn o.0) w.doing) w mid
    did_turn = did_as w mid _ _ (open_does i (λ x. put i (turned (turn_of (script_at w.here.scene x.place) (run_of x)) x)) w.doing o.0 o.1 go_open) s

    -- where it does nothing, the rest is done of the transaction as it stands
    module _ (u : Turn) (q : turn ≡ u) (rests : turned (record { turn = u; run = next_turn.run }) o.0 ≡ o.0) where
      did_rest : Did w.doing w mid
      did_rest =
          did_as w mid _ _
          (ap (λ t. let z : Turned = record { turn = t; run = next_turn.run } in put i (turned z o.0) w.doing) (sym is ∙ q)
          ∙ (ap (λ x. put i x w.doing) rests ∙ put_same i o.0 w.doing o.1)) did_turn

      pub go_facts : HasFacts mid
      go_facts = facts_then w mid w.doing f did_rest f.moment

      pub go_opens : OpenTo w.doing.view (i + 1) → OpenTo mid.doing.view (i + 1)
      go_opens h = open_then (i + 1) w mid w.doing did_rest h

      pub go_own : (P : Here → Own → Type 0) → P w.here o.0 → OwnIs (P mid.here) i mid
      go_own P p = own_then P i w mid w.doing o.0 did_rest o.1 p

      rest_is : (F : Here → Own → Doing → Doing) → by_turn w.here i o.0 u next_turn.run w.doing ≡ F w.here o.0 w.doing
          → at_own i (λ x. op_or_commit w.here i x (own_op w.here x)) w.doing ≡ at_own i (F w.here) w.doing
      rest_is F e = go_is ∙ (ap (λ t. by_turn w.here i o.0 t next_turn.run w.doing) q ∙ (e ∙ sym (open_does i (F w.here) w.doing o.0 o.1 go_open)))

      pub go_fits : (F : Here → Own → Doing → Doing) → by_turn w.here i o.0 u next_turn.run w.doing ≡ F w.here o.0 w.doing
          → Fits w (at_own i (λ x. op_or_commit w.here i x (own_op w.here x)) w.doing) → Fits mid (at_own i (F mid.here) mid.doing)
      go_fits F e g = fits_then (λ h d. at_own i (F h) d) w mid w.doing did_rest (fits_as w _ _ (rest_is F e) g)

      pub go_does : (F : Here → Own → Doing → Doing) → by_turn w.here i o.0 u next_turn.run w.doing ≡ F w.here o.0 w.doing → (new : WorkState) → Did (at_own i (F mid.here) mid.doing) mid new
          → Did (at_own i (λ x. op_or_commit w.here i x (own_op w.here x)) w.doing) w new
      go_does F e new t = did_as w new _ _ (sym (rest_is F e)) (did_then (λ h d. at_own i (F h) d) w mid new w.doing did_rest t)
