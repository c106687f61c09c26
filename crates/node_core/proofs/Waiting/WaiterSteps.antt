-- One who waits is tried again: what it comes to, and what that does.
use Rattle.std.proofs.Common.{if◌then◌else◌, List, Some, ap, false, refl, remove, slice_get, subst, sym, true, ℕ, ◌++◌, ◌+◌, ◌∙◌, ◌≡◌, take, drop, Option}
use Rattle.node_core.proofs.Whole.Moves.{did_as, did_then, facts_then, fits_as, fits_then, holds_then, stays_self}
use Rattle.node_core.proofs.Waiting.SweepOver.{parted, removed}
use Rattle.node_core.proofs.Waiting.Unwaited.{unwaited_moment}
use Rattle.node_core.specs.Arriving.{CanPlace}
use Rattle.node_core.specs.declared.waiters.WaiterTurn.{WaiterTurn}
use Rattle.node_core.specs.declared.waiters.WaiterTurn.TheVariants.{Accept, Give, Refuse, Stay}
use Rattle.node_core.specs.Waiting.{Tried, is_staying, judged, served, tried, turn_of}
use Rattle.node_core.specs.Working.{Did, Fits, HasFacts, WorkState}
use Rattle.str_base.proofs.Members.{in_at}
use Rattle.str_base.specs.declared.names.KeyId.{KeyId}
use Rattle.str_base.specs.declared.names.Ts.{Ts}
use Rattle.str_base.specs.declared.names.TxId.{TxId}
use Rattle.str_base.specs.declared.names.Value.{Value}
use Rattle.str_base.specs.declared.names.Version.{Version}
use Rattle.str_base.specs.Members.{In}
use Rattle.str_base.specs.Versions.{of_pair}
use Rattle.str_model.specs.Acts.{accepted, refused, replied, with_waiters}
use Rattle.str_model.specs.declared.messages.Arrived.{Arrived}
use Rattle.str_model.specs.declared.messages.Waiter.{Waiter}
use Rattle.str_model.specs.declared.messages.Waiter.TheVariants.{Held, Read}
use Rattle.str_model.specs.NodeFacts.{MomentFacts, ParkedFacts, WaiterFacts}
use Rattle.str_model.specs.Proposals
use Rattle.str_model.specs.Proposals.{MasterTurn, master_turn}
use Rattle.str_model.specs.Strange.{has_named_writes}
use Rattle.str_model.specs.Turns
use Rattle.str_model.specs.Turns.{ServeTurn, serve_turn}
use Rattle.str_model.specs.Views.{Doing}
use Rattle.str_model.specs.Waiters.{waiter_held, waiter_read}
use Rattle.str_model.proofs.ViewFacts.VersionsKept.{master_hosts}
use Rattle.str_scene.specs.Scenes.{Here, hosts}

-- what is known of one who waits
pub waiter_facts : (w : WorkState) (j : ℕ) (r : Waiter) → HasFacts w → slice_get w.doing.view.waiters j ≡ Some r → WaiterFacts w.here w.doing.view r
waiter_facts w j r f e = f.moment.waiters r (in_at w.doing.view.waiters j r e)

module _ (w : WorkState) (j : ℕ) (r : Waiter) (e : slice_get w.doing.view.waiters j ≡ Some r) where
  abbrev left : Doing
  left = with_waiters (remove w.doing.view.waiters j) w.doing

  -- those who are left, with what stands before and after it
  left_is : (F : List Waiter → Doing) → F (take j w.doing.view.waiters ++ drop (j + 1) w.doing.view.waiters) ≡ F (remove w.doing.view.waiters j)
  left_is F = ap F (sym (removed w.doing.view.waiters j r e))

  pub gives : (tx : TxId) (k : KeyId) (rs : Ts) (v : Value) (by : Option TxId) (fc : Ts) → r ≡ Read tx k rs → Give v by fc ≡ turn_of w.doing.view r
      → tried w.here j r w.doing ≡ replied w.here tx k v by fc.0 left
  gives tx k rs v by fc q t =
      ap (λ z. tried w.here j z w.doing) q
      ∙ (by_turn (serve_turn w.doing.view.versions k rs.0) (t ∙ ap (turn_of w.doing.view) q)
      ∙ left_is (λ ws. replied w.here tx k v by fc.0 (with_waiters ws w.doing)))
    where
      fc_of : WaiterTurn → ℕ
      fc_of (Give a u g) = g.0
      fc_of Stay = 0
      fc_of (Accept ts) = 0
      fc_of (Refuse u l) = 0

      by_turn : (s : ServeTurn) → Give v by fc ≡ served s
          → (waiter_read w.here (take j w.doing.view.waiters) (drop (j + 1) w.doing.view.waiters) tx k rs s w.doing).1
          ≡ replied w.here tx k v by fc.0 (with_waiters (take j w.doing.view.waiters ++ drop (j + 1) w.doing.view.waiters) w.doing)
      by_turn (Turns.ServeWait u) t = absurd (cc t)
      by_turn (Turns.Give a u g) t =
          let p : a ≡ v = cc t in
          let q : u ≡ by = cc t in
          let n : g ≡ fc.0 = ap (λ (x : WaiterTurn). fc_of x) (sym t) in
          cc (p, q, n)

  pub gives_read : (a : Arrived) (v : Value) (by : Option TxId) (fc : Ts) → r ≡ Held a → Give v by fc ≡ turn_of w.doing.view r → ⊥
  gives_read a v by fc q t = by_turn (master_turn w.doing.view a) (t ∙ ap (turn_of w.doing.view) q)
    where
      by_turn : (s : MasterTurn) → Give v by fc ≡ judged s → ⊥
      by_turn (Proposals.Accept ts) t = cc t
      by_turn (Proposals.Refuse u k) t = cc t
      by_turn (Proposals.Park u) t = cc t
      by_turn Proposals.Ignore t = cc t

  pub accepts_held : (tx : TxId) (k : KeyId) (rs ts : Ts) → r ≡ Read tx k rs → Accept ts ≡ turn_of w.doing.view r → ⊥
  accepts_held tx k rs ts q t = by_turn (serve_turn w.doing.view.versions k rs.0) (t ∙ ap (turn_of w.doing.view) q)
    where
      by_turn : (s : ServeTurn) → Accept ts ≡ served s → ⊥
      by_turn (Turns.ServeWait u) t = cc t
      by_turn (Turns.Give a u g) t = cc t

  pub refuses_held : (tx : TxId) (k : KeyId) (rs : Ts) (by : TxId) (l : KeyId) → r ≡ Read tx k rs → Refuse by l ≡ turn_of w.doing.view r → ⊥
  refuses_held tx k rs by l q t = by_turn (serve_turn w.doing.view.versions k rs.0) (t ∙ ap (turn_of w.doing.view) q)
    where
      by_turn : (s : ServeTurn) → Refuse by l ≡ served s → ⊥
      by_turn (Turns.ServeWait u) t = cc t
      by_turn (Turns.Give a u g) t = cc t

  pub accepts : (a : Arrived) (ts : Ts) → r ≡ Held a → Accept ts ≡ turn_of w.doing.view r → tried w.here j r w.doing ≡ accepted w.here a ts.0 left
  accepts a ts q t =
      ap (λ z. tried w.here j z w.doing) q
      ∙ (by_turn (master_turn w.doing.view a) (t ∙ ap (turn_of w.doing.view) q) ∙ left_is (λ ws. accepted w.here a ts.0 (with_waiters ws w.doing)))
    where
      ts_of : WaiterTurn → ℕ
      ts_of (Accept x) = x.0
      ts_of Stay = 0
      ts_of (Give a u g) = 0
      ts_of (Refuse u l) = 0

      by_turn : (s : MasterTurn) → Accept ts ≡ judged s
          → (waiter_held w.here (take j w.doing.view.waiters) (drop (j + 1) w.doing.view.waiters) a s w.doing).1
          ≡ accepted w.here a ts.0 (with_waiters (take j w.doing.view.waiters ++ drop (j + 1) w.doing.view.waiters) w.doing)
      by_turn (Proposals.Accept n) t = let q : n ≡ ts.0 = ap (λ (x : WaiterTurn). ts_of x) (sym t) in
          ap (λ m. accepted w.here a m (with_waiters (take j w.doing.view.waiters ++ drop (j + 1) w.doing.view.waiters) w.doing)) q
      by_turn (Proposals.Refuse u k) t = absurd (cc t)
      by_turn (Proposals.Park u) t = absurd (cc t)
      by_turn Proposals.Ignore t = absurd (cc t)

  pub refuses : (a : Arrived) (by : TxId) (k : KeyId) → r ≡ Held a → Refuse by k ≡ turn_of w.doing.view r → tried w.here j r w.doing ≡ refused w.here a by k left
  refuses a by k q t =
      ap (λ z. tried w.here j z w.doing) q
      ∙ (by_turn (master_turn w.doing.view a) (t ∙ ap (turn_of w.doing.view) q) ∙ left_is (λ ws. refused w.here a by k (with_waiters ws w.doing)))
    where
      by_turn : (s : MasterTurn) → Refuse by k ≡ judged s
          → (waiter_held w.here (take j w.doing.view.waiters) (drop (j + 1) w.doing.view.waiters) a s w.doing).1
          ≡ refused w.here a by k (with_waiters (take j w.doing.view.waiters ++ drop (j + 1) w.doing.view.waiters) w.doing)
      by_turn (Proposals.Refuse u l) t = let p : u ≡ by = cc t in let q : l ≡ k = cc t in cc (p, q)
      by_turn (Proposals.Accept n) t = absurd (cc t)
      by_turn (Proposals.Park u) t = absurd (cc t)
      by_turn Proposals.Ignore t = absurd (cc t)

  -- where it goes on waiting, nothing is done
  pub stays : Stay ≡ turn_of w.doing.view r → tried w.here j r w.doing ≡ w.doing
  stays t = by_waiter r t
    where
      by_served : (tx : TxId) (k : KeyId) (rs : Ts) (s : ServeTurn) → Stay ≡ served s → (waiter_read w.here (take j w.doing.view.waiters) (drop (j + 1) w.doing.view.waiters) tx k rs s w.doing).1 ≡ w.doing
      by_served tx k rs (Turns.ServeWait u) t = refl
      by_served tx k rs (Turns.Give a u g) t = absurd (cc t)

      by_judged : (a : Arrived) (s : MasterTurn) → Stay ≡ judged s → (waiter_held w.here (take j w.doing.view.waiters) (drop (j + 1) w.doing.view.waiters) a s w.doing).1 ≡ w.doing
      by_judged a (Proposals.Park u) t = refl
      by_judged a Proposals.Ignore t = refl
      by_judged a (Proposals.Accept n) t = absurd (cc t)
      by_judged a (Proposals.Refuse u l) t = absurd (cc t)

      by_waiter : (z : Waiter) → Stay ≡ turn_of w.doing.view z → tried w.here j z w.doing ≡ w.doing
      by_waiter (Read tx k rs) t = by_served tx k rs (serve_turn w.doing.view.versions k rs.0) t
      by_waiter (Held a) t = by_judged a (master_turn w.doing.view a) t

  -- the j-th is this one alone
  pub only : (z : Waiter) → slice_get w.doing.view.waiters j ≡ Some z → r ≡ z
  only z q = let k : Some r ≡ Some z = sym e ∙ q in cc k

  module _ (mid : WorkState) (s : Did left w mid) where
    -- the rest of it has room, and is all of it
    pub left_fits : (F : Here → Doing → Doing) → tried w.here j r w.doing ≡ F w.here left → Fits w (tried w.here j r w.doing) → Fits mid (F mid.here mid.doing)
    left_fits F q g = fits_then F w mid left s (fits_as w _ _ q g)

    pub left_does : (F : Here → Doing → Doing) → tried w.here j r w.doing ≡ F w.here left → (new : WorkState) → Did (F mid.here mid.doing) mid new
        → (z : Waiter) → slice_get w.doing.view.waiters j ≡ Some z → Did (tried w.here j z w.doing) w new
    left_does F q new t z k = subst (λ y. Did (tried w.here j y w.doing) w new) (only z k) (did_as w new _ _ (sym q) (did_then F w mid new left s t))

    module _ (f : HasFacts w) where
      left_moment : MomentFacts w.here left.view
      left_moment =
          subst (λ ws. MomentFacts w.here (with_waiters ws w.doing).view) (sym (removed w.doing.view.waiters j r e))
          (unwaited_moment w.here w.doing.view f.moment (take j w.doing.view.waiters) (drop (j + 1) w.doing.view.waiters) r (parted w.doing.view.waiters j r e))

      -- a parked Prepare may be placed
      pub held_place : (a : Arrived) → r ≡ Held a → CanPlace mid a
      held_place a q =
          let p : ParkedFacts w.here w.doing.view a = subst (WaiterFacts w.here w.doing.view) q (waiter_facts w j r f e) in
          let h = facts_then w mid left f s left_moment in
          record {
            facts = h.moment;
            named = holds_then (λ y z. has_named_writes y a.tx a.part a.rs a.lc a.writes ≡ true) w mid left s p.named;
            hosted = holds_then (λ y z. hosts y.scene y.node a.part ≡ true) w mid left s (master_hosts w.here a.part p.masters.master);
            none = holds_then (λ y z. (u : Version) → In u z.view.versions → of_pair a.tx a.part u ≡ false) w mid left s p.none;
          }

-- ---- the place of the one after it

-- it goes on waiting, and the next one is after it
pub tried_stays : (w : WorkState) (j : ℕ) (r : Waiter) → slice_get w.doing.view.waiters j ≡ Some r → Stay ≡ turn_of w.doing.view r → Tried j r (j + 1) w w
tried_stays w j r e t = record {
  done = record { done = sym (stays w j r e t); stays = stays_self w };
  next_is = ap (λ z. if is_staying z then j + 1 else j) t;
}

-- it waits no more
pub tried_leaves : (w : WorkState) (j : ℕ) (r : Waiter) (u : WaiterTurn) → is_staying u ≡ false → u ≡ turn_of w.doing.view r → (new : WorkState) → Did (tried w.here j r w.doing) w new → Tried j r j w new
tried_leaves w j r u f t new s = record { done = s; next_is = sym (ap (λ z. if is_staying z then j + 1 else j) (sym t) ∙ ap (λ b. if b then j + 1 else j) f) }
