-- The sweep of those who wait in a loop: what each try needs, and that all of them are the sweep.
use Rattle.std.proofs.Common.{Bool, Some, [], arith, false, if◌then◌else◌, length, refl, slice_get, subst, sym, true, ℕ, ◌+◌, ◌<◌, ◌∙◌, ◌≡◌, ◌≤◌}
use Rattle.node_core.proofs.Whole.Growing.{fits_before}
use Rattle.node_core.proofs.Whole.Moves.{facts_then, holds_then, stays_self, stays_then}
use Rattle.node_core.proofs.PassTurns.OwnMoments.{any_input}
use Rattle.node_core.proofs.Waiting.SweepOver.{Swept, sweep_ends, sweep_from, swept_leaves, swept_stays}
use Rattle.node_core.specs.Waiting.{Tried, is_staying, tried, turn_of}
use Rattle.node_core.specs.Working.{Did, Fits, HasFacts, Stays, WorkState}
use Rattle.str_base.proofs.Lists.{slice_get_there}
use Rattle.str_model.specs.declared.messages.Waiter.{Waiter}
use Rattle.str_model.specs.Waiters.{wait_turns}
use Rattle.str_model.proofs.Principle.SingleChanges.{InWait}
use Rattle.str_model.proofs.ViewFacts.NodeKept.{moment_along}

-- where the sweep stands after so many tries of all that waited at first
pub record SweepAt (w : WorkState) (all n j : ℕ) (at : WorkState) : Type 0 where
  pub stays : Stays w at
  pub facts : HasFacts at
  pub same : wait_turns w.here [] w.doing.view.waiters w.doing ≡ sweep_from at.here j at.doing
  pub within : j ≤ n
  pub count : length at.doing.view.waiters + n ≡ all + j

pub sweep_begin : (w : WorkState) (all : ℕ) → HasFacts w → all ≡ length w.doing.view.waiters → SweepAt w all 0 0 w
sweep_begin w all f q = record { stays = stays_self w; facts = f; same = refl; within = omega arith; count = omega (arith, q) }

module _ (w : WorkState) (all n j : ℕ) (at : WorkState) (h : SweepAt w all n j at) where
  pub sweep_there : n < all → j < length at.doing.view.waiters
  sweep_there l = let c = h.count in omega (arith, c, l)

  left_fits : Fits w (wait_turns w.here [] w.doing.view.waiters w.doing) → Fits at (sweep_from at.here j at.doing)
  left_fits g =
      let f = subst (Fits w) h.same g in
      record { room = (let a = f.room in let b = h.stays.room in omega (arith, a, b)); space = (let a = f.space in let b = h.stays.space in omega (arith, a, b)) }

  -- how one that is tried comes on
  swept_by : (r : Waiter) → slice_get at.doing.view.waiters j ≡ Some r → (b : Bool) → is_staying (turn_of at.doing.view r) ≡ b → Swept at.here j (if b then j + 1 else j) at.doing (tried at.here j r at.doing)
  swept_by r e true q = swept_stays at.here j at.doing r e q
  swept_by r e false q = swept_leaves at.here j at.doing r e q

  pub sweep_fits : Fits w (wait_turns w.here [] w.doing.view.waiters w.doing) → (r : Waiter) → slice_get at.doing.view.waiters j ≡ Some r → Fits at (tried at.here j r at.doing)
  sweep_fits g r e = fits_before at _ _ (swept_by r e (is_staying (turn_of at.doing.view r)) refl).grows (left_fits g)

  went : (r : Waiter) (k : ℕ) (mid : WorkState) → k ≤ j + 1 → Did (tried at.here j r at.doing) at mid → Swept at.here j k at.doing (tried at.here j r at.doing) → SweepAt w all (n + 1) k mid
  went r k mid le s z = record {
    stays = stays_then w at mid h.stays s.stays;
    facts = facts_then at mid _ h.facts s (moment_along at.here h.facts.limits h.facts.exists any_input InWait at.doing (tried at.here j r at.doing) z.path h.facts.moment);
    same = h.same ∙ (z.same ∙ holds_then (λ y d. sweep_from at.here k (tried at.here j r at.doing) ≡ sweep_from y k d) at mid _ s refl);
    within = (let a = h.within in omega (arith, le, a));
    count = (let a = h.count in let b = holds_then (λ y d. length d.view.waiters + (j + 1) ≡ length at.doing.view.waiters + k) at mid _ s z.count in omega (arith, a, b));
  }

  -- one more was tried
  pub sweep_next : (k : ℕ) (mid : WorkState) → n < all → ((r : Waiter) → slice_get at.doing.view.waiters j ≡ Some r → Tried j r k at mid) → SweepAt w all (n + 1) k mid
  sweep_next k mid l t =
      let o = slice_get_there at.doing.view.waiters j (sweep_there l) in
      let y = t o.0 o.1 in
      subst (λ m. SweepAt w all (n + 1) m mid) (sym y.next_is) (by_staying o.0 o.1 (is_staying (turn_of at.doing.view o.0)) refl y.done)
    where
      by_staying : (r : Waiter) → slice_get at.doing.view.waiters j ≡ Some r → (b : Bool) → is_staying (turn_of at.doing.view r) ≡ b → Did (tried at.here j r at.doing) at mid
          → SweepAt w all (n + 1) (if b then j + 1 else j) mid
      by_staying r e true q s = went r (j + 1) mid (omega arith) s (swept_stays at.here j at.doing r e q)
      by_staying r e false q s = went r j mid (omega arith) s (swept_leaves at.here j at.doing r e q)

  pub sweep_done : all ≤ n → Did (wait_turns w.here [] w.doing.view.waiters w.doing) w at
  sweep_done l = record { done = sym (h.same ∙ sweep_ends at.here j at.doing (let c = h.count in omega (arith, c, l))); stays = h.stays }
