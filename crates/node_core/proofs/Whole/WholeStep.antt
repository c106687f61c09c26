-- A whole step, piece by piece: the rule, the pass and the sweep.
use Rattle.std.proofs.Common.{Bool, None, Option, Some, [], ap, arith, false, length, option_map, refl, subst, sym, true, ◌∙◌, ◌≡◌}
use Rattle.node_core.proofs.Whole.Growing.{Grows, fits_before, grows_along, grows_then}
use Rattle.node_core.proofs.Whole.Moves.{did_as, did_rule, did_then, facts_then, fits_rule, fits_then}
use Rattle.node_core.proofs.PassTurns.PassOver.{pass_grows}
use Rattle.node_core.specs.Working.{Did, Fits, FitsRule, HasFacts, IsNode, Ruled, WorkState}
use Rattle.str_model.specs.declared.messages.Input.{Input}
use Rattle.str_model.specs.NodeFacts.{MomentFacts}
use Rattle.str_model.specs.Pass.{pass_to}
use Rattle.str_model.specs.Steps.{after_rule, rule, step}
use Rattle.str_model.specs.Views.{Doing, View, starts}
use Rattle.str_model.specs.Waiters.{wait_turns}
use Rattle.str_model.proofs.Principle.RulePaths.{rule-path}
use Rattle.str_model.proofs.Principle.SingleChanges.{InRule, InWait, PathTo}
use Rattle.str_model.proofs.Principle.StepPaths.{wait_turns-path}
use Rattle.str_model.proofs.ViewFacts.NodeKept.{moment_along, pass_passed}
use Rattle.str_scene.specs.Scenes.{Here}

-- after the pass, and after the sweep
abbrev pub passed : Here → Doing → Doing
passed here r = pass_to here (length r.view.own) r

abbrev pub swept : Here → Doing → Doing
swept here e = wait_turns here [] e.view.waiters e

after_is : (here : Here) (r : Doing) → after_rule here r ≡ swept here (passed here r)
unfolding after_rule
after_is here r = refl

step_is : (here : Here) (input : Input) (v : View) → step here input v ≡ option_map (after_rule here) (rule here input (starts v))
unfolding step
step_is here input v = refl

grows_pass : (here : Here) (r : Doing) → Grows r (passed here r)
grows_pass here r = pass_grows here 0 (length r.view.own) r (omega arith)

grows_sweep : (here : Here) (input : Input) (e : Doing) → Grows e (swept here e)
grows_sweep here input e = grows_along here input InWait e (swept here e) (wait_turns-path here input InWait [] e.view.waiters e refl)

module _ (w : WorkState) (input : Input) (node : IsNode w.here w.doing.view) (fresh : w.doing ≡ starts w.doing.view) where
  pub step_facts : HasFacts w
  step_facts = record { limits = node.limits; exists = node.exists; moment = node.facts.moment }

  step_by : (o : Option Doing) → rule w.here input w.doing ≡ o → step w.here input w.doing.view ≡ option_map (after_rule w.here) o
  step_by o q = step_is w.here input w.doing.view ∙ (ap (λ d. option_map (after_rule w.here) (rule w.here input d)) (sym fresh) ∙ ap (λ z. option_map (after_rule w.here) z) q)

  pub rule_fits : FitsRule w (step w.here input w.doing.view) → FitsRule w (rule w.here input w.doing)
  rule_fits g = by_rule (rule w.here input w.doing) refl
    where
      by_rule : (o : Option Doing) → rule w.here input w.doing ≡ o → FitsRule w o
      by_rule None q = tt
      by_rule (Some r) q =
          fits_before w r (after_rule w.here r)
          (subst (Grows r) (sym (after_is w.here r)) (grows_then r (passed w.here r) (swept w.here (passed w.here r)) (grows_pass w.here r) (grows_sweep w.here input (passed w.here r))))
          (fits_rule w _ (after_rule w.here r) (step_by (Some r) q) g)

  -- where the rule is idle, the step is
  pub step_idle : (b : Bool) (new : WorkState) → b ≡ false → Ruled (rule w.here input w.doing) b w new → Ruled (step w.here input w.doing.view) false w new
  step_idle b new f t = by_rule (rule w.here input w.doing) refl t
    where
      by_rule : (o : Option Doing) → rule w.here input w.doing ≡ o → Ruled o b w new → Ruled (step w.here input w.doing.view) false w new
      by_rule None q t = subst (λ o. Ruled o false w new) (sym (step_by None q)) (refl, t.1)
      by_rule (Some r) q t = absurd (cc (f, t.0))

  module _ (b : Bool) (mid : WorkState) (yes : b ≡ true) (t : Ruled (rule w.here input w.doing) b w mid) where
    ruled : (r : Doing) × (rule w.here input w.doing ≡ Some r) × Did r w mid
    ruled = by_rule (rule w.here input w.doing) refl t
      where
        by_rule : (o : Option Doing) → rule w.here input w.doing ≡ o → Ruled o b w mid → (r : Doing) × (rule w.here input w.doing ≡ Some r) × Did r w mid
        by_rule None q t = absurd (cc (yes, t.0))
        by_rule (Some r) q t = (r, q, t.1)

    ruled_moment : MomentFacts w.here ruled.0.view
    ruled_moment =
        moment_along w.here node.limits node.exists input InRule w.doing ruled.0
        (subst (PathTo w.here input InRule w.doing) ruled.1 (rule-path w.here input InRule refl w.doing)) node.facts.moment

    pub ruled_facts : HasFacts mid
    ruled_facts = facts_then w mid ruled.0 step_facts ruled.2 ruled_moment

    all_fits : FitsRule w (step w.here input w.doing.view) → Fits w (swept w.here (passed w.here ruled.0))
    all_fits g = subst (Fits w) (after_is w.here ruled.0) (fits_rule w _ (after_rule w.here ruled.0) (step_by (Some ruled.0) ruled.1) g)

    pub ruled_fits : FitsRule w (step w.here input w.doing.view) → Fits mid (passed mid.here mid.doing)
    ruled_fits g =
        fits_then passed w mid ruled.0 ruled.2
        (fits_before w (passed w.here ruled.0) (swept w.here (passed w.here ruled.0)) (grows_sweep w.here input (passed w.here ruled.0)) (all_fits g))

    module _ (last : WorkState) (u : Did (passed mid.here mid.doing) mid last) where
      did_pass : Did (passed w.here ruled.0) w last
      did_pass = did_then passed w mid last ruled.0 ruled.2 u

      pub passed_facts : HasFacts last
      passed_facts = facts_then w last _ step_facts did_pass (pass_passed w.here node.limits node.exists input (length ruled.0.view.own) ruled.0 ruled_moment).moment

      pub passed_fits : FitsRule w (step w.here input w.doing.view) → Fits last (swept last.here last.doing)
      passed_fits g = fits_then swept w last (passed w.here ruled.0) did_pass (all_fits g)

      pub step_done : (new : WorkState) → Did (swept last.here last.doing) last new → Ruled (step w.here input w.doing.view) true w new
      step_done new v =
          did_rule w new _ (after_rule w.here ruled.0) (step_by (Some ruled.0) ruled.1)
          (did_as w new _ _ (sym (after_is w.here ruled.0)) (did_then swept w last new (passed w.here ruled.0) did_pass v))
