-- The last moment of a step is what the step leaves.
use Rattle.std.proofs.Common.{List, None, Option, Some, [], ap, append_assoc, length, option_map, refl, subst, suc, sym, zero, ℕ, ◌++◌, ◌∙◌, ◌∷◌, ◌≡◌}
use Rattle.str_model.specs.declared.messages.Input.{Input}
use Rattle.str_model.specs.declared.messages.Waiter.{Waiter}
use Rattle.str_model.specs.Moments.{after_moments, from_rule, input_moments, moments_of, pass_moments, turn_moments, wait_moments}
use Rattle.str_model.specs.Pass.{half_turn, pass_to, turn}
use Rattle.str_scene.specs.Scenes.{Here}
use Rattle.str_model.specs.Steps.{after_rule, rule, step}
use Rattle.str_model.specs.Views.{Doing, View, starts}
use Rattle.str_model.specs.Waiters.{wait_turns, waiter_turn}

abbrev pub EndsAt : List Doing → Doing → Type 0
EndsAt ms e = (xs : List Doing) × (ms ≡ xs ++ e ∷ [])

ends_more : (d e : Doing) (ms : List Doing) → EndsAt ms e → EndsAt (d ∷ ms) e
ends_more d e ms h = (d ∷ h.0, ap (λ ys. d ∷ ys) h.1)

ends_after : (xs ms : List Doing) (e : Doing) → EndsAt ms e → EndsAt (xs ++ ms) e
ends_after [] ms e h = h
ends_after (x ∷ xs) ms e h = ends_more x e (xs ++ ms) (ends_after xs ms e h)

-- two lists, the second of which goes on from the end of the first
ends_joined : (xs ms : List Doing) (p e : Doing) → EndsAt xs p → EndsAt (p ∷ ms) e → EndsAt (xs ++ ms) e
ends_joined xs ms p e a b =
    (a.0 ++ b.0, ap (λ ys. ys ++ ms) a.1 ∙ append_assoc a.0 (p ∷ []) ms ∙ ap (λ ys. a.0 ++ ys) b.1 ∙ sym (append_assoc a.0 b.0 (e ∷ [])))

module _ (here : Here) where
  wait_ends : (kept ws : List Waiter) (d : Doing) → EndsAt (d ∷ wait_moments here kept ws d) (wait_turns here kept ws d)
  wait_ends kept [] d = ([], refl)
  wait_ends kept (w ∷ rest) d =
      let r = waiter_turn here kept rest w d in
      ends_more d (wait_turns here r.0 rest r.1) (r.1 ∷ wait_moments here r.0 rest r.1) (wait_ends r.0 rest r.1)

  pass_ends : (n : ℕ) (d : Doing) → EndsAt (d ∷ pass_moments here n d) (pass_to here n d)
  pass_ends zero d = ([], refl)
  pass_ends (suc i) d =
      let e : Doing = pass_to here i d in
      ends_more d (turn here i e) (pass_moments here i d ++ turn_moments here i e)
      (ends_after (pass_moments here i d) (turn_moments here i e) (turn here i e) (half_turn here i e ∷ [], refl))

  after_ends : (d : Doing) → EndsAt (after_moments here d) (after_rule here d)
  unfolding after_rule
  after_ends d =
      let n = length d.view.own in
      let p : Doing = pass_to here n d in
      ends_joined (d ∷ pass_moments here n d) (wait_moments here [] p.view.waiters p) p (wait_turns here [] p.view.waiters p)
      (pass_ends n d) (wait_ends [] p.view.waiters p)

  rule_ends : (input : Input) (d e : Doing) (o : Option Doing) → option_map (after_rule here) o ≡ Some e → EndsAt (from_rule here input d o) e
  rule_ends input d e None q = absurd (cc q)
  rule_ends input d e (Some r) q =
      let same : after_rule here r ≡ e = cc q in
      subst (EndsAt (from_rule here input d (Some r))) same
      (ends_more d (after_rule here r) (input_moments here input d ++ after_moments here r)
      (ends_after (input_moments here input d) (after_moments here r) (after_rule here r) (after_ends r)))

  pub last_moment : (input : Input) (view : View) (e : Doing) → step here input view ≡ Some e → EndsAt (moments_of here input view) e
  unfolding step moments_of
  last_moment input view e q = rule_ends input (starts view) e (rule here input (starts view)) q
