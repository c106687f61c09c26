-- A step of a node: it begins with the outbox, does its work, and ends with what it has sent and released in the outbox.
use Rattle.std.proofs.Common.{Bool, None, Option, Some, [], ap, arith, false, length, refl, subst, sym, true, ◌++◌, ◌+◌, ◌∙◌, ◌≡◌, ◌≤◌}
use Rattle.std.specs.Prelude.{MatchOption}
use Rattle.std.proofs.lemmas.List.{append-nil}
use Rattle.node_parts.specs.Sending.{OutState}
use Rattle.node_core.proofs.Whole.Readying.{fresh_doing, need_fits}
use Rattle.node_core.specs.Working.{FitsRule, HasFacts, IsFresh, IsNode, NodeState, Ruled, SameNode, Steps, WorkState, here_of}
use Rattle.str_model.specs.declared.messages.Input.{Input}
use Rattle.str_model.specs.NodeFacts.{NodeFacts}
use Rattle.str_model.specs.Steps.{need, step}
use Rattle.str_model.specs.Strange.{has_node}
use Rattle.str_model.specs.Views.{Doing, starts}
use Rattle.str_model.proofs.ViewFacts.NodeKept.{node_step}
use Rattle.str_scene.specs.SceneLimits.{IsScene}
use Rattle.str_scene.specs.Scenes.{Here}
use Rattle.version_chain.specs.ChainLists.{IsOrdered}

-- how a node is seen between steps
abbrev pub node_of : WorkState → NodeState
node_of w = record { scene = w.here.scene; id = w.here.node; view = w.doing.view; room = w.room }

-- what holds of a work between steps
abbrev pub Between : WorkState → Type 0
Between w = IsNode w.here w.doing.view × IsFresh w × (w.earlier ≡ []) × (w.answered ≡ [])

-- it holds still where more room was made
module _ (old new : WorkState) (here : new.here ≡ old.here) (doing : new.doing ≡ old.doing) where
  pub still_between : (new.earlier ≡ old.earlier) × (new.answered ≡ old.answered) → Between old → Between new
  still_between out b = (
    subst (λ h. IsNode h new.doing.view) (sym here) (subst (λ (d : Doing). IsNode old.here d.view) (sym doing) b.0),
    record { sent = ap (λ (d : Doing). d.sent) doing ∙ b.1.sent; released = ap (λ (d : Doing). d.released) doing ∙ b.1.released; added = ap (λ (d : Doing). d.added) doing ∙ b.1.added },
    out.0 ∙ b.2,
    out.1 ∙ b.3,
  )

  pub still_node : SameNode (node_of old) (node_of new)
  still_node = record { scene = ap (λ (h : Here). h.scene) here; id = ap (λ (h : Here). h.node) here; view = ap (λ (d : Doing). d.view) doing }

-- what a beginning leaves
pub record Begun (old new : WorkState) (before : OutState) : Type 0 where
  pub here : new.here ≡ old.here
  pub doing : new.doing ≡ old.doing
  pub room : new.room ≡ old.room
  pub space : new.space ≡ before.space
  pub earlier : new.earlier ≡ before.messages
  pub answered : new.answered ≡ before.answers

-- what an end leaves
pub record Ended (old new : WorkState) (after : OutState) : Type 0 where
  pub ordered : IsOrdered new.doing.view.versions
  pub here : new.here ≡ old.here
  pub view : new.doing.view ≡ old.doing.view
  pub room : old.room ≡ new.room + old.doing.added
  pub messages : after.messages ≡ old.earlier ++ old.doing.sent
  pub answers : after.answers ≡ old.answered ++ old.doing.released
  pub space : old.space ≡ after.space + (length old.doing.sent + length old.doing.released)

module _ (w0 w1 : WorkState) (node : IsNode w0.here w0.doing.view) (fresh : IsFresh w0) (before : OutState) (b : Begun w0 w1 before) where
  begun_as : (P : Here → Doing → Type 0) → P w0.here w0.doing → P w1.here w1.doing
  begun_as P h = subst (λ z. P z w1.doing) (sym b.here) (subst (λ z. P w0.here z) (sym b.doing) h)

  pub begun_node : IsNode w1.here w1.doing.view
  begun_node = begun_as (λ h d. IsNode h d.view) node

  pub begun_fresh : w1.doing ≡ starts w1.doing.view
  begun_fresh = begun_as (λ h d. d ≡ starts d.view) (fresh_doing w0 fresh)

  pub begun_fits : (input : Input) → need w0.here input w0.doing.view ≤ w0.room → need w0.here input w0.doing.view ≤ before.space → FitsRule w1 (step w1.here input w1.doing.view)
  begun_fits input r s =
      let a = begun_as (λ h d. need h input d.view ≤ w0.room) r in
      let c = begun_as (λ h d. need h input d.view ≤ before.space) s in
      need_fits w1 input (let q = b.room in omega (arith, a, q)) (let q = b.space in omega (arith, c, q))

  module _ (input : Input) (moves : Bool) (w2 : WorkState) (r : Ruled (step w1.here input w1.doing.view) moves w1 w2) where
    -- the facts after it
    after_facts : IsScene w2.here.scene × (has_node w2.here w2.here.node ≡ true) × NodeFacts w2.here w2.doing.view
    after_facts = by_step (step w1.here input w1.doing.view) refl r
      where
        by_step : (o : Option Doing) → step w1.here input w1.doing.view ≡ o → Ruled o moves w1 w2 → IsScene w2.here.scene × (has_node w2.here w2.here.node ≡ true) × NodeFacts w2.here w2.doing.view
        by_step None q t = subst (λ (z : WorkState). IsScene z.here.scene × (has_node z.here z.here.node ≡ true) × NodeFacts z.here z.doing.view) (sym t.1) (begun_node.limits, begun_node.exists, begun_node.facts)
        by_step (Some d) q t =
            let n = node_step w1.here begun_node.limits begun_node.exists input w1.doing.view d begun_node.facts q in
            subst (λ (h : Here). IsScene h.scene × (has_node h h.node ≡ true) × NodeFacts h w2.doing.view) (sym t.1.stays.here)
            (begun_node.limits, begun_node.exists, subst (λ (z : Doing). NodeFacts w1.here z.view) (sym t.1.done) n)

    pub ended_facts : HasFacts w2
    ended_facts = record { limits = after_facts.0; exists = after_facts.1; moment = after_facts.2.moment }

    module _ (w3 : WorkState) (after : OutState) (e : Ended w2 w3 after) where
      pub ended_node : IsNode w3.here w3.doing.view
      ended_node =
          subst (λ h. IsNode h w3.doing.view) (sym e.here)
          (record { limits = after_facts.0; exists = after_facts.1; facts = subst (λ v. NodeFacts w2.here v) (sym e.view) after_facts.2; ordered = e.ordered })

      pub step_ends : MatchOption (step (here_of (node_of w0)) input w0.doing.view) ((moves ≡ false) × (node_of w3 ≡ node_of w0) × (after ≡ before)) (λ d. (moves ≡ true) × Steps (node_of w0) (node_of w3) before after d)
      step_ends = subst (λ o. MatchOption o ((moves ≡ false) × (node_of w3 ≡ node_of w0) × (after ≡ before)) (λ d. (moves ≡ true) × Steps (node_of w0) (node_of w3) before after d))
          (begun_as (λ h d. step h input d.view ≡ step w0.here input w0.doing.view) refl) (by_step (step w1.here input w1.doing.view) r)
        where
          none_sent : w1.doing.sent ≡ []
          none_sent = ap (λ (d : Doing). d.sent) b.doing ∙ fresh.sent

          none_released : w1.doing.released ≡ []
          none_released = ap (λ (d : Doing). d.released) b.doing ∙ fresh.released

          none_added : w1.doing.added ≡ 0
          none_added = ap (λ (d : Doing). d.added) b.doing ∙ fresh.added

          by_step : (o : Option Doing) → Ruled o moves w1 w2 → MatchOption o ((moves ≡ false) × (node_of w3 ≡ node_of w0) × (after ≡ before)) (λ d. (moves ≡ true) × Steps (node_of w0) (node_of w3) before after d)
          by_step None t =
              let here : w3.here ≡ w0.here = e.here ∙ (ap (λ (z : WorkState). z.here) t.1 ∙ b.here) in
              let view : w3.doing.view ≡ w0.doing.view = e.view ∙ (ap (λ (z : WorkState). z.doing.view) t.1 ∙ ap (λ (d : Doing). d.view) b.doing) in
              let r2 : w2.room ≡ w0.room = ap (λ (z : WorkState). z.room) t.1 ∙ b.room in
              let a2 : w2.doing.added ≡ 0 = ap (λ (z : WorkState). z.doing.added) t.1 ∙ none_added in
              let room : w3.room ≡ w0.room = (let q = e.room in omega (arith, q, r2, a2)) in
              let s2 : w2.doing.sent ≡ [] = ap (λ (z : WorkState). z.doing.sent) t.1 ∙ none_sent in
              let l2 : w2.doing.released ≡ [] = ap (λ (z : WorkState). z.doing.released) t.1 ∙ none_released in
              let messages : after.messages ≡ before.messages = e.messages ∙ (ap (λ ms. w2.earlier ++ ms) s2 ∙ (append-nil w2.earlier ∙ (ap (λ (z : WorkState). z.earlier) t.1 ∙ b.earlier))) in
              let answers : after.answers ≡ before.answers = e.answers ∙ (ap (λ ms. w2.answered ++ ms) l2 ∙ (append-nil w2.answered ∙ (ap (λ (z : WorkState). z.answered) t.1 ∙ b.answered))) in
              let p2 : w2.space ≡ before.space = ap (λ (z : WorkState). z.space) t.1 ∙ b.space in
              let space : after.space ≡ before.space = (let q = e.space in let m = ap length s2 in let n = ap length l2 in omega (arith, q, m, n, p2)) in (
                t.0,
                λ j. record { scene = (here j).scene; id = (here j).node; view = view j; room = room j },
                λ j. record { messages = messages j; answers = answers j; space = space j },
              )
          by_step (Some d) t =
              let s = t.1.stays in
              let sent : w2.doing.sent ≡ d.sent = ap (λ (z : Doing). z.sent) t.1.done in
              let released : w2.doing.released ≡ d.released = ap (λ (z : Doing). z.released) t.1.done in
              let added : w2.doing.added ≡ d.added = ap (λ (z : Doing). z.added) t.1.done in
              let here : w3.here ≡ w0.here = e.here ∙ (s.here ∙ b.here) in (
                t.0,
                record {
                  scene = ap (λ (h : Here). h.scene) here;
                  id = ap (λ (h : Here). h.node) here;
                  view = e.view ∙ ap (λ (z : Doing). z.view) t.1.done;
                  messages = e.messages ∙ (ap (λ ms. ms ++ w2.doing.sent) (s.earlier ∙ b.earlier) ∙ ap (λ ms. before.messages ++ ms) sent);
                  answers = e.answers ∙ (ap (λ ms. ms ++ w2.doing.released) (s.answered ∙ b.answered) ∙ ap (λ ms. before.answers ++ ms) released);
                  room = (let q = e.room in let m = s.room in let n = b.room in omega (arith, q, m, n, added));
                  space = (let q = e.space in let m = s.space in let n = b.space in let x = ap length sent in let y = ap length released in omega (arith, q, m, n, x, y));
                },
              )
