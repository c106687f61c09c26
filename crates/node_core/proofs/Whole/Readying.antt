-- The room that a step needs, and what a node can be asked between steps.
use Rattle.std.proofs.Common.{List, None, Option, Some, ap, arith, if◌then◌else◌, is_some, length, not, option_map, refl, sym, ℕ, ◌*◌, ◌+◌, ◌^◌, ◌∙◌, ◌≡◌, ◌≤◌}
use Rattle.std.specs.List.{count_by}
use Rattle.node_core.proofs.Parts.PartChanges.{open_count}
use Rattle.node_parts.specs.Owning.{open_from}
use Rattle.node_core.specs.Working.{FitsRule, IsFresh, IsNode, NodeState, SameNode, WorkState, here_of}
use Rattle.str_base.specs.declared.names.SessionId.{SessionId}
use Rattle.str_model.specs.Clients.{client_rule}
use Rattle.str_model.specs.declared.messages.Input.{Input}
use Rattle.str_model.specs.declared.messages.Input.TheVariants.{Client}
use Rattle.str_model.specs.NodeFacts.{ViewBelow, times_end}
use Rattle.str_model.specs.Steps.{after_rule, count_of, need, rule, step}
use Rattle.str_model.specs.Views.{Doing, Own, View, is_decided, starts}
use Rattle.str_model.proofs.OwnFacts.FewOwn.{is_open, many_count, open_few, own_few, times_low}
use Rattle.str_model.proofs.Room.NeedBound.{AllFit, need_bound}
use Rattle.str_model.proofs.Room.NeedRules.{InputFits}
use Rattle.str_model.proofs.ViewFacts.TimesBelow.{view_higher}
use Rattle.str_scene.specs.Scenes.{Here}

-- what a step needs is the same at the node that was made ready
pub need_same : (n m : NodeState) (input : Input) → SameNode n m → need (here_of n) input n.view ≡ need (here_of m) input m.view
need_same n m input s = λ j. need (record { scene = (sym s.scene) j; node = (sym s.id) j }) input ((sym s.view) j)

pub held_count : (own : List Own) → length (open_from 0 own) ≡ count_by (λ x. not (is_decided x.phase)) own
held_count own = open_count 0 own ∙ sym (many_count is_open own)

module _ (here : Here) (v : View) (n : IsNode here v) where
  pub held_few : length (open_from 0 v.own) ≤ 16
  held_few = let a = open_count 0 v.own in let b = open_few here n.limits n.exists v.own n.facts.moment.order in omega (arith, a, b)

  pub need_within : (input : Input) → InputFits input → AllFit v.waiters → need here input v ≤ 242 * length (open_from 0 v.own) + 25 * (length v.waiters + 1) + 32
  need_within input fits all =
      let a = need_bound here n.limits n.exists input fits v n.facts.moment all in
      let b = open_count 0 v.own in
      omega (arith, a, b)

  pub times_within : ViewBelow (2 ^ 63) v
  times_within = view_higher (times_end v) (2 ^ 63) v (let l = times_low here n.limits n.exists v n.facts.moment in omega (arith, l)) n.facts.moment.below

-- room for the need is room for the step
pub need_fits : (w : WorkState) (input : Input) → need w.here input w.doing.view ≤ w.room → need w.here input w.doing.view ≤ w.space → FitsRule w (step w.here input w.doing.view)
unfolding need
need_fits w input r s = by_step (step w.here input w.doing.view) r s
  where
    by_step : (o : Option Doing) → count_of o ≤ w.room → count_of o ≤ w.space → FitsRule w o
    by_step None r s = tt
    by_step (Some d) r s = record { room = omega (arith, r); space = omega (arith, s) }

-- a step is idle where its rule is
pub step_moves : (here : Here) (input : Input) (v : View) → is_some (step here input v) ≡ is_some (rule here input (starts v))
unfolding step
step_moves here input v = by_rule (rule here input (starts v))
  where
    by_rule : (o : Option Doing) → is_some (option_map (after_rule here) o) ≡ is_some o
    by_rule None = refl
    by_rule (Some d) = refl

-- between steps nothing is done beside the view
pub fresh_doing : (w : WorkState) → IsFresh w → w.doing ≡ starts w.doing.view
fresh_doing w f = λ j. record { view = w.doing.view; sent = f.sent j; released = f.released j; added = f.added j }

-- a client step is idle where its rule is, between steps
pub idle_steps : (w : WorkState) → IsFresh w → (s : SessionId) (t : ℕ) → is_some (step w.here (Client s t) w.doing.view) ≡ is_some (client_rule w.here s t w.doing)
unfolding rule
idle_steps w f s t = step_moves w.here (Client s t) w.doing.view ∙ ap (λ d. is_some (client_rule w.here s t d)) (sym (fresh_doing w f))

-- no more transactions begin than there are scripts
pub begun_few : (here : Here) (v : View) → IsNode here v → length v.own ≤ 1024
begun_few here v n = own_few here n.limits n.exists v.own n.facts.moment.order
