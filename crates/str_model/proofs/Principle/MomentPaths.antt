-- What is done between two moments that follow one another is a path of single changes.
use Rattle.std.proofs.Common.{Bool, None, Some, ap, false, if◌then◌else◌, length, nat_lt, refl, subst, sym, true, ◌∙◌, ◌≡◌}
use Rattle.str_model.specs.declared.messages.Arrived.{Arrived}
use Rattle.str_model.specs.declared.messages.Body.{Body}
use Rattle.str_model.specs.declared.messages.Body.TheVariants.{Abort, Ack, Commit, Prepare, ReadReply, ReadReq, Refuse as Refusal, Replicate}
use Rattle.str_model.specs.declared.messages.Input.{Input}
use Rattle.str_model.specs.declared.messages.Input.TheVariants.{Client, Deliver}
use Rattle.str_model.specs.declared.messages.Message.{Message}
use Rattle.str_model.specs.Acts.{taken}
use Rattle.str_model.specs.Arrivals
use Rattle.str_model.specs.Arrivals.{evict, held_key}
use Rattle.str_model.specs.Moments.{input_moments, moments_of}
use Rattle.str_model.specs.Moments
use Rattle.str_model.specs.Pass.{pass_to}
use Rattle.str_model.specs.Proposals.{proposed, takes, ts_limit}
use Rattle.str_model.specs.Steps
use Rattle.str_model.specs.Steps.{rule}
use Rattle.str_model.specs.Strange.{is_valid}
use Rattle.str_model.specs.Views.{Doing, name_of}
use Rattle.str_scene.specs.Scenes.{Here}
use Rattle.str_model.proofs.Principle.SingleChanges.{Comes, InRule, InTurn, InWait, Path, PathTo, Where, act_take, one}
use Rattle.str_model.proofs.Principle.StepPaths.{close-path, half_turn-path, waiter_turn-waited}
use Rattle.str_model.proofs.Principle.NextMoments.{Link, evict_linked_to, l_close, l_evict, l_half, l_rule, l_wait, last_of, valid}
use Rattle.str_model.proofs.Principle.OwnPaths.{at_own-path}
use Rattle.str_model.proofs.Principle.RulePaths.{evict_at-path, rule-path, takes_at}

-- the last eviction, and then the versions are taken
pub take_is : (here : Here) (a : Arrived) (d r : Doing) → Arrivals.replicate_rule here a d ≡ Some r
    → (nat_lt (proposed (evict here a (length d.view.own) d).view a) ts_limit ≡ true) × (takes here d.view a ≡ true) × (taken here a (proposed (evict here a (length d.view.own) d).view a) (evict here a (length d.view.own) d) ≡ r)
unfolding Arrivals.replicate_rule
take_is here a d r q = by_takes (takes here d.view a) refl q
  where
    by_limit : (b : Bool) (x : Doing) → (if b then Some x else None) ≡ Some r → (b ≡ true) × (x ≡ r)
    by_limit true x q = (refl, cc q)
    by_limit false x q = absurd (cc q)

    by_takes : (b : Bool) → takes here d.view a ≡ b → (if b then Arrivals.take_if here a (evict here a (length d.view.own) d) else None) ≡ Some r
        → (nat_lt (proposed (evict here a (length d.view.own) d).view a) ts_limit ≡ true) × (takes here d.view a ≡ true) × (taken here a (proposed (evict here a (length d.view.own) d).view a) (evict here a (length d.view.own) d) ≡ r)
    by_takes true e q =
        let k = by_limit (nat_lt (proposed (evict here a (length d.view.own) d).view a) ts_limit) (taken here a (proposed (evict here a (length d.view.own) d).view a) (evict here a (length d.view.own) d)) q in (k.0, e, k.1)
    by_takes false e q = absurd (cc q)

module _ (here : Here) (input : Input) where
  -- the rule of a message, where it is done
  body_of : (m : Message) (d r : Doing) → rule here (Deliver m) d ≡ Some r → Steps.body_rule here m.sender m.body d ≡ Some r
  unfolding Steps.rule
  body_of m d r q = by_test (is_valid here m) q
    where
      by_test : (b : Bool) → (if b then Steps.body_rule here m.sender m.body d else None) ≡ Some r → Steps.body_rule here m.sender m.body d ≡ Some r
      by_test true q = q
      by_test false q = absurd (cc q)

  rule_to : (d r : Doing) → rule here input d ≡ Some r → Path here input InRule d r
  rule_to d r e = subst (PathTo here input InRule d) e (rule-path here input InRule refl d)

  rule_link : (d r : Doing) (i : Input) → input ≡ i → rule here i d ≡ Some r → Path here input InRule (last_of d (input_moments here i d)) r
  rule_link d r (Client s t) e q = rule_to d r (ap (λ i. rule here i d) e ∙ q)
  rule_link d r (Deliver m) e q = by_body m.body refl
    where
      whole : rule here input d ≡ Some r
      whole = ap (λ i. rule here i d) e ∙ q

      by_body : (b : Body) → m.body ≡ b → Path here input InRule (last_of d (Moments.body_moments here b d)) r
      by_body (Replicate tx p rs lc ws) f =
          let a : Arrived = record { tx = tx; part = p; rs = rs; lc = lc; writes = ws } in
          let c : Comes here input m.sender (Replicate a.tx a.part a.rs a.lc a.writes) = (m, e, refl, f, valid here input d r whole m e) in
          let k = take_is here a d r (ap (λ b. Steps.body_rule here m.sender b d) (sym f) ∙ body_of m d r q) in
          let x : Doing = evict here a (length d.view.own) d in
          subst (λ z. Path here input InRule z r) (sym (evict_linked_to here input d m.sender a c (length d.view.own)))
          (subst (Path here input InRule x) k.2 (one (act_take m.sender a x c (takes_at here input InRule refl a d k.1 k.0))))
      by_body (ReadReq tx k rs) f = rule_to d r whole
      by_body (ReadReply tx k a by fc) f = rule_to d r whole
      by_body (Prepare tx p rs lc ws) f = rule_to d r whole
      by_body (Refusal tx p u k) f = rule_to d r whole
      by_body (Ack tx p ts) f = rule_to d r whole
      by_body (Commit tx p fc ms) f = rule_to d r whole
      by_body (Abort tx p) f = rule_to d r whole

  -- the path of a link, and where it is
  pub link_path : (start d e : Doing) → Link here input start d e → (w : Where) × Path here input w d e
  link_path start d e (l_evict from a i c) =
      let x : Doing = evict here a i start in (
        InRule,
        at_own-path here input InRule i (Arrivals.evict_own here a i) x tt
            (λ z own f. evict_at-path here input InRule refl a from i z (held_key x.view.versions (name_of here i) a.writes) x c own f),
      )
  link_path start d e (l_rule r q) = (InRule, rule_link start e input refl q)
  link_path start d e (l_half i r) = (InTurn i, half_turn-path here input (InTurn i) i (pass_to here i r) refl)
  link_path start d e (l_close i r) = (InTurn i, close-path here input (InTurn i) i (pass_to here i r) refl)
  link_path start d e (l_wait kept rest w d' q) = (InWait, (waiter_turn-waited here input InWait kept rest w d q).path)
