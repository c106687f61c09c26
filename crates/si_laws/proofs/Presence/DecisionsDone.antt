-- A decision that is given to a participant is done there: after the step the pair is in the done list.
use Rattle.si_laws.proofs.Dependencies.LeftAlone.{done-grows}
use Rattle.str_model.proofs.Changes.PairWords.{Has, any_has, same_pair}
use Rattle.str_model.proofs.Principle.SingleChanges.{Act, InTurn, InWait, Where, along}
use Rattle.str_model.proofs.Principle.StepPaths.{StepTo, step-keeps, turn-path, wait_turns-path}
use Rattle.si_laws.specs.Laws.Presence.{Decides}
use Rattle.std.proofs.Common.{Bool, List, None, Option, Some, [], ap, false, if◌then◌else◌, inl, length, not, option_map, refl, subst, suc, sym, true, zero, ℕ, ◌&&◌, ◌∙◌, ◌∷◌, ◌≡◌}
use Rattle.str_base.specs.Versions.{same_node}
use Rattle.str_base.specs.declared.names.PartId.{PartId}
use Rattle.str_base.specs.declared.names.Ts.{Ts}
use Rattle.str_base.specs.declared.names.TxId.{TxId}
use Rattle.str_model.specs.Acts.{abort_came, commit_came}
use Rattle.str_model.specs.Pass
use Rattle.str_model.specs.Pass.{pass_to, turn}
use Rattle.str_model.specs.Proposals.{is_done, is_pair}
use Rattle.str_model.specs.Steps
use Rattle.str_model.specs.Steps.{after_rule, body_rule, decides, drop_held}
use Rattle.str_model.specs.Strange.{is_valid}
use Rattle.str_model.specs.Views.{Doing, View, starts}
use Rattle.str_model.specs.Waiters
use Rattle.str_model.specs.Waiters.{wait_turns}
use Rattle.str_model.specs.declared.messages.Body.TheVariants.{Abort, Ack, Commit, Prepare, ReadReply, ReadReq, Refuse as Refusal, Replicate}
use Rattle.str_model.specs.declared.messages.Body.{Body}
use Rattle.str_model.specs.declared.messages.Input.TheVariants.{Deliver}
use Rattle.str_model.specs.declared.messages.Input.{Input}
use Rattle.str_model.specs.declared.messages.Message.{Message}
use Rattle.str_model.specs.declared.names.KeyMark.{KeyMark}
use Rattle.str_scene.specs.Scenes.{Here, hosts}
use Rattle.str_base.proofs.Members.{in_right}
use Rattle.str_base.specs.Members.{In}

-- the view after a step, or as it was where the step is idle
abbrev pub after_step : Option Doing → View → View
after_step None v = v
after_step (Some d) v = d.view

module _ (here : Here) (input : Input) (k : TxId × PartId) where
  abbrev IsIn : Doing → Type 0
  IsIn d = In k d.view.done

  keeps_in : (w : Where) (d e : Doing) → Act here input w d e → IsIn d → IsIn e
  keeps_in w d e a h = done-grows here input w d e a k h

  pass_in : (n : ℕ) (d : Doing) → IsIn d → IsIn (Pass.pass_to here n d)
  pass_in zero d h = h
  pass_in (suc i) d h =
      along here input (InTurn i) IsIn (keeps_in (InTurn i)) (Pass.pass_to here i d) (Pass.turn here i (Pass.pass_to here i d)) (turn-path here input (InTurn i) i (Pass.pass_to here i d) refl) (pass_in i d h)

  -- what follows a rule keeps the done list
  pub after_in : (d : Doing) → IsIn d → IsIn (Steps.after_rule here d)
  unfolding Steps.after_rule
  after_in d h =
      let e : Doing = Pass.pass_to here (length d.view.own) d in
      along here input InWait IsIn (keeps_in InWait) e (Waiters.wait_turns here [] e.view.waiters e) (wait_turns-path here input InWait [] e.view.waiters e refl) (pass_in (length d.view.own) d h)

  -- so does a whole step
  pub step_in : (v : View) (o : Option Doing) → StepTo here input (starts v) o → In k v.done → In k (after_step o v).done
  step_in v None p h = h
  step_in v (Some d) p h = step-keeps here input IsIn keeps_in (starts v) d p h

pub not_decides : (h f dn : Bool) → h ≡ true → f ≡ false → (h && (not f && not dn)) ≡ false → dn ≡ true
not_decides true false true a b e = refl
not_decides true false false a b e = absurd (cc e)
not_decides true true dn a b e = absurd (cc b)
not_decides false f dn a b e = absurd (cc a)

module _ (here : Here) (v : View) (m : Message) (tx : TxId) (p : PartId) (valid : is_valid here m ≡ true) (hosted : hosts here.scene here.node p ≡ true) (foreign_ : same_node tx.node here.node ≡ false) where
  Goal : Type 0
  Goal = Has (is_pair tx p) (after_step (Steps.step here (Deliver m) v) v).done

  is_pair_self : is_pair tx p (tx, p) ≡ true
  is_pair_self = same_pair tx tx p p (record { node = refl; seq = refl; part = refl })

  -- the step of a rule that is not idle
  ruled : (r : Option Doing) → Steps.rule here (Deliver m) (starts v) ≡ r → Steps.step here (Deliver m) v ≡ option_map (Steps.after_rule here) r
  unfolding Steps.step
  ruled r e = ap (option_map (Steps.after_rule here)) e

  of_rule : (d : Doing) → Steps.rule here (Deliver m) (starts v) ≡ Some d → In (tx, p) d.view.done → Goal
  unfolding Goal
  of_rule d e h =
      subst (λ (o : Option Doing). Has (is_pair tx p) (after_step o v).done) (sym (ruled (Some d) e)) ((tx, p), after_in here (Deliver m) (tx, p) d h, is_pair_self)

  of_idle : Steps.rule here (Deliver m) (starts v) ≡ None → is_done v tx p ≡ true → Goal
  unfolding Goal
  of_idle e h = subst (λ (o : Option Doing). Has (is_pair tx p) (after_step o v).done) (sym (ruled None e)) (any_has (is_pair tx p) v.done h)

  rule_is : Steps.rule here (Deliver m) (starts v) ≡ Steps.body_rule here m.sender m.body (starts v)
  unfolding Steps.rule
  rule_is = rw valid refl

  by_commit : (fc : Ts) (ms : List KeyMark) → m.body ≡ Commit tx p fc ms → Goal
  unfolding Goal commit_came
  by_commit fc ms b = by_test (decides here tx p v) refl
    where
      rule : (t : Bool) → decides here tx p v ≡ t → Steps.rule here (Deliver m) (starts v) ≡ (if t then Some (commit_came tx p fc.0 ms (starts v)) else None)
      rule t q = rule_is ∙ (ap (λ (z : Body). Steps.body_rule here m.sender z (starts v)) b ∙ ap (λ (z : Bool). if z then Some (commit_came tx p fc.0 ms (starts v)) else None) q)

      by_test : (t : Bool) → decides here tx p v ≡ t → Has (is_pair tx p) (after_step (Steps.step here (Deliver m) v) v).done
      by_test true q = of_rule (commit_came tx p fc.0 ms (starts v)) (rule true q) (in_right v.done ((tx, p) ∷ []) (tx, p) (inl refl))
      by_test false q = of_idle (rule false q) (not_decides (hosts here.scene here.node p) (same_node tx.node here.node) (is_done v tx p) hosted foreign_ q)

  by_abort : m.body ≡ Abort tx p → Goal
  unfolding Goal abort_came
  by_abort b = by_test (decides here tx p v) refl
    where
      came_ : Doing
      came_ = abort_came tx p (drop_held tx p v.waiters) (starts v)

      rule : (t : Bool) → decides here tx p v ≡ t → Steps.rule here (Deliver m) (starts v) ≡ (if t then Some (abort_came tx p (drop_held tx p v.waiters) (starts v)) else None)
      rule t q = rule_is ∙ (ap (λ (z : Body). Steps.body_rule here m.sender z (starts v)) b ∙ ap (λ (z : Bool). if z then Some (abort_came tx p (drop_held tx p v.waiters) (starts v)) else None) q)

      by_test : (t : Bool) → decides here tx p v ≡ t → Has (is_pair tx p) (after_step (Steps.step here (Deliver m) v) v).done
      by_test true q = of_rule (abort_came tx p (drop_held tx p v.waiters) (starts v)) (rule true q) (in_right v.done ((tx, p) ∷ []) (tx, p) (inl refl))
      by_test false q = of_idle (rule false q) (not_decides (hosts here.scene here.node p) (same_node tx.node here.node) (is_done v tx p) hosted foreign_ q)

  by_body : (b : Body) → m.body ≡ b → Decides tx p b → Goal
  by_body (Commit t q fc ms) e x =
      by_commit fc ms (e ∙ (λ j. Commit (x.0 j) (x.1 j) fc ms))
  by_body (Abort t q) e x = by_abort (e ∙ (λ j. Abort (x.0 j) (x.1 j)))
  by_body (ReadReq t k rs) e x = absurd x
  by_body (ReadReply t k u by fc) e x = absurd x
  by_body (Prepare t q rs lc ws) e x = absurd x
  by_body (Refusal t q by k) e x = absurd x
  by_body (Replicate t q rs lc ws) e x = absurd x
  by_body (Ack t q ts) e x = absurd x

  pub decided_step : Decides tx p m.body → Has (is_pair tx p) (after_step (Steps.step here (Deliver m) v) v).done
  unfolding Goal
  decided_step x = by_body m.body refl x
