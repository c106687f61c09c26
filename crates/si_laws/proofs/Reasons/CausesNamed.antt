-- The answer of an abort names the cause with which its transaction stands aborted, over every run.
use Rattle.std.proofs.Common.{List, Option, Some, ap, inl, inr, slice_get, slice_set, subst, sym, true, ℕ, ◌+◌, ◌∙◌, ◌≡◌}
use Rattle.str_base.specs.declared.names.Cause.{Cause}
use Rattle.str_model.specs.declared.messages.Answer.{Answer}
use Rattle.str_model.specs.declared.messages.Input.{Input}
use Rattle.str_model.specs.declared.messages.Outcome.TheVariants.{Aborted as Aborts}
use Rattle.str_model.specs.declared.names.Got.{Got}
use Rattle.str_model.specs.Acts.{decided_as}
use Rattle.str_model.specs.Owned.{Owns}
use Rattle.str_model.specs.Runs.{run}
use Rattle.str_model.specs.Views.{Aborted, Committed, Doing, Own, Phase, View, is_decided}
use Rattle.str_scene.specs.Scenes.{Scene}
use Rattle.str_model.proofs.Principle.SingleChanges.{Act, Where}
use Rattle.str_model.proofs.Principle.Everywhere.{Stage, at_place, during, everywhere}
use Rattle.str_model.proofs.Changes.OwnChanges.{own_step}
use Rattle.str_model.proofs.Changes.AnswerChanges.{TellStep, in_release, outcome_of, t_begins, t_decides, t_goes, t_rests, tell_step, told}
use Rattle.si_laws.proofs.Reasons.CommitsAfter.{place_nth}
use Rattle.str_model.proofs.Changes.PairWords.{decided-step}
use Rattle.si_laws.specs.Laws.Reasons.{CausesNamed}
use Rattle.str_base.proofs.Lists.{get_set, get_set_other, got_set}
use Rattle.str_base.proofs.Members.{in_append, in_at, in_left, in_right}
use Rattle.str_base.specs.Members.{In}

-- the transaction of the answer stands aborted with this cause
record NamedIn (s : Stage) (a : Answer) (cause : Cause) : Type 0 where
  node : ℕ
  at_node : a.tx.node.0 ≡ node + 1
  place : ℕ
  at_place_ : a.tx.seq ≡ place + 1
  view : View
  there : slice_get s.nodes node ≡ Some view
  own : Own
  owns : Owns view place own
  lc : Option ℕ
  phase : own.phase ≡ Aborted lc cause

-- Each answer of an abort names the cause of its transaction. Why: so a true cause of an abort is the cause that the client is told.
AllNamed : Stage → Type 0
AllNamed s = (a : Answer) (cause : Cause) → In a s.answers → a.outcome ≡ Aborts cause → NamedIn s a cause

pub outcome_cause : (p : Phase) (gets : List Got) (cause : Cause) → is_decided p ≡ true → outcome_of p gets ≡ Aborts cause → (lc : Option ℕ) × (p ≡ Aborted lc cause)
outcome_cause (Committed lc fc) gets cause d e = absurd (cc e)
outcome_cause (Aborted lc c) gets cause d e = let same : c ≡ cause = cc e in (lc, ap (Aborted lc) same)
outcome_cause _ gets cause d e = absurd (cc d)

module _ (scene : Scene) (s : Stage) (i : ℕ) (v : View) (input : Input) (w : Where) (d e : Doing) (is : slice_get s.nodes i ≡ Some v) (act : Act (at_place scene i) input w d e) where
  here_e : slice_get (slice_set s.nodes i e.view) i ≡ Some e.view
  here_e = get_set s.nodes i v e.view is

  lift_n : (a : Answer) (cause : Cause) → NamedIn (during s i d) a cause → NamedIn (during s i e) a cause
  unfolding here_e
  lift_n a cause c =
      elim (got_set s.nodes i c.node d.view c.view c.there) [
        | inl r ↦ record {
          node = i;
          at_node = c.at_node ∙ ap (λ n. n + 1) r.0;
          place = c.place;
          at_place_ = c.at_place_;
          view = e.view;
          there = here_e;
          own = c.own;
          owns = decided-step c.place c.own d.view e.view (ap is_decided c.phase) (own_step (at_place scene i) input w d e act) (subst (λ (z : View). Owns z c.place c.own) r.1 c.owns);
          lc = c.lc;
          phase = c.phase;
        }
        | inr r ↦ record {
          node = c.node;
          at_node = c.at_node;
          place = c.place;
          at_place_ = c.at_place_;
          view = c.view;
          there = get_set_other s.nodes i c.node e.view r.0 ∙ r.1;
          own = c.own;
          owns = c.owns;
          lc = c.lc;
          phase = c.phase;
        }
      ]

  released_named : (a : Answer) (cause : Cause) → TellStep (at_place scene i) d e → AllNamed (during s i d) → In a e.released → a.outcome ≡ Aborts cause → NamedIn (during s i e) a cause
  unfolding AllNamed here_e
  released_named a cause (t_rests o r) h m q = lift_n a cause (h a cause (in_right s.answers d.released a (subst (In a) r m)) q)
  released_named a cause (t_begins place rs b o r) h m q = lift_n a cause (h a cause (in_right s.answers d.released a (subst (In a) r m)) q)
  released_named a cause (t_goes n x y own f g p rs o r) h m q = lift_n a cause (h a cause (in_right s.answers d.released a (subst (In a) r m)) q)
  released_named a cause (t_decides n x p own f g o r) h m q =
      elim (in_release (told (at_place scene i) n (decided_as p x) x.gets) d.released a (subst (In a) r m)) [
        | inl t ↦ (let c = outcome_cause p x.gets cause g (ap (λ (z : Answer). z.outcome) t ∙ q) in
            record {
              node = i;
              at_node = ap (λ (z : Answer). z.tx.node.0) (sym t);
              place = n;
              at_place_ = ap (λ (z : Answer). z.tx.seq) (sym t);
              view = e.view;
              there = here_e;
              own = decided_as p x;
              owns = rw o (get_set d.view.own n x (decided_as p x) own);
              lc = c.0;
              phase = c.1;
            })
        | inr j ↦ lift_n a cause (h a cause (in_right s.answers d.released a j) q)
      ]

  named-act : AllNamed (during s i d) → AllNamed (during s i e)
  unfolding AllNamed
  named-act h a cause m q =
      elim (in_append s.answers e.released a m) [
        | inl j ↦ lift_n a cause (h a cause (in_left s.answers d.released a j) q)
        | inr j ↦ released_named a cause (tell_step (at_place scene i) input w d e act) h j q
      ]

pub causes_named : CausesNamed
unfolding AllNamed
causes_named scene ok events i a cause is q =
    let c = everywhere scene AllNamed (λ s i v input w d e is seen hs act h. named-act scene s i v input w d e is act h) (λ a cause h p. absurd h) events a cause (in_at (run scene events).answers i a is) q in
    (c.own, c.lc, (c.view, place_nth (run scene events).nodes a.tx.node.0 c.node c.view c.at_node c.there, place_nth c.view.own a.tx.seq c.place c.own c.at_place_ c.owns), c.phase)
