-- Each answer of a run was given in an event in which its transaction was decided, and tells that decision.
use Rattle.std.proofs.Common.{List, None, Option, Some, [], ap, inl, inr, option_map, refl, slice_get, subst, suc, sym, true, zero, ℕ, ◌+◌, ◌∙◌, ◌∷◌, ◌≡◌, ◌⊎◌}
use Rattle.str_base.specs.declared.names.Cause.{Cause}
use Rattle.str_base.specs.declared.names.NodeId.{NodeId}
use Rattle.str_base.specs.declared.names.Ts.{Ts}
use Rattle.str_base.specs.Versions.{stamp}
use Rattle.str_scene.specs.declared.names.Event.{Event}
use Rattle.str_scene.specs.SceneLimits.{IsScene}
use Rattle.str_scene.specs.Scenes.{Here, Scene}
use Rattle.str_model.specs.declared.messages.Answer.{Answer}
use Rattle.str_model.specs.declared.messages.Outcome.TheVariants.{Aborted as Aborts, Committed as Commits}
use Rattle.str_model.specs.declared.names.Got.{Got}
use Rattle.str_model.specs.Runs.{World, happens, opening, run, run_from}
use Rattle.str_model.specs.Traces.{Happening, MomentAt, happening, trace, trace_from}
use Rattle.str_model.specs.Views.{Aborted, Committed, Doing, Phase, is_decided, starts}
use Rattle.str_model.proofs.Principle.Everywhere.{at_place}
use Rattle.str_model.proofs.Principle.LastMoment.{EndsAt}
use Rattle.str_model.proofs.Principle.LaterMoments.{first_of, got_below, took}
use Rattle.str_model.proofs.Principle.NextMoments.{linked}
use Rattle.str_model.proofs.Principle.TraceEvents.{Turns, ends_slice, event_turns, nobody, somebody}
use Rattle.str_model.proofs.Changes.AnswerChanges.{outcome_of}
use Rattle.str_base.proofs.Members.{in_append, in_at}
use Rattle.str_base.specs.Members.{In}
use Rattle.si_laws.proofs.Reasons.AnswersReleased.{Tells, ToldAt, link_told}
use Rattle.si_laws.proofs.Reasons.CausesNamed.{outcome_cause}
use Rattle.si_laws.proofs.Reasons.CommitsAfter.{place_nth}
use Rattle.si_laws.proofs.Reasons.RefuseReasons.{reasons_hold}
use Rattle.si_laws.specs.Laws.Answers.{AbortsAnsweredHold, CommitsAnsweredHold, CommitsAt, IsOf}
use Rattle.si_laws.specs.TrueCause.{AbortsAt}

-- an answer was released in an event
record Released (scene : Scene) (w : World) (es : List Event) (a : Answer) : Type 0 where
  event : ℕ
  entry : Happening
  there : slice_get (trace_from scene w es) event ≡ Some entry
  node : NodeId
  at_node : entry.node ≡ Some node
  last : Doing
  ends : EndsAt entry.moments last
  released : In a last.released

released_from : (scene : Scene) (w : World) (es : List Event) (a : Answer) → In a (run_from scene w es).answers → Released scene w es a ⊎ In a w.answers
released_from scene w [] a m = inr m
released_from scene w (e ∷ es) a m = later (released_from scene (happens scene w e) es a m)
  where
    by_turn : Turns scene w e (happening scene w e) (happens scene w e) → In a (happens scene w e).answers → Released scene w (e ∷ es) a ⊎ In a w.answers
    by_turn (nobody x y z) k = inr (subst (In a) z k)
    by_turn (somebody t) k =
        elim (in_append w.answers t.last.released a (subst (In a) t.answers k)) [
          | inl j ↦ inr j
          | inr j ↦ inl (record { event = 0; entry = happening scene w e; there = refl; node = record { 0 = t.place + 1 }; at_node = t.node; last = t.last; ends = t.ends; released = j })
        ]

    later : Released scene (happens scene w e) es a ⊎ In a (happens scene w e).answers → Released scene w (e ∷ es) a ⊎ In a w.answers
    later (inl r) = inl (record { event = suc r.event; entry = r.entry; there = r.there; node = r.node; at_node = r.at_node; last = r.last; ends = r.ends; released = r.released })
    later (inr k) = by_turn (event_turns scene w e) k

-- the decision that an outcome tells
outcome_commit : (p : Phase) (got gets : List Got) (fc : Option Ts) → is_decided p ≡ true → outcome_of p got ≡ Commits fc gets → (lc : Option ℕ) × (p ≡ Committed lc (option_map (λ t. t.0) fc)) × (got ≡ gets)
outcome_commit (Committed lc None) got gets fc d e = let none : None ≡ fc = cc e in let same : got ≡ gets = cc e in (lc, ap (λ o. Committed lc (option_map (λ t. t.0) o)) none, same)
outcome_commit (Committed lc (Some t)) got gets fc d e = let some : Some (stamp t) ≡ fc = cc e in let same : got ≡ gets = cc e in (lc, ap (λ o. Committed lc (option_map (λ t. t.0) o)) some, same)
outcome_commit (Aborted lc c) got gets fc d e = absurd (cc e)
outcome_commit _ got gets fc d e = absurd (cc d)

module _ (scene : Scene) (ok : IsScene scene) (es : List Event) (a : Answer) where
  -- between two moments of the event its transaction is decided, and told
  record Decided (j : ℕ) : Type 0 where
    moment : ℕ
    doing : Doing
    next : Doing
    here : Here
    input : Rattle.str_model.specs.declared.messages.Input.Input
    before : MomentAt (trace scene es) j moment here.node doing
    after : MomentAt (trace scene es) j (moment + 1) here.node next
    told : ToldAt here input doing next a

  decided_by : (j : ℕ) (h : Happening) (n : NodeId) (q : slice_get (trace scene es) j ≡ Some h) (at : h.node ≡ Some n) (m : ℕ) (d : Doing) → slice_get h.moments m ≡ Some d → In a d.released → Decided j
  unfolding Tells
  decided_by j h n q at zero d is k =
      let t = took scene es j h n q at in absurd (subst (λ (z : Doing). In a z.released) (first_of scene es j h n d t is) k)
  decided_by j h n q at (suc m) d is k =
      let t = took scene es j h n q at in
      let e = got_below h.moments m d is in
      let here = at_place scene t.takes.place in
      let l = linked here t.takes.input t.takes.view m e.0 d (ap (λ xs. slice_get xs m) (sym t.takes.moments) ∙ e.1) (ap (λ xs. slice_get xs (suc m)) (sym t.takes.moments) ∙ is) in
      elim (link_told here t.takes.input (starts t.takes.view) e.0 d l a k) [
        | inl i ↦ decided_by j h n q at m e.0 e.1 i
        | inr u ↦ record {
          moment = m;
          doing = e.0;
          next = d;
          here = here;
          input = t.takes.input;
          before = (h, q, t.takes.node, e.1);
          after = (h, q, t.takes.node, ap (λ i. slice_get h.moments i) one ∙ is);
          told = u;
        }
      ]
    where
      one : m + 1 ≡ suc m
      one = omega Rattle.std.proofs.Common.arith

  decision : (i : ℕ) → slice_get (run scene es).answers i ≡ Some a → (j : ℕ) × Decided j
  decision i is = elim (released_from scene (opening scene) es a (in_at (run scene es).answers i a is)) [
    | inl r ↦ (r.event, decided_by r.event r.entry r.node r.there r.at_node _ r.last (ends_slice r.entry.moments r.last r.ends) r.released)
    | inr k ↦ absurd k
  ]

  is_of : (j : ℕ) (c : Decided j) → IsOf a c.told.was
  is_of j c = (ap (λ (z : Answer). z.place) (sym c.told.is) ∙ c.told.still.place, ap (λ (z : Answer). z.rs) (sym c.told.is) ∙ ap stamp c.told.still.rs)

  named : (j : ℕ) (c : Decided j) → c.here.node ≡ a.tx.node
  named j c = ap (λ (z : Answer). z.tx.node) c.told.is

  numbered : (j : ℕ) (c : Decided j) → a.tx.seq ≡ c.told.place + 1
  numbered j c = ap (λ (z : Answer). z.tx.seq) (sym c.told.is)

  abort_at : (cause : Cause) → a.outcome ≡ Aborts cause → (j : ℕ) (c : Decided j) → AbortsAt (trace scene es) j a.tx c.doing c.told.was cause
  abort_at cause o j c =
      let p = outcome_cause c.told.now.phase c.told.gets cause c.told.decided (ap (λ (z : Answer). z.outcome) c.told.is ∙ o) in
      record {
        moment = c.moment;
        next = c.next;
        gone = c.told.now;
        lc = p.0;
        before = subst (λ n. MomentAt (trace scene es) j c.moment n c.doing) (named j c) c.before;
        after = subst (λ n. MomentAt (trace scene es) j (c.moment + 1) n c.next) (named j c) c.after;
        stood = place_nth c.doing.view.own a.tx.seq c.told.place c.told.was (numbered j c) c.told.owned;
        was_open = c.told.was_open;
        stands = place_nth c.next.view.own a.tx.seq c.told.place c.told.now (numbered j c) c.told.owns;
        aborted = p.1;
      }

  commit_at : (fc : Option Ts) (gets : List Got) → a.outcome ≡ Commits fc gets → (j : ℕ) (c : Decided j) → CommitsAt (trace scene es) j a.tx c.doing c.told.was (option_map (λ t. t.0) fc) × (c.told.was.gets ≡ gets)
  commit_at fc gets o j c =
      let p = outcome_commit c.told.now.phase c.told.gets gets fc c.told.decided (ap (λ (z : Answer). z.outcome) c.told.is ∙ o) in (
        record {
          moment = c.moment;
          next = c.next;
          gone = c.told.now;
          lc = p.0;
          before = subst (λ n. MomentAt (trace scene es) j c.moment n c.doing) (named j c) c.before;
          after = subst (λ n. MomentAt (trace scene es) j (c.moment + 1) n c.next) (named j c) c.after;
          stood = place_nth c.doing.view.own a.tx.seq c.told.place c.told.was (numbered j c) c.told.owned;
          was_open = c.told.was_open;
          stands = place_nth c.next.view.own a.tx.seq c.told.place c.told.now (numbered j c) c.told.owns;
          committed = p.1;
        },
        c.told.same_gets (p.0, option_map (λ t. t.0) fc, p.1) ∙ p.2,
      )

-- the law of aborts
pub aborts_answered : AbortsAnsweredHold
aborts_answered scene ok es i a cause is o =
    let c = decision scene ok es a i is in
    let k = abort_at scene ok es a cause o c.0 c.1 in
    (c.0, c.1.doing, c.1.told.was, k, (reasons_hold scene ok es).1 c.0 a.tx c.1.doing c.1.told.was cause k, is_of scene ok es a c.0 c.1)

-- the law of commits
pub commits_answered : CommitsAnsweredHold
commits_answered scene ok es i a fc gets is o =
    let c = decision scene ok es a i is in
    let k = commit_at scene ok es a fc gets o c.0 c.1 in (c.0, c.1.doing, c.1.told.was, k.0, k.1, is_of scene ok es a c.0 c.1)
