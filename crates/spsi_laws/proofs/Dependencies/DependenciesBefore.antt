-- Each dependency of a transaction is an earlier one of its node, over every run.
use Rattle.std.proofs.Common.{ap, arith, false, inl, inr, slice_get, subst, sym, ℕ, ◌+◌, ◌<◌, ◌∙◌, ◌≡◌}
use Rattle.dependency_set.specs.declared.names.Dep.{Dep}
use Rattle.str_base.proofs.Lists.{got_push, got_set}
use Rattle.str_base.proofs.Members.{in_at}
use Rattle.str_base.specs.Members.{In}
use Rattle.str_scene.specs.Scenes.{Here}
use Rattle.si_laws.specs.Laws.Times.{DependenciesEarlier}
use Rattle.str_model.specs.declared.messages.Input.{Input}
use Rattle.str_model.specs.Acts.{fresh}
use Rattle.str_model.specs.NodeFacts.{Depends}
use Rattle.str_model.specs.Owned.{Owns}
use Rattle.str_model.specs.Views.{Doing, Own, View, is_decided, starts}
use Rattle.str_model.proofs.Changes.OwnChanges.{Becomes, OwnStep, aborts, certifies, closes, commits, goes_on, own_step, rests, starts_one, turns_one}
use Rattle.str_model.proofs.OwnFacts.EarlierDependencies.{depends-act}
use Rattle.str_model.proofs.OwnFacts.NodeTimes.{timed_opening}
use Rattle.str_model.proofs.Principle.Everywhere.{at_each_event}
use Rattle.str_model.proofs.Principle.SingleChanges.{Act, Where}
use Rattle.str_model.proofs.Principle.StepPaths.{step-keeps}

-- what an undecided one depends on, and the numbers of all dependencies. Why: a decision keeps the dependencies as they are.
record Earlier (here : Here) (v : View) : Type 0 where
  base : Depends here v
  before : (i : ℕ) (x : Own) (dep : Dep) → Owns v i x → In dep x.snap.deps → dep.seq < i + 1

earlier-act : (here : Here) (input : Input) (w : Where) (d e : Doing) → Act here input w d e → Earlier here d.view → Earlier here e.view
earlier-act here input w d e act h = record { base = next; before = by_step (own_step here input w d e act) }
  where
    next : Depends here e.view
    next = depends-act here input w d e act h.base

    undecided : (i : ℕ) (x : Own) (dep : Dep) → Owns e.view i x → is_decided x.phase ≡ false → In dep x.snap.deps → dep.seq < i + 1
    undecided i x dep own op j = let w = next.deps i x dep own op j in omega (arith, w.seq, w.before)

    becomes : (i : ℕ) (x y : Own) (dep : Dep) → Owns d.view i x → Owns e.view i y → Becomes d.view d.view.floor e.view.floor x y → In dep y.snap.deps → dep.seq < i + 1
    becomes i x y dep was own (goes_on g f) j = undecided i y dep own g.is_open j
    becomes i x y dep was own (certifies lc o none ph pl ex lt f) j = undecided i y dep own (ap is_decided ph) j
    becomes i x y dep was own (commits lc fc o some le r f) j = h.before i x dep was (subst (λ (z : Own). In dep z.snap.deps) r j)
    becomes i x y dep was own (closes o none r f) j = h.before i x dep was (subst (λ (z : Own). In dep z.snap.deps) r j)
    becomes i x y dep was own (aborts cause o r f) j = h.before i x dep was (subst (λ (z : Own). In dep z.snap.deps) r j)

    by_step : OwnStep d.view e.view → (i : ℕ) (x : Own) (dep : Dep) → Owns e.view i x → In dep x.snap.deps → dep.seq < i + 1
    by_step (rests q f) i x dep own j = h.before i x dep (rw (← q) own) j
    by_step (starts_one place rs le q f) i x dep own j = elim (got_push d.view.own i (fresh place rs) x (rw (← q) own)) [
      | inl a ↦ absurd (subst (λ (z : Own). In dep z.snap.deps) a.1 j)
      | inr a ↦ h.before i x dep a j
    ]
    by_step (turns_one n x' y' is q b) i x dep own j = elim (got_set d.view.own n i y' x (rw (← q) own)) [
      | inl a ↦ becomes i x' x dep (ap (λ k. slice_get d.view.own k) a.0 ∙ is) own (subst (Becomes d.view d.view.floor e.view.floor x') (sym a.1) b) j
      | inr a ↦ h.before i x dep a.1 j
    ]

pub dependencies_earlier : DependenciesEarlier
dependencies_earlier scene ok events n v is i k x dep own at =
    let h = at_each_event scene ok Earlier
    (λ here. record { base = record { times = timed_opening scene; locals = λ u h k. absurd h; deps = λ i x dep own op m. absurd (cc own) }; before = λ i x dep own m. absurd (cc own) })
    (λ here good input u e p h. step-keeps here input (λ d. Earlier here d.view) (λ w a b act s. earlier-act here input w a b act s) (starts u) e p h) events n v is in
    h.before i x dep own (in_at x.snap.deps k dep at)
