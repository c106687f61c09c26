-- The state of a cluster that prunes is the pruned run of its journal.
use Rattle.std.proofs.Common.{List, None, Option, Some, [], ap, arith, false, if◌then◌else◌, length, refl, slice_get, subst, sym, true, ℕ, ◌++◌, ◌∙◌, ◌∷◌, ◌≡◌, ◌≤◌, Bool}
use Rattle.std.specs.List.{last_or}
use Rattle.std.specs.Prelude.{Err, Ok, OnErr, OnOk, Result}
use Rattle.cluster_run.proofs.Counting.{begun_in, total_is}
use Rattle.cluster_run.proofs.RunOf.{few_answers, logged_events}
use Rattle.cluster_run.specs.Clusters.{AreFew, MayHappen, events_of}
use Rattle.cluster_run.specs.declared.pruned_parts.PrunedParts.{PrunedParts}
use Rattle.cluster_run.specs.PrunedStates.{IsPrunedCluster, IsPrunedRun, PrunedComes, PrunedState, pruned_of}
use Rattle.prune_laws.proofs.DrainsAlike.{sum_alike}
use Rattle.prune_laws.proofs.PairedLists.{alike_length}
use Rattle.prune_laws.proofs.PruneHolds.{alongside, pruned_one_more}
use Rattle.prune_laws.specs.PruneLaw.{IsDecidedIn}
use Rattle.si_laws.proofs.Times.BegunFew.{few_begin}
use Rattle.spsi_laws.proofs.Work.LeftWorld.{even_run}
use Rattle.str_model.specs.declared.names.Done.{Done}
use Rattle.str_model.specs.PrunedRuns.{PrunedWorld, pruned_after, pruned_at, pruned_happens, pruned_run, taken_by}
use Rattle.str_model.specs.Runs.{World, happens, run}
use Rattle.str_model.specs.Views.{View}
use Rattle.str_scene.specs.declared.names.Event.{Event}
use Rattle.str_scene.specs.SceneLimits.{IsScene}
use Rattle.str_scene.specs.Scenes.{Scene}

-- pruning changes nothing but views
pub record SameButViews (w v : World) : Type 0 where
  pub journal : v.journal ≡ w.journal
  pub answers : v.answers ≡ w.answers
  pub given : v.given ≡ w.given
  pub sent : v.sent ≡ w.sent

same_after : (p : PrunedWorld) (w : World) (e : Event) (o : Option ℕ) (d : Option Done) → SameButViews w (pruned_after p w e o d).world
same_after p w e None d = record { journal = refl; answers = refl; given = refl; sent = refl }
same_after p w e (Some i) None = record { journal = refl; answers = refl; given = refl; sent = refl }
same_after p w e (Some i) (Some d) = by_idle d.idle (slice_get w.nodes i)
  where
    by_idle : (b : Bool) (o : Option View) → SameButViews w (if b then record p { world = w } else pruned_at p w e i o).world
    by_idle true o = record { journal = refl; answers = refl; given = refl; sent = refl }
    by_idle false None = record { journal = refl; answers = refl; given = refl; sent = refl }
    by_idle false (Some v) = record { journal = refl; answers = refl; given = refl; sent = refl }

pub same_happens : (scene : Scene) (p : PrunedWorld) (e : Event) → SameButViews (happens scene p.world e) (pruned_happens scene p e).world
unfolding pruned_happens
same_happens scene p e = let w = happens scene p.world e in same_after p w e (taken_by scene p.world e) (last_or None w.journal)

-- after an event it is that run again
pub pruned_kept : (scene : Scene) (p : PrunedWorld) (e : Event) → IsPrunedRun scene p → IsPrunedRun scene (pruned_happens scene p e)
pruned_kept scene p e r =
    let events : events_of (pruned_happens scene p e).world.journal ≡ events_of p.world.journal ++ e ∷ [] = ap events_of (same_happens scene p e).journal ∙ logged_events scene p.world e in
    ap (λ (q : PrunedWorld). pruned_happens scene q e) r ∙ (sym (pruned_one_more scene (events_of p.world.journal) e) ∙ ap (pruned_run scene) (sym events))

-- there are as many flags as messages
pruned_even : (scene : Scene) (es : List Event) → length (pruned_run scene es).world.given ≡ length (pruned_run scene es).world.sent
pruned_even scene es = let a = alongside scene es in ap length a.given ∙ (even_run scene es ∙ alike_length (IsDecidedIn (run scene es)) (run scene es).sent (pruned_run scene es).world.sent a.sent)

-- a pruned run has released 1024 answers at most
pruned_answers : (scene : Scene) (p : PrunedWorld) → IsScene scene → IsPrunedRun scene p → length p.world.answers ≤ 1024
pruned_answers scene p ok r =
    let es = events_of p.world.journal in
    let f = few_answers scene ok es in
    let e : length p.world.answers ≡ length (run scene es).answers = ap (λ (q : PrunedWorld). length q.world.answers) r ∙ ap length (alongside scene es).answers in
    omega (arith, f, e)

-- few transactions have begun and few are answered
pub pruned_few : (scene : Scene) (p : PrunedWorld) → IsScene scene → IsPrunedRun scene p → AreFew p.world
pruned_few scene p ok r =
    let es = events_of p.world.journal in
    record {
      begun = (let f = few_begin scene ok es in
          let t = total_is (run scene es).nodes in
          let s : begun_in (pruned_run scene es).world.nodes ≡ begun_in (run scene es).nodes = sum_alike scene es (λ (v : View). length v.own) (λ v. refl) in
          let e : begun_in p.world.nodes ≡ begun_in (pruned_run scene es).world.nodes = ap (λ (q : PrunedWorld). begun_in q.world.nodes) r in omega (arith, f, t, s, e));
      answers = pruned_answers scene p ok r;
    }

-- an event may happen to a cluster that prunes
pub pruned_may : (p : PrunedParts) (e : Event) → IsPrunedCluster p → MayHappen p.cluster e
pruned_may p e is =
    record {
      placed = is.placed;
      even = (let q = is.run_ in ap (λ (z : PrunedWorld). length z.world.given) q ∙ (pruned_even p.cluster.scene (events_of p.cluster.journal.items) ∙ sym (ap (λ (z : PrunedWorld). length z.world.sent) q)));
      few = (let s = ap length (same_happens p.cluster.scene (pruned_of p) e).answers in
          let f = pruned_answers p.cluster.scene (pruned_happens p.cluster.scene (pruned_of p) e) is.limits (pruned_kept p.cluster.scene (pruned_of p) e is.run_) in omega (arith, s, f));
    }

-- ---- what a cluster that prunes keeps of its parts

-- parts whose state is a pruned run's are a cluster's
pruned_comes : (q : PrunedWorld) (old new : PrunedParts) → IsPrunedCluster old → IsPrunedRun old.cluster.scene q → PrunedComes q old new → IsPrunedCluster new
pruned_comes q old new is r c =
    record {
      limits = subst IsScene (sym c.scene_) is.limits;
      placed = c.placed;
      run_ = subst (λ (z : PrunedWorld). z ≡ pruned_run new.cluster.scene (events_of z.world.journal)) (sym c.state)
          (subst (λ (s : Scene). q ≡ pruned_run s (events_of q.world.journal)) (sym c.scene_) r);
    }

-- so they are after an event, whether it was done or not
pub pruned_keeps : {X E : Type 0} (r : Result X E) (old new : PrunedParts) (e : Event) → IsPrunedCluster old → OnOk r (PrunedComes (pruned_happens old.cluster.scene (pruned_of old) e) old new) → OnErr r (PrunedComes (pruned_of old) old new)
    → IsPrunedCluster new
pruned_keeps (Ok x) old new e is ok err = pruned_comes (pruned_happens old.cluster.scene (pruned_of old) e) old new is (pruned_kept old.cluster.scene (pruned_of old) e is.run_) ok
pruned_keeps (Err x) old new e is ok err = pruned_comes (pruned_of old) old new is is.run_ err

-- what the cluster shows then
abbrev pub pruned_shown : PrunedParts → PrunedState
pruned_shown p = record { scene = p.cluster.scene; state = pruned_of p }

pub pruned_scene : {X E : Type 0} (r : Result X E) (old new : PrunedParts) (q z : PrunedWorld) → OnOk r (PrunedComes q old new) → OnErr r (PrunedComes z old new) → new.cluster.scene ≡ old.cluster.scene
pruned_scene (Ok x) old new q z ok err = ok.scene_
pruned_scene (Err x) old new q z ok err = err.scene_

pub pruned_state : {X E : Type 0} (r : Result X E) (old new : PrunedParts) (q : PrunedWorld) → OnOk r (PrunedComes q old new) → OnOk r (pruned_of new ≡ q)
pruned_state (Ok x) old new q ok = ok.state
pruned_state (Err x) old new q ok = tt

pub pruned_back : {X E : Type 0} (r : Result X E) (old new : PrunedParts) → OnErr r (PrunedComes (pruned_of old) old new) → OnErr r (pruned_shown new ≡ pruned_shown old)
pruned_back (Ok x) old new err = tt
pruned_back (Err x) old new err = λ j. record { scene = err.scene_ j; state = err.state j }
