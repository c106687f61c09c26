-- The drain of a cluster that prunes takes the events of the run's drain, and ends as that does.
use Rattle.std.proofs.Common.{List, None, Some, [], ap, append-nil, append_assoc, arith, get_or, length, refl, slice_get, subst, sym, take, ℕ, ◌++◌, ◌+◌, ◌<◌, ◌∙◌, ◌∷◌, ◌≡◌}
use Rattle.cluster_run.proofs.Draining.{take_more}
use Rattle.cluster_run.specs.Clusters.{events_of}
use Rattle.cluster_run.specs.PrunedStates.{IsPrunedRun, PartOfDrain, pruned_drain_from, pruned_drained_from}
use Rattle.prune_laws.proofs.DrainsAlike.{counts_alike, drain_alike, left_same, moves_alike, next_alike}
use Rattle.prune_laws.proofs.PruneHolds.{alongside, pruned_append, pruned_one_more}
use Rattle.prune_laws.specs.PrunedClusters.{pruned_drain_events}
use Rattle.si_laws.specs.SnapshotIsolation.{IsAnswer}
use Rattle.spsi_laws.proofs.Rest.RestHolds.{rest_holds}
use Rattle.spsi_laws.proofs.Rest.RunEnds.{rest_closed}
use Rattle.spsi_laws.proofs.Work.DrainHolds.{drain_follows, drain_lowers, drain_rests}
use Rattle.spsi_laws.proofs.Work.WorkHolds.{run_more}
use Rattle.spsi_laws.specs.Laws.Drain.{drain_from}
use Rattle.spsi_laws.specs.Laws.Ends.{Ended}
use Rattle.str_model.specs.Drains.{AtRest, next_event}
use Rattle.str_model.specs.Lines.{Counts}
use Rattle.str_model.specs.PrunedRuns.{PrunedWorld, pruned_from, pruned_happens, pruned_run}
use Rattle.str_model.specs.Runs.{happens, run}
use Rattle.str_model.specs.Work.{left}
use Rattle.str_scene.specs.declared.names.Event.{Event}
use Rattle.str_scene.specs.SceneLimits.{IsScene}
use Rattle.str_scene.specs.Scenes.{Scene}

-- the drain's events are those of the run
same_drain : (scene : Scene) (es : List Event) → pruned_drain_from scene (pruned_run scene es) ≡ drain_from scene (run scene es)
same_drain scene es = ap (λ n. pruned_drain_events scene n (pruned_run scene es)) (left_same scene es) ∙ drain_alike scene (left scene (run scene es)) es

-- the events are those that the rule names one after the other, and none where it names none; each leaves less
pub record DrainsOn (scene : Scene) (p : PrunedWorld) : Type 0 where
  pub on : (e : Event) → Some e ≡ next_event scene p.world → pruned_drain_from scene p ≡ e ∷ pruned_drain_from scene (pruned_happens scene p e)
  pub stop : None ≡ next_event scene p.world → pruned_drain_from scene p ≡ []
  pub lowers : (e : Event) → Some e ≡ next_event scene p.world → left scene (pruned_happens scene p e).world < left scene p.world

drains_at : (scene : Scene) → IsScene scene → (es : List Event) → DrainsOn scene (pruned_run scene es)
drains_at scene ok es =
    record {
      on = λ e q. same_drain scene es ∙ ((drain_follows scene ok es).on e (sym (q ∙ next_alike scene es)) ∙ ap (λ xs. e ∷ xs) (sym (rest e)));
      stop = λ q. same_drain scene es ∙ (drain_follows scene ok es).stop (sym (q ∙ next_alike scene es));
      lowers = λ e q.
          let l = drain_lowers scene ok es e (sym (q ∙ next_alike scene es)) in
          let a = left_same scene es in
          let b : left scene (pruned_happens scene (pruned_run scene es) e).world ≡ left scene (happens scene (run scene es) e) =
          ap (λ (p : PrunedWorld). left scene p.world) (sym (pruned_one_more scene es e)) ∙ (left_same scene (es ++ e ∷ []) ∙ ap (left scene) (run_more scene es e)) in
          omega (arith, l, a, b);
    }
  where
    rest : (e : Event) → pruned_drain_from scene (pruned_happens scene (pruned_run scene es) e) ≡ drain_from scene (happens scene (run scene es) e)
    rest e = ap (pruned_drain_from scene) (sym (pruned_one_more scene es e)) ∙ (same_drain scene (es ++ e ∷ []) ∙ ap (drain_from scene) (run_more scene es e))

drains_on : (scene : Scene) (p : PrunedWorld) → IsScene scene → IsPrunedRun scene p → DrainsOn scene p
drains_on scene p ok r = subst (DrainsOn scene) (sym r) (drains_at scene ok (events_of p.world.journal))

-- one event of the drain leaves less, where the scene has stayed
pub pruned_lowers : (s t : Scene) (p q : PrunedWorld) (e : Event) → IsScene s → IsPrunedRun s p → Some e ≡ next_event s p.world → t ≡ s → q ≡ pruned_happens s p e → left t q.world < left s p.world
pruned_lowers s t p q e ok r n same h =
    let less = (drains_on s p ok r).lowers e n in
    let after : left t q.world ≡ left s (pruned_happens s p e).world = λ j. left (same j) (h j).world in
    omega (arith, less, after)

-- nothing has happened yet
pub pruned_begins : (scene : Scene) (p : PrunedWorld) → PartOfDrain scene p p
pruned_begins scene p = record { done = []; ran = refl; rest = refl }

-- one more event
pruned_goes : (scene : Scene) (old p : PrunedWorld) (e : Event) → IsScene scene → IsPrunedRun scene p → Some e ≡ next_event scene p.world → PartOfDrain scene old p → PartOfDrain scene old (pruned_happens scene p e)
pruned_goes scene old p e ok r q h =
    record {
      done = h.done ++ e ∷ [];
      ran = ap (λ z. pruned_happens scene z e) h.ran ∙ sym (pruned_append scene old h.done (e ∷ []));
      rest = append_assoc h.done (e ∷ []) (pruned_drain_from scene (pruned_happens scene p e)) ∙ (ap (λ es. h.done ++ es) (sym ((drains_on scene p ok r).on e q)) ∙ h.rest);
    }

-- one more turn of the drain, where the scene has stayed
pub pruned_turn : (scene s : Scene) (old p z : PrunedWorld) (e : Event) → s ≡ scene → IsScene s → IsPrunedRun s p → Some e ≡ next_event s p.world → z ≡ pruned_happens s p e → PartOfDrain scene old p → PartOfDrain scene old z
pruned_turn scene s old p z e same ok r q h part =
    subst (PartOfDrain scene old) (sym (h ∙ ap (λ t. pruned_happens t p e) same))
    (pruned_goes scene old p e (subst IsScene same ok) (subst (λ t. IsPrunedRun t p) same r) (subst (λ t. Some e ≡ next_event t p.world) same q) part)

-- where the rule names no event the drain is done
pub pruned_over : (scene s : Scene) (old p : PrunedWorld) → s ≡ scene → IsScene s → IsPrunedRun s p → None ≡ next_event s p.world → PartOfDrain scene old p → p ≡ pruned_drained_from scene old
pruned_over scene s old p same ok r q h =
    let none : pruned_drain_from scene p ≡ [] = ap (λ t. pruned_drain_from t p) (sym same) ∙ (drains_on s p ok r).stop q in
    let all : h.done ≡ pruned_drain_from scene old = sym (append-nil h.done) ∙ (ap (λ es. h.done ++ es) (sym none) ∙ h.rest) in
    h.ran ∙ ap (pruned_from scene old) all

-- and nothing is left to do
pub pruned_ended : (scene : Scene) (p : PrunedWorld) → IsScene scene → IsPrunedRun scene p → None ≡ next_event scene p.world → Ended scene p.world
pruned_ended scene p ok r q = subst (λ (z : PrunedWorld). Ended scene z.world) (sym r) ended
  where
    es : List Event
    es = events_of p.world.journal

    rest : AtRest scene (run scene es)
    rest = (drain_rests scene ok es).rest (sym (q ∙ (ap (λ (z : PrunedWorld). next_event scene z.world) r ∙ next_alike scene es)))

    ended : Ended scene (pruned_run scene es).world
    ended =
        let a = alongside scene es in
        let answered = rest_holds scene ok es rest in
        let closed = rest_closed scene ok es rest in
        let same = counts_alike scene es in
        record {
          rest = (λ i b g. rest.0 i b (ap (λ bs. slice_get bs i) (sym a.given) ∙ g), λ s. moves_alike scene es s ∙ rest.1 s);
          answered = λ place text t x.
              let c = answered place text t x in (c.0, c.1, subst (λ xs. IsAnswer xs c.0 c.1) (sym a.answers) c.2, c.3);
          closed = record { held = ap (λ (c : Counts). c.held) same ∙ closed.held; unbegun = ap (λ (c : Counts). c.unbegun) same ∙ closed.unbegun };
        }

-- one more event of the schedule
pub one_more_pruned : (scene : Scene) (p q : PrunedWorld) (es : List Event) (i : ℕ) (d : Event) → i < length es
    → q ≡ pruned_from scene p (take i es) → pruned_happens scene q (get_or es i d) ≡ pruned_from scene p (take (i + 1) es)
one_more_pruned scene p q es i d h k =
    ap (λ z. pruned_happens scene z (get_or es i d)) k ∙ (sym (pruned_append scene p (take i es) (get_or es i d ∷ [])) ∙ ap (pruned_from scene p) (sym (take_more es i d h)))
