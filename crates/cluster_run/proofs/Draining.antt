-- The drain's loop: what is left of the drain, and that it ends.
use Rattle.std.proofs.Common.{List, None, Some, [], add-one, ap, append-nil, append_assoc, arith, get_or, length, refl, subst, sym, take, ℕ, ◌++◌, ◌+◌, ◌<◌, ◌∙◌, ◌∷◌, ◌≡◌}
use Rattle.std.proofs.Math.Seq.{take-suc}
use Rattle.cluster_run.specs.Clusters.{IsRun, PartlyDrained, drained_from, events_of}
use Rattle.spsi_laws.proofs.Rest.RestHolds.{rest_holds}
use Rattle.spsi_laws.proofs.Rest.RunEnds.{rest_closed}
use Rattle.spsi_laws.proofs.Work.DrainHolds.{drain_follows, drain_lowers, drain_rests}
use Rattle.spsi_laws.specs.Laws.Drain.{FollowsRule, drain_from}
use Rattle.spsi_laws.specs.Laws.Ends.{Ended}
use Rattle.str_model.proofs.Principle.Everywhere.{run-append}
use Rattle.str_model.specs.Drains.{AtRest, next_event}
use Rattle.str_model.specs.Runs.{World, happens, run, run_from}
use Rattle.str_model.specs.Work.{left}
use Rattle.str_scene.specs.declared.names.Event.{Event}
use Rattle.str_scene.specs.SceneLimits.{IsScene}
use Rattle.str_scene.specs.Scenes.{Scene}

-- the laws of the drain hold of a world that is the run of its journal
follows : (scene : Scene) (w : World) → IsScene scene → IsRun scene w → FollowsRule scene w
follows scene w ok r = subst (FollowsRule scene) (sym r) (drain_follows scene ok (events_of w.journal))

-- an event of the drain leaves less
event_lowers : (scene : Scene) (w : World) (e : Event) → IsScene scene → IsRun scene w → Some e ≡ next_event scene w → left scene (happens scene w e) < left scene w
event_lowers scene w e ok r q =
    subst (λ (v : World). next_event scene v ≡ Some e → left scene (happens scene v e) < left scene v) (sym r) (drain_lowers scene ok (events_of w.journal) e) (sym q)

-- so it does where the scene has stayed
pub turn_lowers : (s t : Scene) (w v : World) (e : Event) → IsScene s → IsRun s w → Some e ≡ next_event s w → t ≡ s → v ≡ happens s w e → left t v < left s w
turn_lowers s t w v e ok r q same h =
    let less = event_lowers s w e ok r q in
    let after : left t v ≡ left s (happens s w e) = λ j. left (same j) (h j) in
    omega (arith, less, after)

-- nothing has happened yet
pub drain_begins : (scene : Scene) (w : World) → PartlyDrained scene w w
drain_begins scene w = record { done = []; ran = refl; rest = refl }

-- one more event
pub drain_goes : (scene : Scene) (old w : World) (e : Event) → IsScene scene → IsRun scene w → Some e ≡ next_event scene w → PartlyDrained scene old w → PartlyDrained scene old (happens scene w e)
drain_goes scene old w e ok r q h =
    record {
      done = h.done ++ e ∷ [];
      ran = ap (λ v. happens scene v e) h.ran ∙ sym (run-append scene old h.done (e ∷ []));
      rest = append_assoc h.done (e ∷ []) (drain_from scene (happens scene w e)) ∙ (ap (λ es. h.done ++ es) (sym ((follows scene w ok r).on e (sym q))) ∙ h.rest);
    }

-- one more turn of the drain, where the scene has stayed
pub drain_turn : (scene s : Scene) (old w v : World) (e : Event) → s ≡ scene → IsScene s → IsRun s w → Some e ≡ next_event s w → v ≡ happens s w e → PartlyDrained scene old w → PartlyDrained scene old v
drain_turn scene s old w v e same ok r q h p =
    subst (PartlyDrained scene old) (sym (h ∙ ap (λ z. happens z w e) same))
    (drain_goes scene old w e (subst IsScene same ok) (subst (λ z. IsRun z w) same r) (subst (λ z. Some e ≡ next_event z w) same q) p)

-- where the rule names no event the drain is done
pub drain_over : (scene s : Scene) (old w : World) → s ≡ scene → IsScene s → IsRun s w → None ≡ next_event s w → PartlyDrained scene old w → w ≡ drained_from scene old
drain_over scene s old w same ok r q h =
    let none : drain_from scene w ≡ [] = ap (λ z. drain_from z w) (sym same) ∙ (follows s w ok r).stop (sym q) in
    let all : h.done ≡ drain_from scene old = sym (append-nil h.done) ∙ (ap (λ es. h.done ++ es) (sym none) ∙ h.rest) in
    h.ran ∙ ap (run_from scene old) all

-- and nothing is left to do
pub drain_ended : (scene : Scene) (w : World) → IsScene scene → IsRun scene w → None ≡ next_event scene w → Ended scene w
drain_ended scene w ok r q = subst (Ended scene) (sym r) (record { rest = rest; answered = rest_holds scene ok es rest; closed = rest_closed scene ok es rest })
  where
    es : List Event
    es = events_of w.journal

    rest : AtRest scene (run scene es)
    rest = (drain_rests scene ok es).rest (subst (λ (v : World). next_event scene v ≡ None) r (sym q))

-- one more of the first of a list
pub take_more : (es : List Event) (i : ℕ) (d : Event) → i < length es → take (i + 1) es ≡ take i es ++ get_or es i d ∷ []
take_more es i d h = rw add-one (take-suc es i d h)

-- one more event of the schedule
pub one_more : (scene : Scene) (w v : World) (es : List Event) (i : ℕ) (d : Event) → i < length es
    → v ≡ run_from scene w (take i es) → happens scene v (get_or es i d) ≡ run_from scene w (take (i + 1) es)
one_more scene w v es i d h k = rw (take_more es i d h, run-append, k) refl
