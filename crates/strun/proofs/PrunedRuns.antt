-- The run of a scene in a cluster that prunes: what it writes is what the run writes.
use Rattle.cluster_run.specs.PrunedStates.{kept_versions, pruned_drained_from}
use Rattle.prune_laws.proofs.DrainsAlike.{outputs_alike}
use Rattle.prune_laws.proofs.PruneHolds.{pruned_append}
use Rattle.prune_laws.specs.PrunedClusters.{pruned_cluster_events, pruned_cluster_run, pruned_drain_events, pruned_drained}
use Rattle.run_io.proofs.Rendered.{rendering_is}
use Rattle.run_io.specs.Renderings.{rendering}
use Rattle.std.proofs.Common.{Bool, List, [], ap, ap₂, append-nil, cond, false, min, sym, true, ℕ, ◌++◌, ◌-◌, ◌^◌, ◌∙◌, ◌≡◌}
use Rattle.str_model.specs.Drains.{cluster_run}
use Rattle.str_model.specs.Lines.{Counts, counts, render}
use Rattle.str_model.specs.PrunedRuns.{PrunedWorld, pruned_from, pruned_opening, pruned_run}
use Rattle.str_model.specs.Work.{left}
use Rattle.str_model.specs.declared.messages.Answer.{Answer}
use Rattle.str_scene.specs.Scenes.{KeyTable, Scene}
use Rattle.str_scene.specs.declared.names.Event.{Event}
use Rattle.strun.specs.Outputs.{kept_after, kept_line}

-- the schedule from the opening, for a scene and a state that are told to be these
from_opening : (scene s : Scene) (p q : PrunedWorld) → s ≡ scene → p ≡ pruned_opening scene → q ≡ pruned_from s p s.schedule → q ≡ pruned_run scene scene.schedule
from_opening scene s p q e o r = r ∙ (ap (λ (z : Scene). pruned_from z p z.schedule) e ∙ ap (λ (z : PrunedWorld). pruned_from scene z scene.schedule) o)

-- the pruned run of a scene without a drain
pub pruned_schedule : (scene s : Scene) (p q : PrunedWorld) → s ≡ scene → p ≡ pruned_opening scene → q ≡ pruned_from s p s.schedule → scene.drain ≡ false → q ≡ pruned_cluster_run scene
unfolding pruned_cluster_run pruned_cluster_events
pruned_schedule scene s p q e o r k =
    let v : PrunedWorld = pruned_run scene scene.schedule in
    let none : pruned_drained scene v ≡ [] = ap (λ (b : Bool). cond b (pruned_drain_events scene (left scene v.world) v) []) k in
    from_opening scene s p q e o r
    ∙ sym (ap (λ (es : List Event). pruned_run scene (scene.schedule ++ es)) none ∙ ap (λ (es : List Event). pruned_run scene es) (append-nil scene.schedule))

-- the pruned run of a scene with a drain
pub pruned_drain : (scene s s' : Scene) (p q d : PrunedWorld) → s ≡ scene → p ≡ pruned_opening scene → q ≡ pruned_from s p s.schedule → s' ≡ scene → scene.drain ≡ true
    → d ≡ pruned_drained_from s' q → d ≡ pruned_cluster_run scene
unfolding pruned_cluster_run pruned_cluster_events
pruned_drain scene s s' p q d e o r e' k h =
    let v : PrunedWorld = pruned_run scene scene.schedule in
    let events : pruned_drained scene v ≡ pruned_drain_events scene (left scene v.world) v = ap (λ (b : Bool). cond b (pruned_drain_events scene (left scene v.world) v) []) k in
    h
    ∙ (ap₂ pruned_drained_from e' (from_opening scene s p q e o r)
    ∙ sym (pruned_append scene (pruned_opening scene) scene.schedule (pruned_drained scene v) ∙ ap (λ (es : List Event). pruned_from scene v es) events))

-- what the answers, the keys and the counts of that run render is what the run of the scene renders
pub pruned_render : (scene s : Scene) (p : PrunedWorld) (answers : List Answer) (keys : KeyTable) (c : Counts) → s ≡ scene → p ≡ pruned_cluster_run scene → answers ≡ p.world.answers
    → keys ≡ s.keys → c ≡ counts s p.world → rendering keys answers c ≡ render scene (cluster_run scene)
pruned_render scene s p answers keys c e q a k n =
    rendering_is s p.world answers keys c a k n ∙ (ap₂ (λ (z : Scene) (r : PrunedWorld). render z r.world) e q ∙ (outputs_alike scene).plain)

-- the versions that it keeps
pub kept_is : (scene : Scene) (p : PrunedWorld) (kept : ℕ) → p ≡ pruned_cluster_run scene → kept ≡ min (kept_versions p.world) (2 ^ 64 - 1) → kept_line kept ≡ kept_line (kept_after scene)
kept_is scene p kept q k = ap kept_line (k ∙ ap (λ (r : PrunedWorld). min (kept_versions r.world) (2 ^ 64 - 1)) q)
