-- A journal that is done again, event by event.
use Rattle.cluster_run.specs.Clusters.{events_of}
use Rattle.std.proofs.Common.{List, [], ap, ap₂, length, slice_index_or, sym, take, ℕ, ◌++◌, ◌+◌, ◌<◌, ◌∙◌, ◌∷◌, ◌≡◌}
use Rattle.std.proofs.lemmas.List.{get_or_default, map-append, take_more}
use Rattle.str_model.proofs.Principle.Everywhere.{run-append}
use Rattle.str_model.specs.Runs.{World, happens, opening, run}
use Rattle.str_model.specs.declared.names.Done.{Done}
use Rattle.str_scene.specs.Scenes.{Scene}
use Rattle.str_scene.specs.declared.names.Event.{Event}

events_more : (ds : List Done) (i : ℕ) (d : Done) → i < length ds → d ≡ slice_index_or ds i d → events_of (take (i + 1) ds) ≡ events_of (take i ds) ++ d.event ∷ []
events_more ds i d lt is =
    ap events_of (take_more ds i d lt ∙ ap (λ (x : Done). take i ds ++ x ∷ []) (sym is)) ∙ map-append (λ (x : Done). x.event) (take i ds) (d ∷ [])

replayed_by : (scene s : Scene) (ds : List Done) (i : ℕ) (d : Done) (w v : World) → i < length ds → d ≡ slice_index_or ds i d → s ≡ scene → w ≡ run scene (events_of (take i ds))
    → v ≡ happens s w d.event → v ≡ run scene (events_of (take (i + 1) ds))
replayed_by scene s ds i d w v lt is q r p =
    p ∙ ap₂ (λ (t : Scene) (u : World). happens t u d.event) q r
    ∙ sym (run-append scene (opening scene) (events_of (take i ds)) (d.event ∷ []))
    ∙ ap (run scene) (sym (events_more ds i d lt is))

-- one event more
pub replayed_more : (scene s : Scene) (ds : List Done) (i : ℕ) (d : Done) (w v : World) → i < length ds → s ≡ scene → w ≡ run scene (events_of (take i ds))
    → v ≡ happens s w (slice_index_or ds i d).event → v ≡ run scene (events_of (take (i + 1) ds))
replayed_more scene s ds i d w v lt q r p = replayed_by scene s ds i (slice_index_or ds i d) w v lt (get_or_default ds i d (slice_index_or ds i d) lt) q r p
