-- The versions of an aborted transaction may be taken out by a node that keeps the facts of its view: each lies where the transaction wrote.
use Rattle.std.proofs.Common.{List, [], inl, inr, refl, ℕ, ◌∙◌, ◌∷◌, ◌≡◌}
use Rattle.str_base.specs.declared.names.PartId.{PartId}
use Rattle.str_base.specs.declared.names.Version.{Version}
use Rattle.str_base.specs.declared.names.Write.{Write}
use Rattle.cascade_abort.specs.Removal.{AllWritten}
use Rattle.partition_map.specs.Maps.{is_written}
use Rattle.partition_map.specs.Maps
use Rattle.str_model.specs.NodeFacts.{MomentFacts}
use Rattle.str_model.specs.Owned.{Owns}
use Rattle.str_model.specs.Views.{Own, View, name_of}
use Rattle.str_scene.proofs.Mapped.{part-mapped}
use Rattle.str_scene.specs.Scenes.{Here, map_of, part_of}
use Rattle.str_model.proofs.ViewFacts.NodeUses.{all_written}
use Rattle.str_base.specs.Members.{In}

-- the partitions of the writes are the same by the map
by_map : (here : Here) (ws : List Write) (p : PartId) → is_written (Maps.part_of (map_of here.scene)) ws p ≡ is_written (part_of here.scene) ws p
by_map here [] p = refl
by_map here (w ∷ ws) p = rw (part-mapped here.scene w.key, by_map here ws p) refl

-- of a store or of the cache
pub written_there : (here : Here) (v : View) (h : MomentFacts here v) (i : ℕ) (x : Own) → Owns v i x → (vs : List Version) → ((u : Version) → In u vs → In u v.versions)
    → AllWritten (map_of here.scene) x.writes (name_of here i) vs
written_there here v h i x own [] f = tt
written_there here v h i x own (u ∷ vs) f =
    ((λ e. by_map here x.writes u.part ∙ all_written here v h i x own u (f u (inl refl)) e), written_there here v h i x own vs (λ z k. f z (inr k)))
