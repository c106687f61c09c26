-- The partition map of a scene: what it says of partitions and nodes is what the scene says.
use Rattle.std.proofs.Common.{List, None, Option, Some, [], ap, subst, arith, flat_map, length, map, refl, slice_get, suc, zero, ℕ, ◌∙◌, ◌∷◌, ◌≡◌, ◌≤◌}
use Rattle.str_base.specs.declared.limits.TheConstants.{NODES}
use Rattle.std.proofs.lemmas.List.Elements.{filter_agree}
use Rattle.std.specs.Prelude.{option_map}
use Rattle.std.proofs.lemmas.Option.{slice_get-map}
use Rattle.str_base.specs.declared.names.KeyId.{KeyId}
use Rattle.str_base.specs.declared.names.NodeId.{NodeId}
use Rattle.str_base.specs.declared.names.PartId.{PartId}
use Rattle.str_base.specs.declared.names.Write.{Write}
use Rattle.partition_map.specs.Maps as maps
use Rattle.partition_map.specs.Maps.{IsMap, is_written, numbered, others, part_or_none, row_at, unasked}
use Rattle.str_scene.specs.SceneLimits.{Exists, IsRow, IsScene}
use Rattle.str_scene.specs.Scenes.{Scene, hosts, map_of, named_part, part_of, participants, replicas}

-- the partition of an entry of the table
part_named : (o : Option (List ℕ × PartId)) → part_or_none (option_map (λ k. k.1) o) ≡ named_part o
part_named None = refl
part_named (Some k) = refl

-- the partition of a key
pub part-mapped : (scene : Scene) (k : KeyId) → maps.part_of (map_of scene) k ≡ part_of scene k
part-mapped scene k = ap part_or_none (slice_get-map (λ n. n.1) scene.keys.names k.0) ∙ part_named (slice_get scene.keys.names k.0)

-- the replicas of a partition
pub replicas-mapped : (scene : Scene) (p : PartId) → maps.replicas (map_of scene) p ≡ replicas scene p
replicas-mapped scene p = refl

-- the node is a replica of the partition
pub hosts-mapped : (scene : Scene) (n : NodeId) (p : PartId) → maps.hosts (map_of scene) n p ≡ hosts scene n p
hosts-mapped scene n p = refl

-- whether a partition is written, where two functions give the same partitions
same_written : (f g : KeyId → PartId) → ((k : KeyId) → f k ≡ g k) → (ws : List Write) (p : PartId) → is_written f ws p ≡ is_written g ws p
same_written f g h [] p = refl
same_written f g h (w ∷ ws) p = rw (h w.key, same_written f g h ws p) refl

-- the participants of a transaction
pub participants-mapped : (scene : Scene) (origin : NodeId) (ws : List Write) → maps.participants (map_of scene) origin ws ≡ participants scene origin ws
participants-mapped scene origin ws =
    ap (flat_map (λ p. map (unasked p) (others origin (row_at scene.parts p))))
    (filter_agree _ _ (same_written (maps.part_of (map_of scene)) (part_of scene) (part-mapped scene) ws) (numbered scene.parts))

-- a row of fewer nodes
more_nodes : (n : ℕ) (row : List NodeId) → n ≤ NODES → IsRow n row → IsRow NODES row
more_nodes n row l is =
    record { some = is.some; few = is.few; exist = λ i r e. (let k = is.exist i r e in k.0, let k = is.exist i r e in omega (arith, k.1)); distinct = is.distinct }

-- an entry of the table, by its partition
entry_at : (names : List (List ℕ × PartId)) (i : ℕ) (p : PartId) → slice_get (map (λ k. k.1) names) i ≡ Some p → (k : List ℕ × PartId) × (slice_get names i ≡ Some k) × (k.1 ≡ p)
entry_at [] i p e = absurd (cc e)
entry_at (k ∷ ks) zero p e = (k, refl, cc e)
entry_at (k ∷ ks) (suc i) p e = entry_at ks i p e

-- the map keeps what the type of a map keeps
pub is-mapped : (scene : Scene) → IsScene scene → IsMap (map_of scene)
is-mapped scene is =
    record {
      few = omega (arith, is.parts.1);
      rows = λ i row e. more_nodes scene.nodes row is.nodes.1 (is.rows i row e);
      keys = λ i p e. (let k = entry_at scene.keys.names i p e in subst (λ (q : PartId). Exists q.0 (length scene.parts)) k.2 (is.table.keys i k.0 k.1).part);
    }
