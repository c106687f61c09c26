-- The partitions of the writes of a transaction, one for each write, are those that the gate asks of its write buffer.
use Rattle.str_model.proofs.ListFacts.{range_in}
use Rattle.std.proofs.Common.{List, Some, [], ap, append_assoc, arith, drop, eq-eqb, false, length, ltb-true, map, refl, slice_get, subst, suc, sym, take, true, zero, ℕ, ◌++◌, ◌+◌, ◌-◌, ◌<◌, ◌∙◌, ◌∷◌, ◌≡◌, ◌≤◌}
use Rattle.std.specs.Cmp.{both_ways}
use Rattle.std.specs.List.{list_any, range_with_len}
use Rattle.commit_gate.specs.Answers.{IsSame, Tells}
use Rattle.dependency_set.specs.declared.names.Dep.{Dep}
use Rattle.node_core.proofs.Parts.Showing.{key_there}
use Rattle.partition_map.specs.Maps.{HasKey, PartitionMap, is_written, numbered, part_of as mapped}
use Rattle.std.proofs.lemmas.List.{at_drop_more, take_more}
use Rattle.std.specs.Prelude.{slice_index_or}
use Rattle.str_base.proofs.Lists.{slice_get_there}
use Rattle.str_base.proofs.Members.{any_in, filter_in, in_at, in_filter, in_map, map_in}
use Rattle.str_base.proofs.SameNames.{same_part-is}
use Rattle.str_base.specs.declared.names.NodeId.{NodeId}
use Rattle.str_base.specs.declared.names.PartId.{PartId}
use Rattle.str_base.specs.declared.names.Write.{Write}
use Rattle.str_base.specs.Members.{In}
use Rattle.str_base.specs.Versions.{same_part}
use Rattle.str_model.proofs.Changes.PairWords.{any_has}
use Rattle.str_model.specs.Gates.{DepParts, dep_parts, parts_of}
use Rattle.node_core.specs.Arriving.{AreHere, AreKeys}
use Rattle.std.proofs.lemmas.Option.{slice_get-get_or, slice_get_within}
use Rattle.str_scene.proofs.Mapped.{part-mapped}
use Rattle.str_model.proofs.ViewFacts.VersionsKept.{write_key}
use Rattle.str_model.specs.NodeFacts.{MomentFacts}
use Rattle.str_model.specs.Owned.{Owns}
use Rattle.str_model.specs.Strange.{has_key}
use Rattle.str_model.specs.Views.{Own, View, is_decided}
use Rattle.str_scene.specs.SceneLimits.{Exists, IsScene}
use Rattle.str_scene.specs.Scenes.{Here, map_of, named_part, part_of, written_parts}

-- a partition of the scene is one of those upwards
pub in_numbered : (rows : List (List NodeId)) (p : PartId) → Exists p.0 (length rows) → In p (numbered rows)
in_numbered rows p e = map_in (λ (n : ℕ). let q : PartId = record { 0 = n } in q) (range_with_len 1 (length rows)) p.0 (range_in 1 (length rows) p.0 e.0 (let h = e.1 in omega (arith, h)))

-- the partition of a key exists
pub part_exists : (here : Here) → IsScene here.scene → (w : Write) → has_key here w.key ≡ true → Exists (part_of here.scene w.key).0 (length here.scene.parts)
part_exists here ok w e =
    let g = slice_get_there here.scene.keys.names w.key.0 (ltb-true w.key.0 (length here.scene.keys.names) e) in
    subst (λ o. Exists (named_part o).0 (length here.scene.parts)) (sym g.1) (ok.table.keys w.key.0 g.0 g.1).part

pub parts_same : (here : Here) → IsScene here.scene → (ws : List Write) → ((w : Write) → In w ws → has_key here w.key ≡ true) → (p : PartId)
    → list_any (same_part p) (map (λ (w : Write). part_of here.scene w.key) ws) ≡ list_any (same_part p) (written_parts here.scene ws)
parts_same here ok ws f p = both_ways _ _ there back
  where
    there : list_any (same_part p) (map (λ (w : Write). part_of here.scene w.key) ws) ≡ true → list_any (same_part p) (written_parts here.scene ws) ≡ true
    there e =
        let m = any_has (same_part p) (map (λ (w : Write). part_of here.scene w.key) ws) e in
        let r = in_map (λ (w : Write). part_of here.scene w.key) ws m.0 m.1 in
        let q = part_of here.scene r.0.key in
        let w : is_written (part_of here.scene) ws q ≡ true = any_in (λ (z : Write). same_part (part_of here.scene z.key) q) ws r.0 r.1 (eq-eqb q.0 q.0 refl) in
        any_in (same_part p) (written_parts here.scene ws) q (filter_in (λ z. is_written (part_of here.scene) ws z) (numbered here.scene.parts) q (in_numbered here.scene.parts q (part_exists here ok r.0 (f r.0 r.1))) w) (ap (same_part p) r.2 ∙ m.2)

    back : list_any (same_part p) (written_parts here.scene ws) ≡ true → list_any (same_part p) (map (λ (w : Write). part_of here.scene w.key) ws) ≡ true
    back e =
        let r = any_has (same_part p) (written_parts here.scene ws) e in
        let k = in_filter (λ z. is_written (part_of here.scene) ws z) (numbered here.scene.parts) r.0 r.1 in
        let w = any_has (λ (z : Write). same_part (part_of here.scene z.key) r.0) ws k.1 in
        let q = part_of here.scene w.0.key in
        let a : p ≡ r.0 = same_part-is p r.0 r.2 in
        let b : q ≡ r.0 = same_part-is q r.0 w.2 in
        any_in (same_part p) (map (λ (w : Write). part_of here.scene w.key) ws) q (map_in (λ (z : Write). part_of here.scene z.key) ws w.0 w.1) (eq-eqb p.0 q.0 (ap (λ (z : PartId). z.0) (a ∙ sym b)))

-- ---- what is told of dependencies

-- each dependency, with where it wrote
abbrev pub AreParts : Here → List Own → List Dep → List DepParts → Type 0
AreParts here own [] [] = Unit {0}
AreParts here own [] (w ∷ ws) = ⊥
AreParts here own (d ∷ ds) [] = ⊥
AreParts here own (d ∷ ds) (w ∷ ws) = IsSame w (dep_parts here own d) × AreParts here own ds ws

-- and one more
pub parts_more : (here : Here) (own : List Own) (ds : List Dep) (ws : List DepParts) (d : Dep) (w : DepParts) → AreParts here own ds ws → IsSame w (dep_parts here own d) → AreParts here own (ds ++ d ∷ []) (ws ++ w ∷ [])
parts_more here own [] [] d w h k = (k, tt)
parts_more here own [] (g ∷ ws) d w h k = absurd h
parts_more here own (e ∷ ds) [] d w h k = absurd h
parts_more here own (e ∷ ds) (g ∷ ws) d w h k = (h.0, parts_more here own ds ws d w h.1 k)

parts_each : (here : Here) (own : List Own) (ds : List Dep) (ws : List DepParts) → AreParts here own ds ws → (k : ℕ) (w : DepParts) → slice_get ws k ≡ Some w
    → (i : ℕ) × (d : Dep) × (slice_get ds i ≡ Some d) × IsSame w (dep_parts here own d)
parts_each here own [] [] h k w e = absurd (cc e)
parts_each here own [] (g ∷ ws) h k w e = absurd h
parts_each here own (d ∷ ds) [] h k w e = absurd h
parts_each here own (d ∷ ds) (g ∷ ws) h zero w e = let is : g ≡ w = cc e in (0, d, refl, subst (λ (z : DepParts). IsSame z (dep_parts here own d)) is h.0)
parts_each here own (d ∷ ds) (g ∷ ws) h (suc k) w e = let r = parts_each here own ds ws h.1 k w e in (suc r.0, r.1, r.2, r.3)

parts_all : (here : Here) (own : List Own) (ds : List Dep) (ws : List DepParts) → AreParts here own ds ws → (i : ℕ) (d : Dep) → slice_get ds i ≡ Some d
    → (k : ℕ) × (w : DepParts) × (slice_get ws k ≡ Some w) × IsSame w (dep_parts here own d)
parts_all here own [] ws h i d e = absurd (cc e)
parts_all here own (c ∷ ds) [] h i d e = absurd h
parts_all here own (c ∷ ds) (g ∷ ws) h zero d e = let is : c ≡ d = cc e in (0, g, refl, subst (λ (z : Dep). IsSame g (dep_parts here own z)) is h.0)
parts_all here own (c ∷ ds) (g ∷ ws) h (suc i) d e = let r = parts_all here own ds ws h.1 i d e in (suc r.0, r.1, r.2, r.3)

-- they tell of each dependency
pub parts_tell : (here : Here) (own : List Own) (ds : List Dep) (ws : List DepParts) → AreParts here own ds ws → Tells here own ds ws
parts_tell here own ds ws h = record { each = parts_each here own ds ws h; all = parts_all here own ds ws h }

-- where one dependency wrote
pub part_told : (here : Here) → IsScene here.scene → (own : List Own) (d : Dep) (y : Own) (ps : List PartId) → slice_get own (d.seq - 1) ≡ Some y → ((w : Write) → In w y.writes → has_key here w.key ≡ true)
    → ps ≡ map (λ (w : Write). part_of here.scene w.key) y.writes → let w : DepParts = record { seq = d.seq; parts = ps } in IsSame w (dep_parts here own d)
part_told here ok own d y ps e f q = (
  refl,
  λ p. ap (list_any (same_part p)) q ∙ (parts_same here ok y.writes f p ∙ ap (λ o. list_any (same_part p) (parts_of here o)) (sym e)),
)

-- ---- what the facts of a view say of dependencies and writes

pub deps_here : (here : Here) (v : View) → MomentFacts here v → (i : ℕ) (x : Own) → Owns v i x → is_decided x.phase ≡ false → AreHere v.own i
deps_here here v h i x own op y d e j =
    let is : y ≡ x = cc (own, e) in
    let w = h.base.deps i x d own op (subst (λ (z : Own). In d z.snap.deps) is j) in
    let k = slice_get_within v.own w.place w.owner w.owns in
    let q = w.seq in
    (omega (arith, q), omega (arith, q, k))

pub keys_here : (here : Here) (v : View) → IsScene here.scene → MomentFacts here v → AreKeys here v.own
keys_here here v ok h i x w own j = write_key here ok x (h.scripts i x own) w j

-- ---- one write after the other, one dependency after the other

-- the key of a write is one of the map
pub written_key : (here : Here) (m : PartitionMap) (ws items : List Write) (k : ℕ) (d : Write) → map_of here.scene ≡ m → ((i : ℕ) (w : Write) → slice_get ws i ≡ Some w → has_key here w.key ≡ true)
    → items ≡ ws → k < length items → HasKey m (slice_index_or items k d).key
written_key here m ws items k d e f q l =
    let w = slice_index_or items k d in
    let at = ap (λ (z : List Write). slice_get z k) (sym q) ∙ slice_get-get_or items k d l in
    subst (λ z. HasKey z w.key) e (key_there here w.key (f k w at))

-- the partition of one more write
pub parts_next : (here : Here) (m : PartitionMap) (ws items : List Write) (k : ℕ) (d : Write) (parts new : List PartId) (p : PartId) → map_of here.scene ≡ m → k < length items
    → p ≡ mapped m (slice_index_or items k d).key → new ≡ parts ++ p ∷ [] → parts ++ map (λ (w : Write). part_of here.scene w.key) (drop k items) ≡ map (λ (w : Write). part_of here.scene w.key) ws
    → new ++ map (λ (w : Write). part_of here.scene w.key) (drop (k + 1) items) ≡ map (λ (w : Write). part_of here.scene w.key) ws
parts_next here m ws items k d parts new p e l q n r =
    let f : Write → PartId = λ w. part_of here.scene w.key in
    let w = slice_index_or items k d in
    let is : p ≡ f w = q ∙ (ap (λ z. mapped z w.key) (sym e) ∙ part-mapped here.scene w.key) in
    ap (λ (z : List PartId). z ++ map f (drop (k + 1) items)) n
    ∙ (append_assoc parts (p ∷ []) (map f (drop (k + 1) items))
    ∙ (ap (λ (z : PartId). parts ++ z ∷ map f (drop (k + 1) items)) is
    ∙ (sym (at_drop_more (λ (z : List Write). parts ++ map f z) items k d l) ∙ r)))

-- a dependency is an own transaction
pub dep_there : (own : List Own) (i : ℕ) (x : Own) (items : List Dep) (k : ℕ) (d : Dep) → AreHere own i → slice_get own i ≡ Some x → items ≡ x.snap.deps → k < length items
    → (1 ≤ (slice_index_or items k d).seq) × ((slice_index_or items k d).seq ≤ length own)
dep_there own i x items k d h e q l =
    let g = slice_index_or items k d in h x g e (subst (λ (z : List Dep). In g z) q (in_at items k g (slice_get-get_or items k d l)))

-- a key that an own transaction wrote
pub written_has : (here : Here) (own : List Own) (j : ℕ) (y : Own) (ws : List Write) → AreKeys here own → slice_get own j ≡ Some y → ws ≡ y.writes
    → (i : ℕ) (w : Write) → slice_get ws i ≡ Some w → has_key here w.key ≡ true
written_has here own j y ws h e q i w g = h j y w e (subst (λ (z : List Write). In w z) q (in_at ws i w g))

-- one more dependency is told of
pub told_next : (here : Here) → IsScene here.scene → (own : List Own) (items : List Dep) (k : ℕ) (d : Dep) (told new : List DepParts) (y : Own) (ws : List Write) (ps : List PartId) → AreKeys here own → k < length items
    → (let g = slice_index_or items k d in slice_get own (g.seq - 1) ≡ Some y) → ws ≡ y.writes → ps ≡ map (λ (w : Write). part_of here.scene w.key) ws
    → (let t : DepParts = record { seq = (slice_index_or items k d).seq; parts = ps } in new ≡ told ++ t ∷ []) → AreParts here own (take k items) told → AreParts here own (take (k + 1) items) new
told_next here ok own items k d told new y ws ps h l e q r n t =
    let g = slice_index_or items k d in
    let z : DepParts = record { seq = g.seq; parts = ps } in
    let s = part_told here ok own g y ps e (λ w j. h (g.seq - 1) y w e j) (r ∙ ap (map (λ (w : Write). part_of here.scene w.key)) q) in
    subst (λ (us : List DepParts). AreParts here own (take (k + 1) items) us) (sym n)
    (subst (λ (ds : List Dep). AreParts here own ds (told ++ z ∷ [])) (sym (take_more items k d l)) (parts_more here own (take k items) told g z t s))
