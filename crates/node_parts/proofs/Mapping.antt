-- The partitions of a scene's keys are read one after the other.
use Rattle.std.proofs.Common.{List, [], ap, arith, length, map, refl, slice_get, suc, take, zero, ℕ, ◌++◌, ◌<◌, ◌∷◌, ◌≡◌}
use Rattle.str_base.specs.declared.names.PartId.{PartId}
use Rattle.str_scene.specs.Scenes.{named_part}

-- one key more
pub parts_more : (names : List (List ℕ × PartId)) (i : ℕ) → i < length names
    → map (λ (k : List ℕ × PartId). k.1) (take (suc i) names) ≡ map (λ (k : List ℕ × PartId). k.1) (take i names) ++ named_part (slice_get names i) ∷ []
parts_more [] i l = absurd (omega arith)
parts_more (n ∷ ns) zero l = refl
parts_more (n ∷ ns) (suc i) l = ap (λ ps. n.1 ∷ ps) (parts_more ns i (omega arith))
