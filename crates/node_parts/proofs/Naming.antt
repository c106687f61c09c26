-- The marks that a message names.
use Rattle.std.specs.List.{list_all}
use Rattle.std.proofs.Common.{Bool, List, map, ◌&&◌}
use Rattle.str_base.specs.declared.names.PartId.{PartId}
use Rattle.str_model.specs.declared.names.KeyMark.{KeyMark}
use Rattle.str_model.specs.Strange.{below_limit, keys_in}
use Rattle.str_scene.specs.Scenes.{Here}

-- they are of distinct keys of the partition, and below the limit
abbrev pub have_marks : Here → PartId → List KeyMark → Bool
have_marks here p ms = keys_in here p (map (λ (m : KeyMark). m.key) ms) && list_all (λ (m : KeyMark). below_limit m.mark) ms
