-- All lists of one kind: each node in the list of its name.
use Rattle.slab.specs.Slab.{Slab}
use Rattle.std.specs.Prelude.{Bool, List, None, Option, Some, false, not, ℕ, ◌&&◌, ◌≡◌}
use Rattle.str_base.specs.declared.names.Version.{Version}
use Rattle.link_arena.specs.declared.heads.Head.{Head}
use Rattle.link_arena.specs.declared.nodes.Node.{Node}
use Rattle.link_arena.specs.declared.nodes.Side.{Side}
use Rattle.link_arena.specs.HeadLists.{IsRising, lookup}
use Rattle.link_arena.specs.Rows.{is_at, is_in}
use Rattle.link_arena.specs.Sides.{HasRow, row_of, version_at}

-- there is a version, and it has the name
abbrev pub is_named : {N : Type 0} → (N → Version → Bool) → N → Option Version → Bool
is_named names k None = false
is_named names k (Some v) = names k v

-- the list with a name
abbrev pub row_at : {N : Type 0} → (N → N → Bool) → Side → Slab Node → List (Head N) → N → List ℕ
row_at below side nodes heads k = row_of side nodes (lookup below k heads)

-- the names rise, the links of the side say the lists, and each list has the slots of its name, but for one that may be out of all
pub record OnSide {N : Type 0} (below : N → N → Bool) (names : N → Version → Bool) (side : Side) (nodes : Slab Node) (heads : List (Head N)) (out : Option ℕ) : Type 0 where
  pub rise : IsRising below heads
  pub row : (k : N) → HasRow side nodes (lookup below k heads) (row_at below side nodes heads k)
  pub member : (k : N) (u : ℕ) → is_in u (row_at below side nodes heads k) ≡ (is_named names k (version_at nodes u) && not (is_at out u))
