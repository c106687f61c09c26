-- What the nodes of a slab say of the two kinds of lists.
use Rattle.slab.specs.Slab.{Slab, get}
use Rattle.std.specs.Prelude.{List, None, Option, Some, length, ℕ, ◌≡◌}
use Rattle.link_arena.specs.Rows.{IsRow, first_of, walk}
use Rattle.str_base.specs.declared.names.Version.{Version}
use Rattle.link_arena.specs.declared.nodes.Ends.{Ends}
use Rattle.link_arena.specs.declared.nodes.Link.{Link}
use Rattle.link_arena.specs.declared.nodes.Node.{Node}
use Rattle.link_arena.specs.declared.nodes.Side.{Side}
use Rattle.link_arena.specs.declared.nodes.Side.TheVariants.{ByKey, ByTx}

-- the links of a node on a side
abbrev pub link_of : Side → Node → Link
link_of ByKey n = n.in_key
link_of ByTx n = n.in_tx

-- a node with other links on a side
abbrev pub relinked : Side → Link → Node → Node
relinked ByKey l n = record n { in_key = l }
relinked ByTx l n = record n { in_tx = l }

-- what follows a node on a side
abbrev pub after_of : Side → Option Node → Option ℕ
after_of side None = None
after_of side (Some n) = (link_of side n).after

-- what stands before it
abbrev pub before_of : Side → Option Node → Option ℕ
before_of side None = None
before_of side (Some n) = (link_of side n).before

-- its version
abbrev pub version_of : Option Node → Option Version
version_of None = None
version_of (Some n) = Some n.version

-- the same of a slot
abbrev pub after_at : Side → Slab Node → ℕ → Option ℕ
after_at side nodes u = after_of side (get nodes u)

abbrev pub before_at : Side → Slab Node → ℕ → Option ℕ
before_at side nodes u = before_of side (get nodes u)

abbrev pub version_at : Slab Node → ℕ → Option Version
version_at nodes u = version_of (get nodes u)

-- the other side
abbrev pub other : Side → Side
other ByKey = ByTx
other ByTx = ByKey

-- each version, and each link of this side, is as it was
pub record SameSide (side : Side) (old new : Slab Node) : Type 0 where
  pub after : (u : ℕ) → after_at side new u ≡ after_at side old u
  pub before : (u : ℕ) → before_at side new u ≡ before_at side old u
  pub version : (u : ℕ) → version_at new u ≡ version_at old u

-- the list of a side between these ends
abbrev pub row_of : Side → Slab Node → Option Ends → List ℕ
row_of side nodes ends = walk (after_at side nodes) (length nodes.slots) (first_of ends)

-- the links of a side say that list
abbrev pub HasRow : Side → Slab Node → Option Ends → List ℕ → Type 0
HasRow side nodes ends ss = IsRow (after_at side nodes) (before_at side nodes) ends ss

-- the links of a slot on a side are as they were
pub record SameOutside (side : Side) (old new : Slab Node) (u : ℕ) : Type 0 where
  pub after : after_at side new u ≡ after_at side old u
  pub before : before_at side new u ≡ before_at side old u
