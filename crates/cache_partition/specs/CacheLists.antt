-- What the cache of a node is seen as.
use Rattle.std.specs.Prelude.{List, false, true, ℕ, ◌≡◌}
use Rattle.str_base.specs.declared.names.NodeId.{NodeId}
use Rattle.str_base.specs.declared.names.PartId.{PartId}
use Rattle.str_base.specs.declared.names.Version.{Version}
use Rattle.str_base.specs.Versions.{is_local}
use Rattle.version_chain.specs.ChainLists.{Each, IsOrdered, is_among}

-- a node, the partitions that it hosts, its Local versions elsewhere, and how many more are taken without memory
pub record CacheList : Type 0 where
  pub node : NodeId
  pub hosted : List PartId
  pub versions : List Version
  pub spare : ℕ

-- the version is Local, of the node, in none of these partitions
abbrev pub IsCached : NodeId → List PartId → Version → Type 0
IsCached node hosted v = (is_local v.kind ≡ true) × (v.tx.node ≡ node) × (is_among hosted v.part ≡ false)

-- what a cache keeps: its versions are in order, Local, of its node, in partitions that the node does not host
abbrev pub IsCache : CacheList → Type 0
IsCache c = IsOrdered c.versions × Each (IsCached c.node c.hosted) c.versions

-- the node and its partitions stay
abbrev pub StaysHere : CacheList → CacheList → Type 0
StaysHere old new = (new.node ≡ old.node) × (new.hosted ≡ old.hosted)
