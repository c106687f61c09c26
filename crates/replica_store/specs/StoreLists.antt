-- What the stores of a node are seen as.
use Rattle.std.specs.Prelude.{List, true, ℕ, ◌≡◌}
use Rattle.str_base.specs.declared.names.NodeId.{NodeId}
use Rattle.str_base.specs.declared.names.PartId.{PartId}
use Rattle.str_base.specs.declared.names.TxId.{TxId}
use Rattle.str_base.specs.declared.names.Version.{Version}
use Rattle.str_model.specs.declared.messages.Waiter.{Waiter}
use Rattle.version_chain.specs.ChainLists.{Apart, Each, IsOrdered, is_among}

-- the pairs that were decided, and how many more are taken without memory
pub record DonePairs : Type 0 where
  pub pairs : List (TxId × PartId)
  pub spare : ℕ

-- those who wait, and how many more are taken without memory
pub record ParkedList : Type 0 where
  pub waiters : List Waiter
  pub spare : ℕ

-- a node, the partitions that it hosts, its versions in them, the numbers of the keys that may have more than one version, and how many more
-- versions are taken without memory
pub record StoreList : Type 0 where
  pub node : NodeId
  pub hosted : List PartId
  pub versions : List Version
  pub crowd : List ℕ
  pub spare : ℕ

-- the version lies in one of these partitions
abbrev pub LiesIn : List PartId → Version → Type 0
LiesIn hosted v = is_among hosted v.part ≡ true

-- what a store keeps: its versions are in order, and lie in partitions that its node hosts
abbrev pub IsStore : StoreList → Type 0
IsStore s = IsOrdered s.versions × Each (LiesIn s.hosted) s.versions

-- no version of a cache and one of a store are of the same key by the same transaction
abbrev pub ListsApart : List Version → List Version → Type 0
ListsApart cache store = Each (λ w. Each (Apart w) store) cache

-- the node and its partitions stay
abbrev pub StaysHere : StoreList → StoreList → Type 0
StaysHere old new = (new.node ≡ old.node) × (new.hosted ≡ old.hosted)
