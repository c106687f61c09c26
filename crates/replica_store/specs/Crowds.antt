-- Keys with more than one version, and the list of those that a store goes by.
use Rattle.std.specs.List.{list_any}
use Rattle.std.specs.Prelude.{Bool, List, None, Option, Some, if◌then◌else◌, length, nat_lt, swap_remove, true, ℕ, ◌==◌, ◌≡◌, ◌≤◌}
use Rattle.str_base.specs.declared.names.KeyId.{KeyId}
use Rattle.str_base.specs.declared.names.PartId.{PartId}
use Rattle.str_base.specs.declared.names.Version.{Version}
use Rattle.str_base.specs.Versions.{chain}
use Rattle.version_chain.specs.ChainLists.{ChainList, Each, IsOrdered}
use Rattle.replica_store.specs.StoreLists.{LiesIn}

-- the key has two versions or more
abbrev pub is_crowded : List Version → KeyId → Bool
is_crowded vs k = nat_lt 1 (length (chain k vs))

-- the number of the key is among these
abbrev pub is_noted : List ℕ → KeyId → Bool
is_noted crowd k = list_any (λ n. k.0 == n) crowd

-- what the first list notes, the second notes
abbrev pub NotesAll : List ℕ → List ℕ → Type 0
NotesAll old new = (k : KeyId) → is_noted old k ≡ true → is_noted new k ≡ true

-- the number of each key with two versions or more is in the list
abbrev pub NotesCrowds : List ℕ → List Version → Type 0
NotesCrowds crowd vs = (k : KeyId) → is_crowded vs k ≡ true → is_noted crowd k ≡ true

-- the list after a key at a place left it, unless the key has two versions or more: the last key takes its place
abbrev pub left_by : List Version → List ℕ → ℕ → Option ℕ → List ℕ
left_by vs crowd place None = crowd
left_by vs crowd place (Some n) = if is_crowded vs (record { 0 = n }) then crowd else swap_remove crowd place n

-- what a store keeps: its versions are in order and lie in partitions that its node hosts, crowded keys are noted, and there is the room that is told
pub record AreKept (hosted : List PartId) (chains : ChainList) (crowd : List ℕ) (spare places : ℕ) : Type 0 where
  pub order : IsOrdered chains.versions
  pub hosted_ : Each (LiesIn hosted) chains.versions
  pub noted : NotesCrowds crowd chains.versions
  pub room : spare ≤ chains.spare
  pub crowd_room : spare ≤ places
