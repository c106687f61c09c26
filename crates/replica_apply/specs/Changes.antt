-- What changes at a replica, and what it needs.
use Rattle.std.specs.List.{list_any}
use Rattle.std.specs.Prelude.{Bool, false, List, [], ℕ, ◌++◌, ◌<◌, ◌∷◌, ◌≡◌, length, slice_get, Some}
use Rattle.prepare_master.specs.MasterTurns.{ShowsReplica}
use Rattle.replica_store.specs.StoreLists.{DonePairs, StaysHere, StoreList}
use Rattle.str_base.specs.declared.names.PartId.{PartId}
use Rattle.str_base.specs.declared.names.TxId.{TxId}
use Rattle.str_base.specs.declared.names.Version.{Version}
use Rattle.str_base.specs.Versions.{insert_version, of_pair}
use Rattle.str_model.specs.declared.names.KeyMark.{KeyMark}
use Rattle.str_model.specs.declared.messages.Arrived.{Arrived}
use Rattle.str_model.specs.declared.messages.Waiter.{Waiter}
use Rattle.str_model.specs.Acts.{abort_came, commit_came, placed}
use Rattle.str_model.specs.Proposals.{is_pair}
use Rattle.str_model.specs.Steps.{drop_held}
use Rattle.str_model.specs.Views.{Doing, View}
use Rattle.version_chain.specs.ChainLists.{Apart, Each, IsOrdered, merged}

-- each can be inserted after those before it: no version of its key by its transaction stands there
abbrev pub CanInsert : List Version → List Version → Type 0
CanInsert [] vs = Unit {0}
CanInsert (w ∷ ws) vs = Each (Apart w) vs × CanInsert ws (insert_version w vs)

-- each key has a mark
abbrev pub AreMarked : List KeyMark → List ℕ → Type 0
AreMarked ms marks = (i : ℕ) (m : KeyMark) → slice_get ms i ≡ Some m → m.key.0 < length marks

-- the pair is in the list
abbrev pub was_done : TxId → PartId → DonePairs → Bool
was_done tx part done = list_any (is_pair tx part) done.pairs

-- the pair was added to the list
abbrev pub IsAdded : TxId → PartId → DonePairs → DonePairs → Type 0
IsAdded tx part old new = new.pairs ≡ old.pairs ++ (tx, part) ∷ []

-- these are the versions now, and the node and its partitions stay
abbrev pub Becomes : StoreList → StoreList → List Version → Type 0
Becomes old new vs = (new.versions ≡ vs) × StaysHere old new

-- a view of which these versions are a part: the others are in order, apart from these, and none of this pair
pub record Rests (tx : TxId) (part : PartId) (view : View) (vs : List Version) : Type 0 where
  pub cache : List Version
  pub versions : view.versions ≡ merged cache vs
  pub ordered : IsOrdered cache
  pub apart : Each (λ w. Each (Apart w) vs) cache
  pub other : Each (λ v. of_pair tx part v ≡ false) cache

-- the view with these versions beside the others, these marks, waiters and pairs
abbrev pub with_parts : View → List Version → List ℕ → List Waiter → List (TxId × PartId) → View
with_parts view vs marks ws done = record view { versions = vs; marks = marks; waiters = ws; done = done }

-- the view with these versions
abbrev pub with_versions : View → List Version → View
with_versions view vs = record view { versions = vs }

-- ---- in each view

-- in each view of which the old versions are a part, what is placed turns them into the new ones
abbrev pub PlacesInViews : Arrived → ℕ → List Version → List Version → Type 0
PlacesInViews a ts old new = (d : Doing) (marks : List ℕ) (s : ShowsReplica d.view a old marks) → (placed a ts d).view ≡ with_versions d.view (merged s.cache new)

-- in each view of which the old versions are a part, with the old marks and pairs, the commit brings the new ones
abbrev pub CommitsInViews : TxId → PartId → ℕ → List KeyMark → List Version → List Version → List ℕ → List ℕ → DonePairs → DonePairs → Type 0
CommitsInViews tx part fc given old new marks marks' done done' =
    (d : Doing) (r : Rests tx part d.view old) → d.view.marks ≡ marks → d.view.done ≡ done.pairs
    → (commit_came tx part fc given d).view ≡ with_parts d.view (merged r.cache new) marks' d.view.waiters done'.pairs

-- in each view of which the old versions are a part, with the old pairs and waiters, the abort brings the new ones
abbrev pub AbortsInViews : TxId → PartId → List Version → List Version → DonePairs → DonePairs → List Waiter → List Waiter → Type 0
AbortsInViews tx part old new done done' waiters waiters' =
    (d : Doing) (r : Rests tx part d.view old) → d.view.done ≡ done.pairs → d.view.waiters ≡ waiters
    → (abort_came tx part (drop_held tx part d.view.waiters) d).view ≡ with_parts d.view (merged r.cache new) d.view.marks waiters' done'.pairs
