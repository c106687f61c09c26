-- The flat list of versions of an arena.
use Rattle.std.specs.Prelude.{Bool, List, None, Option, Some, [], false, if◌then◌else◌, ◌==◌, ℕ, ◌++◌, ◌∷◌, ◌≡◌}
use Rattle.str_base.specs.declared.names.KeyId.{KeyId}
use Rattle.str_base.specs.declared.names.Version.{Version}
use Rattle.link_arena.specs.Arenas.{ArenaView, AreLists, at, key_list}
use Rattle.link_arena.specs.Rows.{IsPlace, first_or, taken}
use Rattle.str_base.specs.Versions.{is_before, settled}
use Rattle.version_chain.specs.ChainLists.{IsOrdered}
use Rattle.version_chain.specs.Walks.{WalkView, with_version}

-- the versions of slots, in their order
abbrev pub picked : (ℕ → Option Version) → List ℕ → List Version
picked f [] = []
picked f (s ∷ ss) = with_version (f s) (picked f ss)

-- the versions of lists, one after the other
abbrev pub flat_of : (ℕ → Option Version) → List (KeyId × List ℕ) → List Version
flat_of f [] = []
flat_of f (p ∷ ps) = picked f p.1 ++ flat_of f ps

-- the versions of all keys
abbrev pub flat : ArenaView → List Version
flat a = flat_of (at a) a.by_key

-- the list of each key is in order
abbrev pub InOrder : ArenaView → Type 0
InOrder a = (k : KeyId) → IsOrdered (picked (at a) (key_list a k))

-- what holds of the arena of chains
pub record IsChains (a : ArenaView) : Type 0 where
  pub lists : AreLists a
  pub order : InOrder a

-- the slots after one, or all
abbrev pub beyond : Option ℕ → List ℕ → List ℕ
beyond None ss = ss
beyond (Some s) [] = []
beyond (Some s) (u ∷ us) = if s == u then us else beyond (Some s) us

-- the slots up to one, or none
abbrev pub up_to : Option ℕ → List ℕ → List ℕ
up_to None ss = []
up_to (Some s) [] = []
up_to (Some s) (u ∷ us) = if s == u then u ∷ [] else u ∷ up_to (Some s) us

-- the slots from one on, or none
abbrev pub from_slot : Option ℕ → List ℕ → List ℕ
from_slot None ss = []
from_slot (Some s) [] = []
from_slot (Some s) (u ∷ us) = if s == u then u ∷ us else from_slot (Some s) us

-- the version stands before that of a slot
abbrev pub goes_before : Version → Option Version → Bool
goes_before v None = false
goes_before v (Some w) = is_before v w

-- the first slot of a list before whose version a version stands
abbrev pub spot : (ℕ → Option Version) → Version → List ℕ → Option ℕ
spot f v [] = None
spot f v (u ∷ us) = if goes_before v (f u) then Some u else spot f v us

-- the first of the other slots of its key before whose version that of a slot is to stand, as its commit leaves it
abbrev pub settled_spot : ArenaView → ℕ → ℕ → Version → Option ℕ
settled_spot a s fc v = spot (at a) (settled fc v) (taken s (key_list a v.key))

-- a walk over the slots of a key that stands after this slot
abbrev pub walk_view : ArenaView → KeyId → Option ℕ → WalkView
walk_view a k p = record { older = picked (at a) (up_to p (key_list a k)); newer = picked (at a) (beyond p (key_list a k)) }

-- the walk stands after a slot of the key, or before all, and its next slot follows
pub record IsWalk (a : ArenaView) (k : KeyId) (p next : Option ℕ) : Type 0 where
  pub chains : IsChains a
  pub place : IsPlace p (key_list a k)
  pub follows : next ≡ first_or None (beyond p (key_list a k))
