-- What the snapshots at or above a mark see of two lists of versions.
use Rattle.std.specs.Prelude.{Bool, List, filter, nat_lt, ℕ, ◌≡◌, ◌≤◌}
use Rattle.str_base.specs.declared.names.KeyId.{KeyId}
use Rattle.str_base.specs.declared.names.Version.{Version}
use Rattle.str_base.specs.Versions.{newest, visible}
use Rattle.version_chain.specs.ChainLists.{last_held}

-- the versions above a timestamp
abbrev pub above : ℕ → List Version → List Version
above r vs = filter (λ v. nat_lt r v.ts.0) vs

-- each snapshot at or above the mark sees the same, and the versions above it are the same
pub record SeenAlike (g : ℕ) (old new : List Version) : Type 0 where
  pub visible : (k : KeyId) (r : ℕ) → g ≤ r → visible new k r ≡ visible old k r
  pub newest : (k : KeyId) → newest new k ≡ newest old k
  pub undecided : (b : Bool) (k : KeyId) (r : ℕ) → last_held b new k r ≡ last_held b old k r
  pub above : (r : ℕ) → g ≤ r → above r new ≡ above r old
