-- The law Dependencies.
use Rattle.std.specs.Prelude.{Some, false, slice_get, ℕ, ◌+◌, ◌<◌, ◌≡◌, ◌≤◌}
use Rattle.dependency_set.specs.declared.names.Dep.{Dep}
use Rattle.str_model.specs.Owned.{Always, OfEachState, Owns}
use Rattle.si_laws.specs.SpeculativeIsolation.{IsLive, OfEachOpen}
use Rattle.str_base.specs.Versions.{stamp}
use Rattle.str_model.specs.Views.{Own, View, is_decided, lc_of}

-- the dependency is an undecided transaction of this node with a local commit timestamp at or below the snapshot
pub record StandsFor (v : View) (x : Own) (dep : Dep) : Type 0 where
  pub place : ℕ
  pub owner : Own
  pub seq : dep.seq ≡ place + 1
  pub owns : Owns v place owner
  pub rs : stamp owner.snap.rs ≡ dep.rs
  pub open_ : is_decided owner.phase ≡ false
  pub lc : ℕ
  pub is_lc : lc_of owner.phase ≡ Some lc
  pub above : owner.snap.rs < lc
  pub below : lc ≤ x.snap.rs

-- after each event each dependency of an undecided transaction stands
abbrev pub DependenciesStand : Type 0
DependenciesStand =
    Always (λ scene events n v. (i k : ℕ) (x : Own) (dep : Dep) → Owns v i x → is_decided x.phase ≡ false → slice_get x.snap.deps k ≡ Some dep → StandsFor v x dep)

-- no writer that was read from is aborted, and each dependency is live
abbrev pub DependenciesLive : Type 0
DependenciesLive = OfEachState (λ scene w. OfEachOpen w (λ n v x. IsLive w n x))
