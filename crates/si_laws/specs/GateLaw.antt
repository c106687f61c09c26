-- The gate law of a run: dependencies first, writers first, cascades in one event.
use Rattle.std.specs.Prelude.{List, Option, Some, length, slice_get, ℕ, ◌+◌, ◌≡◌, ◌≤◌}
use Rattle.str_base.specs.declared.names.TxId.{TxId}
use Rattle.str_scene.specs.Scenes.{nth}
use Rattle.si_laws.specs.Standing.{DependsOn, IsAborted, IsCommitted, IsOpen, ReadFrom}
use Rattle.str_model.specs.Traces.{Earlier, Happening, MomentAt}
use Rattle.str_model.specs.Views.{Committed, Doing, Own}

-- at this moment the transaction of node n stands like this
abbrev pub StandsAt : List Happening → ℕ → ℕ → TxId → Own → Type 0
StandsAt tr j m t x = (d : Doing) × MomentAt tr j m t.node d × (nth d.view.own t.seq ≡ Some x)

-- it is committed, with a final timestamp or none
abbrev pub HasCommitted : Own → Type 0
HasCommitted x = (lc : Option ℕ) × (fc : Option ℕ) × (x.phase ≡ Committed lc fc)

-- at an earlier moment the transaction was committed at or below r
abbrev pub CommittedBefore : List Happening → ℕ → ℕ → TxId → ℕ → Type 0
CommittedBefore tr j m u r = (j' : ℕ) × (m' : ℕ) × (fc : ℕ) × (y : Own) × Earlier j' m' j m × StandsAt tr j' m' u y × IsCommitted y fc × (fc ≤ r)

-- each that was in the dependency set at some moment committed first
abbrev pub DependenciesFirst : List Happening → Type 0
DependenciesFirst tr =
    (j m j' m' : ℕ) (t u : TxId) (x z : Own) → StandsAt tr j m t x → HasCommitted x → StandsAt tr j' m' t z → DependsOn t.node z u
    → CommittedBefore tr j m u x.snap.rs

-- each writer that was read from at some moment committed first, maybe at another node
abbrev pub WritersFirst : List Happening → Type 0
WritersFirst tr =
    (j m j' m' : ℕ) (t u : TxId) (x z : Own) → StandsAt tr j m t x → HasCommitted x → StandsAt tr j' m' t z → ReadFrom z u
    → CommittedBefore tr j m u x.snap.rs

-- the last moment of an event
abbrev pub IsLast : List Happening → ℕ → ℕ → Type 0
IsLast tr j m = (h : Happening) × (slice_get tr j ≡ Some h) × (length h.moments ≡ m + 1)

-- in the event in which a transaction aborts, all that depend on it abort
abbrev pub CascadesInOneEvent : List Happening → Type 0
CascadesInOneEvent tr =
    (j m l : ℕ) (t u : TxId) (x z : Own) → StandsAt tr j m t x → IsOpen x → DependsOn t.node x u → IsLast tr j l → StandsAt tr j l u z → IsAborted z
    → (y : Own) × StandsAt tr j l t y × IsAborted y

-- the gate law
pub record GateLaw (tr : List Happening) : Type 0 where
  pub dependencies : DependenciesFirst tr
  pub writers : WritersFirst tr
  pub cascades : CascadesInOneEvent tr
