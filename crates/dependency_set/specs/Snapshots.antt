-- Snapshots: a timestamp, the greatest final timestamp that was read, and the undecided transactions that were read from.
use Rattle.std.specs.List.{AllByRecursion, list_all}
use Rattle.std.specs.Prelude.{Bool, List, None, Option, Some, [], if◌then◌else◌, length, max, nat_le, nat_lt, ℕ, ⊤, ◌<◌, ◌==◌, ◌∷◌, ◌≤◌}
use Rattle.dependency_set.specs.declared.names.Dep.{Dep}
use Rattle.str_base.specs.declared.limits.TheConstants.{DEPENDENCIES}
use Rattle.str_base.specs.Versions.{stamp}

-- a snapshot
pub record Snap : Type 0 where
  pub rs : ℕ
  pub ffc : ℕ
  pub deps : List Dep

-- each number is below those after it
abbrev pub IsRising : List Dep → Type 0
IsRising [] = ⊤
IsRising (d ∷ ds) = AllByRecursion (λ e. d.seq < e.seq) ds × IsRising ds

-- what the type of a snapshot keeps of its dependencies
pub record IsSet (deps : List Dep) : Type 0 where
  pub rising : IsRising deps
  pub few : length deps ≤ DEPENDENCIES

-- into a list that rises by seq
abbrev pub insert_dep : Dep → List Dep → List Dep
insert_dep d [] = d ∷ []
insert_dep d (e ∷ es) =
    if nat_lt d.seq e.seq then d ∷ e ∷ es else (if d.seq == e.seq then e ∷ es else e ∷ insert_dep d es)

-- both lists in one that rises by seq
abbrev pub union : List Dep → List Dep → List Dep
union [] es = es
union (d ∷ ds) es = insert_dep d (union ds es)

-- what was read as final is taken in
abbrev pub accept_final : Snap → ℕ → Snap
accept_final snap fc = record snap { ffc = max snap.ffc fc }

-- an undecided transaction is taken in, with its own snapshot
abbrev pub accept_local : Snap → ℕ → Snap → Snap
accept_local snap seq of =
    record snap { ffc = max snap.ffc of.ffc; deps = insert_dep (record { seq = seq; rs = stamp of.rs }) (union of.deps snap.deps) }

-- the gate: no undecided dependency began its reading below what was read as final
abbrev pub holds : Snap → Bool
holds snap = list_all (λ d. nat_le snap.ffc d.rs.0) snap.deps

-- of two dependencies the one with the lesser RS, then the lesser seq
abbrev pub older : Dep → Option Dep → Dep
older d None = d
older d (Some e) = if nat_lt e.rs.0 d.rs.0 then e else d

-- the dependency with the least RS, then the least seq
abbrev pub oldest : List Dep → Option Dep
oldest [] = None
oldest (d ∷ ds) = Some (older d (oldest ds))
