-- What became of the dependencies of a transaction, and what that comes to.
use Rattle.std.specs.List.{position_or_len}
use Rattle.std.specs.Prelude.{Bool, List, None, Option, Some, drop, false, filter, find, map, max, nat_lt, slice_get, take, true, ℕ, ◌++◌, ◌-◌, ◌==◌, ◌≡◌}
use Rattle.cascade_abort.specs.declared.fates.DepTurn.{DepTurn}
use Rattle.cascade_abort.specs.declared.fates.DepTurn.TheVariants.{Keep, Late, Lost}
use Rattle.cascade_abort.specs.declared.fates.Fate.{Fate}
use Rattle.cascade_abort.specs.declared.fates.FateKind.{FateKind}
use Rattle.cascade_abort.specs.declared.fates.FateKind.TheVariants.{Aborted, Committed, Undecided}
use Rattle.dependency_set.specs.declared.names.Dep.{Dep}
use Rattle.dependency_set.specs.Snapshots.{Snap}
use Rattle.str_base.specs.Versions.{stamp}
use Rattle.str_model.specs.Turns.{CommittedAt, Gone, Open, greatest, own_fate}
use Rattle.str_model.specs.Turns
use Rattle.str_model.specs.Views.{Own}

-- ---- fates

-- a fate, in the words of the model
abbrev pub kind_of : FateKind → Turns.Fate
kind_of Undecided = Open
kind_of (Committed fc) = CommittedAt fc.0
kind_of Aborted = Gone

-- the fate that was found; what is not named is undecided
abbrev pub found_fate : Option Fate → Turns.Fate
found_fate None = Open
found_fate (Some f) = kind_of f.kind

-- what became of the transaction of this number
abbrev pub fate_of : List Fate → ℕ → Turns.Fate
fate_of fates q = found_fate (find (λ f. f.seq == q) fates)

-- what the fates say of each dependency is what became of that own transaction
abbrev pub Names : List Own → List Dep → List Fate → Type 0
Names own deps fates =
    (i : ℕ) (d : Dep) → slice_get deps i ≡ Some d → fate_of fates d.seq ≡ own_fate (slice_get own (d.seq - 1))

-- ---- the dependency that decides

-- one with this fate decides over what reads at rs: it aborted, or committed above
abbrev pub decides : ℕ → Turns.Fate → Bool
decides rs Open = false
decides rs Gone = true
decides rs (CommittedAt fc) = nat_lt rs fc

-- the dependency decides
abbrev pub decides_at : List Fate → ℕ → Dep → Bool
decides_at fates rs d = decides rs (fate_of fates d.seq)

-- the first that decides has this number and this fate
abbrev pub Decider : List Fate → Snap → ℕ → Turns.Fate → Type 0
Decider fates snap q fate =
    (d : Dep) × (find (decides_at fates snap.rs) snap.deps ≡ Some d) × (d.seq ≡ q) × (fate_of fates d.seq ≡ fate)

-- none decides
abbrev pub NoDecider : List Fate → Snap → Type 0
NoDecider fates snap = find (decides_at fates snap.rs) snap.deps ≡ None

-- ---- what is left of the snapshot

-- the final timestamp of one that committed, 0 of each other
abbrev pub fc_or_zero : Turns.Fate → ℕ
fc_or_zero Open = 0
fc_or_zero Gone = 0
fc_or_zero (CommittedAt fc) = fc

-- the same of a dependency
abbrev pub fc_at : List Fate → Dep → ℕ
fc_at fates d = fc_or_zero (fate_of fates d.seq)

-- one that committed leaves
abbrev pub stays : Turns.Fate → Bool
stays Open = true
stays Gone = true
stays (CommittedAt fc) = false

-- the same of a dependency
abbrev pub stays_at : List Fate → Dep → Bool
stays_at fates d = stays (fate_of fates d.seq)

-- the number of dependencies before the first that decides
abbrev pub looked : List Fate → Snap → ℕ
looked fates snap = position_or_len (decides_at fates snap.rs) snap.deps

-- those before the first that decides leave where they committed, and raise the greatest final timestamp; all else stays
abbrev pub left : List Fate → Snap → Snap
left fates snap =
    let n = looked fates snap in
    record snap {
      ffc = max snap.ffc (greatest (map (fc_at fates) (take n snap.deps)));
      deps = filter (stays_at fates) (take n snap.deps) ++ drop n snap.deps;
    }

-- ---- turns

-- what one that decides comes to
abbrev pub told_by : ℕ → Turns.Fate → DepTurn
told_by q Open = Keep
told_by q Gone = Lost q
told_by q (CommittedAt fc) = Late q (stamp fc)

-- the same, where there is one
abbrev pub told : List Fate → Option Dep → DepTurn
told fates None = Keep
told fates (Some d) = told_by d.seq (fate_of fates d.seq)

-- a turn in the words of the model, with the snapshot that is left
abbrev pub turn_of : DepTurn → Snap → Turns.DepTurn
turn_of Keep snap = Turns.Keep snap.ffc snap.deps
turn_of (Lost q) snap = Turns.Lost q snap.ffc snap.deps
turn_of (Late q fc) snap = Turns.Late q fc.0 snap.ffc snap.deps
