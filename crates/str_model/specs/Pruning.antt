-- Pruning: the low mark of a view, and the view without the versions that no snapshot at or above a mark can see.
use Rattle.std.specs.List.{list_any}
use Rattle.std.specs.Prelude.{Bool, List, [], if◌then◌else◌, min, nat_le, not, ℕ, ◌&&◌, ◌∷◌}
use Rattle.str_base.specs.declared.names.KeyId.{KeyId}
use Rattle.str_base.specs.declared.names.Version.{Version}
use Rattle.str_base.specs.Versions.{is_undecided, same_key}
use Rattle.str_model.specs.Views.{Own, View, is_decided}

-- the least of a number and the snapshots of the undecided ones
abbrev pub low_from : ℕ → List Own → ℕ
low_from f [] = f
low_from f (x ∷ xs) = if is_decided x.phase then low_from f xs else min x.snap.rs (low_from f xs)

-- the low mark: the least of the floor and the snapshots of all own undecided transactions
abbrev pub low : View → ℕ
low view = low_from view.floor view.own

-- a Final version of the key at or below the mark
abbrev pub covers : ℕ → KeyId → Version → Bool
covers g k w = not (is_undecided w.kind) && (same_key w.key k && nat_le w.ts.0 g)

-- the version is Final, and a later one of its key in the list is Final and at or below the mark
abbrev pub hides : ℕ → Version → List Version → Bool
hides g v vs = not (is_undecided v.kind) && list_any (covers g v.key) vs

-- the list without what is hidden at the mark
abbrev pub pruned_versions : ℕ → List Version → List Version
pruned_versions g [] = []
pruned_versions g (v ∷ vs) = if hides g v vs then pruned_versions g vs else v ∷ pruned_versions g vs

-- the view without what is hidden at the mark
abbrev pub pruned : ℕ → View → View
pruned g view = record view { versions = pruned_versions g view.versions }
