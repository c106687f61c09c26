-- The versions of some keys without those that are hidden at a mark.
use Rattle.std.specs.Prelude.{Bool, List, None, Option, Some, [], if◌then◌else◌, slice_get, ℕ, ◌&&◌, ◌<◌, ◌∷◌, ◌≡◌}
use Rattle.str_base.specs.declared.names.KeyId.{KeyId}
use Rattle.str_base.specs.declared.names.Version.{Version}
use Rattle.str_base.specs.Versions.{same_key}
use Rattle.str_model.specs.Pruning.{hides}
use Rattle.replica_store.specs.Crowds.{is_noted}

-- the list without what is hidden at the mark of the keys that pass a test
abbrev pub pruned_where : (KeyId → Bool) → ℕ → List Version → List Version
pruned_where test g [] = []
pruned_where test g (v ∷ vs) = if test v.key && hides g v vs then pruned_where test g vs else v ∷ pruned_where test g vs

-- the list without what is hidden of one key
abbrev pub pruned_key : KeyId → ℕ → List Version → List Version
pruned_key k g vs = pruned_where (λ m. same_key m k) g vs

-- the list without what is hidden of the keys whose numbers are among these
abbrev pub pruned_among : List ℕ → ℕ → List Version → List Version
pruned_among crowd g vs = pruned_where (is_noted crowd) g vs

-- the list without what is hidden of the key of a number, if there is one
abbrev pub pruned_at : Option ℕ → ℕ → List Version → List Version
pruned_at None g vs = vs
pruned_at (Some n) g vs = pruned_key (record { 0 = n }) g vs

-- the lists have the same below a place
abbrev pub AgreeBelow : ℕ → List ℕ → List ℕ → Type 0
AgreeBelow place xs ys = (i : ℕ) → i < place → slice_get xs i ≡ slice_get ys i

-- the first version that is hidden at the mark
abbrev pub first_hidden : ℕ → List Version → Option Version
first_hidden g [] = None
first_hidden g (v ∷ vs) = if hides g v vs then Some v else first_hidden g vs

-- the key of the version is below a number
abbrev pub IsKeyBelow : ℕ → Version → Type 0
IsKeyBelow n v = v.key.0 < n
