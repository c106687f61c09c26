-- What a view that shows the store becomes where versions are placed.
use Rattle.std.proofs.Common.{List, [], ap, drop, eq-eqb, false, length, map, sym, true, ℕ, ◌∙◌, ◌∷◌, ◌≡◌, ◌≤◌}
use Rattle.std.proofs.lemmas.List.{drop_all}
use Rattle.prepare_master.specs.MasterTurns.{ShowsReplica}
use Rattle.prepare_master.proofs.Showing.{IsUnwritten, first_key, other_keys, unwritten}
use Rattle.replica_apply.specs.Changes.{with_versions}
use Rattle.replica_store.proofs.MergedChanges.{insert_all_in_store}
use Rattle.replica_store.proofs.Merging.{ListsApart}
use Rattle.str_base.specs.declared.names.Version.{Version}
use Rattle.str_base.specs.declared.names.Write.{Write}
use Rattle.str_base.specs.Versions.{insert_all, same_key}
use Rattle.str_model.specs.declared.messages.Arrived.{Arrived}
use Rattle.str_model.specs.Acts.{placed, pre_version}
use Rattle.str_model.specs.Views.{Doing}
use Rattle.version_chain.proofs.Each.{each_so}
use Rattle.version_chain.specs.ChainLists.{Apart, Each, merged}

-- a version of another key is apart
other_key : (a : Arrived) (ts : ℕ) (w : Write) (v : Version) → same_key v.key w.key ≡ false → Apart (pre_version a ts w) v
other_key a ts w v h k n q = let f : same_key v.key w.key ≡ true = eq-eqb v.key.0 w.key.0 (sym k) in cc (h, f)

-- new versions are apart from those whose keys are not written
placed_apart : (a : Arrived) (ts : ℕ) (ws : List Write) (cache : List Version) → Each (IsUnwritten ws) cache → ListsApart (map (pre_version a ts) ws) cache
placed_apart a ts [] cache e = tt
placed_apart a ts (w ∷ ws) cache e =
    (each_so (λ v. same_key v.key w.key ≡ false) (Apart (pre_version a ts w)) cache (λ v h. other_key a ts w v h) (first_key w ws cache e), placed_apart a ts ws cache (other_keys w ws cache e))

-- all were placed
pub all_placed : (f : Write → Version) (items : List Write) (i : ℕ) (us vs : List Version) → length items ≤ i → insert_all (map f (drop i items)) us ≡ vs → us ≡ vs
all_placed f items i us vs l e = ap (λ ws. insert_all (map f ws) us) (sym (drop_all i items l)) ∙ e

pub placed_shown : (a : Arrived) (ts : ℕ) (d : Doing) (vs us : List Version) (marks : List ℕ) (s : ShowsReplica d.view a vs marks) → us ≡ insert_all (map (pre_version a ts) a.writes) vs
    → (placed a ts d).view ≡ with_versions d.view (merged s.cache us)
placed_shown a ts d vs us marks s q =
    ap (λ xs. with_versions d.view xs)
    (ap (λ xs. insert_all (map (pre_version a ts) a.writes) xs) s.versions
    ∙ insert_all_in_store (map (pre_version a ts) a.writes) s.cache vs (placed_apart a ts a.writes s.cache (unwritten d.view a vs marks s)) ∙ ap (λ xs. merged s.cache xs) (sym q))
