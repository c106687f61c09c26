-- Pruning the store comes to pruning the list of both stores, since no cached version is Final.
use Rattle.str_model.proofs.Pruning.PruneMaster.{local_open}
use Rattle.prepare_master.proofs.Showing.{any_insert}
use Rattle.std.proofs.Common.{Bool, List, [], ap, false, if◌then◌else◌, inl, inr, length, ltb-true, arith, nat_le, not, refl, sym, true, ℕ, ◌&&◌, ◌∙◌, ◌∷◌, ◌≡◌}
use Rattle.std.specs.List.{list_any}
use Rattle.cache_partition.specs.CacheLists.{CacheList, IsCached}
use Rattle.chain_prune.specs.Hidden.{IsKeyBelow}
use Rattle.node_core.proofs.Parts.Showing.{Stored, of_cache, of_store}
use Rattle.replica_store.specs.StoreLists.{StoreList}
use Rattle.str_model.specs.Views.{View}
use Rattle.str_scene.specs.Scenes.{Here}
use Rattle.str_base.proofs.Order.{before_mix, before_not, insert_after, insert_first}
use Rattle.str_base.specs.declared.names.NodeId.{NodeId}
use Rattle.str_base.specs.declared.names.PartId.{PartId}
use Rattle.str_base.specs.declared.names.Version.{Version}
use Rattle.str_base.specs.Members.{In}
use Rattle.str_base.specs.Versions.{insert_version, is_before, is_undecided, same_key}
use Rattle.str_model.proofs.Pruning.PruneOrder.{InOrder, in_pruned, order_insert}
use Rattle.str_model.specs.Pruning.{covers, hides, pruned_versions}
use Rattle.version_chain.proofs.Each.{each_so}
use Rattle.version_chain.proofs.Telling.{each_from, each_in}
use Rattle.version_chain.specs.ChainLists.{Each, IsOrdered, Precedes, merged}

-- an order without equals is an order
pub in_order : (vs : List Version) → IsOrdered vs → InOrder vs
in_order [] o = tt
in_order (v ∷ vs) o = (λ w h. before_not v w (each_in (Precedes v) vs w o.0 h).0, in_order vs o.1)

keeps : (g : ℕ) (v : Version) (vs : List Version) → hides g v vs ≡ false → pruned_versions g (v ∷ vs) ≡ v ∷ pruned_versions g vs
keeps g v vs e = ap (λ (b : Bool). if b then pruned_versions g vs else v ∷ pruned_versions g vs) e

loses : (g : ℕ) (v : Version) (vs : List Version) → hides g v vs ≡ true → pruned_versions g (v ∷ vs) ≡ pruned_versions g vs
loses g v vs e = ap (λ (b : Bool). if b then pruned_versions g vs else v ∷ pruned_versions g vs) e

-- an undecided version may come before or after the pruning
pub pruned_open : (g : ℕ) (v : Version) (vs : List Version) → is_undecided v.kind ≡ true → InOrder vs → pruned_versions g (insert_version v vs) ≡ insert_version v (pruned_versions g vs)
pruned_open g v [] u o = keeps g v [] (ap (λ b. not b && false) u)
pruned_open g v (w ∷ ws) u o = by_before (is_before v w) refl (hides g w ws) refl (pruned_open g v ws u o.1)
  where
    not_hidden : hides g v (w ∷ ws) ≡ false
    not_hidden = ap (λ b. not b && list_any (covers g v.key) (w ∷ ws)) u

    after : is_before v w ≡ true → (x : Version) → In x (w ∷ ws) → is_before v x ≡ true
    after b x (inl q) = ap (λ z. is_before v z) (sym q) ∙ b
    after b x (inr k) = before_mix v w x b (o.0 x k)

    same_hides : hides g w (insert_version v ws) ≡ hides g w ws
    same_hides = ap (λ b. not (is_undecided w.kind) && b) (any_insert (covers g w.key) v ws (ap (λ b. not b && (same_key v.key w.key && nat_le v.ts.0 g)) u))

    by_before : (b : Bool) → is_before v w ≡ b → (c : Bool) → hides g w ws ≡ c → pruned_versions g (insert_version v ws) ≡ insert_version v (pruned_versions g ws)
        → pruned_versions g (if b then v ∷ w ∷ ws else w ∷ insert_version v ws) ≡ insert_version v (pruned_versions g (w ∷ ws))
    by_before true p c k r = keeps g v (w ∷ ws) not_hidden ∙ sym (insert_first v (pruned_versions g (w ∷ ws)) (λ x h. after p x (in_pruned g (w ∷ ws) x h)))
    by_before false p true k r = loses g w (insert_version v ws) (same_hides ∙ k) ∙ (r ∙ sym (ap (insert_version v) (loses g w ws k)))
    by_before false p false k r =
        keeps g w (insert_version v ws) (same_hides ∙ k) ∙ (ap (λ xs. w ∷ xs) r ∙ (sym (insert_after v w (pruned_versions g ws) p) ∙ sym (ap (insert_version v) (keeps g w ws k))))

merged_open : (g : ℕ) (cache store : List Version) → Each (λ v. is_undecided v.kind ≡ true) cache → InOrder store → pruned_versions g (merged cache store) ≡ merged cache (pruned_versions g store)
merged_open g [] store u o = refl
merged_open g (v ∷ cache) store u o = merged_open g cache (insert_version v store) u.1 (order_insert v store o) ∙ ap (λ xs. merged cache xs) (pruned_open g v store u.0 o)

pub merged_pruned : (g : ℕ) (node : NodeId) (hosted : List PartId) (cache store : List Version) → Each (IsCached node hosted) cache → IsOrdered store
    → pruned_versions g (merged cache store) ≡ merged cache (pruned_versions g store)
merged_pruned g node hosted cache store c o = merged_open g cache store (each_so (IsCached node hosted) (λ v. is_undecided v.kind ≡ true) cache (λ v h. local_open v.kind h.0) c) (in_order store o)

-- each stored version is of a key of the scene
pub key_within : (here : Here) (v : View) (store : StoreList) (cache : CacheList) → Stored here v store cache → (n : ℕ) → n ≡ length here.scene.keys.names → Each (IsKeyBelow n) store.versions
key_within here v store cache s n e =
    each_from (IsKeyBelow n) store.versions (λ u j.
    let k = ltb-true u.key.0 (length here.scene.keys.names) (s.facts.versions u (of_store here v store cache s u j).0).key in omega (arith, k, e))

pub cached_within : (here : Here) (v : View) (store : StoreList) (cache : CacheList) → Stored here v store cache → (n : ℕ) → n ≡ length here.scene.keys.names → Each (IsKeyBelow n) cache.versions
cached_within here v store cache s n e =
    each_from (IsKeyBelow n) cache.versions (λ u j.
    let k = ltb-true u.key.0 (length here.scene.keys.names) (s.facts.versions u (of_cache here v store cache s u j).0).key in omega (arith, k, e))

-- what is left is in order
pub ordered_pruned : (g : ℕ) (vs : List Version) → IsOrdered vs → IsOrdered (pruned_versions g vs)
ordered_pruned g [] o = tt
ordered_pruned g (v ∷ vs) o = by_hidden (hides g v vs) (ordered_pruned g vs o.1)
  where
    by_hidden : (b : Bool) → IsOrdered (pruned_versions g vs) → IsOrdered (if b then pruned_versions g vs else v ∷ pruned_versions g vs)
    by_hidden true r = r
    by_hidden false r = (each_from (Precedes v) (pruned_versions g vs) (λ w h. each_in (Precedes v) vs w o.0 (in_pruned g vs w h)), r)
