-- The versions that a view shows are those of the store which holds the key.
use Rattle.std.proofs.Common.{Bool, List, None, Option, Some, [], ap, false, filter, if◌then◌else◌, nat_le, refl, sym, true, ℕ, ◌&&◌, ◌∙◌, ◌∷◌, ◌≡◌}
use Rattle.std.specs.List.{last_or}
use Rattle.cache_partition.specs.CacheLists.{CacheList, IsCache, IsCached}
use Rattle.dependency_set.specs.declared.snaps.OwnSnap.{OwnSnap}
use Rattle.partition_map.specs.Maps as maps
use Rattle.replica_store.proofs.MergedReads.{IsOfKey, chain_in_cache, chain_in_store, newest_in_cache, newest_in_store, pre_in_cache, pre_in_store, visible_in_cache, visible_in_store}
use Rattle.replica_store.proofs.Merging.{OfKeys, merged_unseen}
use Rattle.replica_store.specs.StoreLists.{IsStore, LiesIn, StoreList}
use Rattle.snapshot_read.specs.Shown.{IsPlaced, Shows, ShowsHosted, StandAt, of_key}
use Rattle.str_base.proofs.Tests.{and_true_left}
use Rattle.str_base.specs.declared.names.KeyId.{KeyId}
use Rattle.str_base.specs.declared.names.Kind.TheVariants.{Pre}
use Rattle.str_base.specs.declared.names.NodeId.{NodeId}
use Rattle.str_base.specs.declared.names.Version.{Version}
use Rattle.str_base.specs.Versions.{chain, is_pre, is_undecided, last_pre, last_undecided, newest, same_key, visible}
use Rattle.str_model.specs.Turns.{serve_after, serve_turn, serve_visible}
use Rattle.str_model.specs.Views.{View}
use Rattle.str_scene.proofs.Mapped.{hosts-mapped, part-mapped, replicas-mapped}
use Rattle.str_scene.specs.Scenes.{Here, first_or, hosts, hosts_key, map_of, part_of, replicas}
use Rattle.version_chain.proofs.Each.{each_both, each_so}
use Rattle.version_chain.specs.ChainLists.{Each, merged}

module _ (here : Here) (view : View) (node : NodeId) (own : List OwnSnap) (store : StoreList) (cache : CacheList) (map : maps.PartitionMap) (s : Shows here view node own store cache map)
    (at_node : StandAt node map store cache) (is : IsStore store) (ic : IsCache cache) where
  -- the node hosts the key
  abbrev pub hosted : KeyId → Bool
  hosted k = maps.hosts map node (maps.part_of map k)

  store_keys : OfKeys hosted true store.versions
  store_keys =
      each_both (LiesIn store.hosted) (IsPlaced map) (λ v. hosted v.key ≡ true) store.versions (λ v p q. ap (λ m. maps.hosts map node m) (sym q) ∙ sym (at_node.store_hosts v.part) ∙ p) is.1 s.placed.0

  cache_keys : OfKeys hosted false cache.versions
  cache_keys =
      each_both (IsCached cache.node cache.hosted) (IsPlaced map) (λ v. hosted v.key ≡ false) cache.versions (λ v p q. ap (λ m. maps.hosts map node m) (sym q) ∙ sym (at_node.cache_hosts v.part) ∙ p.2) ic.1
      s.placed.1

  -- the last Pre version
  pub pre_seen : (k : KeyId) (r : ℕ) (b : Bool) → hosted k ≡ b → last_pre view.versions k r ≡ last_pre (of_key b store.versions cache.versions) k r
  pre_seen k r true h = ap (λ vs. last_pre vs k r) s.versions ∙ pre_in_store hosted k cache.versions store.versions cache_keys h r
  pre_seen k r false h = ap (λ vs. last_pre vs k r) s.versions ∙ pre_in_cache hosted k cache.versions store.versions ic.0 is.0 cache_keys store_keys h r

  -- the visible version
  pub visible_seen : (k : KeyId) (r : ℕ) (b : Bool) → hosted k ≡ b → visible view.versions k r ≡ visible (of_key b store.versions cache.versions) k r
  visible_seen k r true h = ap (λ vs. visible vs k r) s.versions ∙ visible_in_store hosted k cache.versions store.versions cache_keys h r
  visible_seen k r false h = ap (λ vs. visible vs k r) s.versions ∙ visible_in_cache hosted k cache.versions store.versions ic.0 is.0 cache_keys store_keys h r

  -- all versions
  pub chain_seen : (k : KeyId) (b : Bool) → hosted k ≡ b → chain k view.versions ≡ chain k (of_key b store.versions cache.versions)
  chain_seen k true h = ap (λ vs. chain k vs) s.versions ∙ chain_in_store hosted k cache.versions store.versions cache_keys h
  chain_seen k false h = ap (λ vs. chain k vs) s.versions ∙ chain_in_cache hosted k cache.versions store.versions ic.0 is.0 cache_keys store_keys h

  -- the greatest timestamp
  pub newest_seen : (k : KeyId) (b : Bool) → hosted k ≡ b → newest view.versions k ≡ newest (of_key b store.versions cache.versions) k
  newest_seen k true h = ap (λ vs. newest vs k) s.versions ∙ newest_in_store hosted k cache.versions store.versions cache_keys h
  newest_seen k false h = ap (λ vs. newest vs k) s.versions ∙ newest_in_cache hosted k cache.versions store.versions ic.0 is.0 cache_keys store_keys h

  -- the scene says the same of the key
  pub hosted_here : (k : KeyId) → hosts_key here k ≡ hosted k
  hosted_here k =
      sym
      (ap (λ m. maps.hosts m node (maps.part_of m k)) (sym s.same_map) ∙ ap (λ n. maps.hosts (map_of here.scene) n (maps.part_of (map_of here.scene) k)) (sym s.same_node)
      ∙ hosts-mapped here.scene here.node (maps.part_of (map_of here.scene) k) ∙ ap (λ p. hosts here.scene here.node p) (part-mapped here.scene k))

  -- and of its partition's master
  pub master_here : (k : KeyId) → first_or here.node (replicas here.scene (part_of here.scene k)) ≡ first_or here.node (maps.replicas map (maps.part_of map k))
  master_here k =
      sym
      (ap (λ m. first_or here.node (maps.replicas m (maps.part_of m k))) (sym s.same_map) ∙ ap (λ ns. first_or here.node ns) (replicas-mapped here.scene (maps.part_of (map_of here.scene) k))
      ∙ ap (λ p. first_or here.node (replicas here.scene p)) (part-mapped here.scene k))

-- ---- a read of another node

-- none of the key is seen elsewhere
unseen_elsewhere : (k : KeyId) (test : Version → Bool) (cached store : List Version) → Each (λ v. same_key v.key k ≡ false) cached → IsOfKey k test → filter test (merged cached store) ≡ filter test store
unseen_elsewhere k test cached store e t =
    merged_unseen test cached store (each_so (λ v. same_key v.key k ≡ false) (λ v. test v ≡ false) cached (λ v n. by_test v (test v) refl n) e)
  where
    by_test : (v : Version) (b : Bool) → test v ≡ b → same_key v.key k ≡ false → b ≡ false
    by_test v true p n = absurd (cc (t v p, n))
    by_test v false p n = refl

-- the view of a node that hosts the key serves what its store does
pub served_seen : (view : View) (store : List Version) (k : KeyId) (r : ℕ) → ShowsHosted view store k → serve_turn store k r ≡ serve_turn view.versions k r
unfolding serve_turn
served_seen view store k r s =
    let undecided = ap (λ vs. last_or None vs) (unseen_elsewhere k (λ v. same_key v.key k && (nat_le v.ts.0 r && is_undecided v.kind)) s.cached store s.elsewhere (λ v e. and_true_left _ _ e)) in
    let seen = ap (λ vs. last_or None vs) (unseen_elsewhere k (λ v. same_key v.key k && nat_le v.ts.0 r) s.cached store s.elsewhere (λ v e. and_true_left _ _ e)) in
    ap (λ o. serve_after store k r o) (sym undecided) ∙ by_last (last_undecided (merged s.cached store) k r) seen ∙ ap (λ vs. serve_after vs k r (last_undecided vs k r)) (sym s.versions)
  where
    by_last : (o : Option Version) → visible (merged s.cached store) k r ≡ visible store k r → serve_after store k r o ≡ serve_after (merged s.cached store) k r o
    by_last (Some v) e = refl
    by_last None e = ap (λ w. serve_visible w) (sym e)

-- ---- a visible version is not Pre where no Pre version stands

some_last : (v : Version) (vs : List Version) → last_or (Some v) vs ≡ None → ⊥
some_last v [] e = cc e
some_last v (w ∷ ws) e = some_last w ws e

pre_last : (k : KeyId) (r : ℕ) (vs : List Version) (acc : Option Version) (v : Version) → last_or acc (filter (λ w. same_key w.key k && nat_le w.ts.0 r) vs) ≡ Some v → v.kind ≡ Pre
    → last_or None (filter (λ w. same_key w.key k && (nat_le w.ts.0 r && is_pre w.kind)) vs) ≡ None → acc ≡ Some v
pre_last k r [] acc v e p n = e
pre_last k r (w ∷ ws) acc v e p n = by_tests (λ b f m. pre_last k r ws b v f p m) (same_key w.key k) (nat_le w.ts.0 r) (is_pre w.kind) refl e n
  where
    by_tests : ((b : Option Version) → last_or b (filter (λ u. same_key u.key k && nat_le u.ts.0 r) ws) ≡ Some v
        → last_or None (filter (λ u. same_key u.key k && (nat_le u.ts.0 r && is_pre u.kind)) ws) ≡ None → b ≡ Some v)
        → (a b c : Bool) → is_pre w.kind ≡ c
        → last_or acc (if a && b then w ∷ filter (λ u. same_key u.key k && nat_le u.ts.0 r) ws else filter (λ u. same_key u.key k && nat_le u.ts.0 r) ws) ≡ Some v
        → last_or None (if a && (b && c) then w ∷ filter (λ u. same_key u.key k && (nat_le u.ts.0 r && is_pre u.kind)) ws else filter (λ u. same_key u.key k && (nat_le u.ts.0 r && is_pre u.kind)) ws) ≡ None
        → acc ≡ Some v
    by_tests rest true true true q f m = absurd (some_last w (filter (λ u. same_key u.key k && (nat_le u.ts.0 r && is_pre u.kind)) ws) m)
    by_tests rest true true false q f m = let same : w ≡ v = cc (rest (Some w) f m) in absurd (cc (q, ap (λ (u : Version). is_pre u.kind) same, ap is_pre p))
    by_tests rest true false c q f m = rest acc f m
    by_tests rest false b c q f m = rest acc f m

pub not_pre : (vs : List Version) (k : KeyId) (r : ℕ) (v : Version) → visible vs k r ≡ Some v → last_pre vs k r ≡ None → v.kind ≡ Pre → ⊥
not_pre vs k r v e n p = cc (pre_last k r vs None v e p n)
