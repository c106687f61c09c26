-- The stores of a node are parts of its view: what the facts of the view say of each, and what calls on them ask for.
use Rattle.std.proofs.Common.{List, None, Some, [], ap, arith, eqb-true, false, inl, inr, leb-true, length, ltb-true, map, nat_le, nat_lt, refl, slice_get, subst, sym, true, ℕ, ◌&&◌, ◌+◌, ◌<◌, ◌∙◌, ◌∷◌, ◌≡◌}
use Rattle.cache_partition.specs.CacheLists.{CacheList, IsCache, IsCached}
use Rattle.cascade_abort.proofs.FromFacts.{written_there}
use Rattle.cascade_abort.specs.Removal.{AllWritten}
use Rattle.dependency_set.specs.declared.snaps.OwnSnap.{OwnSnap}
use Rattle.dependency_set.specs.Snapshots.{Snap}
use Rattle.local_certify.proofs.FromFacts.{keys_marked, keys_there, times_room}
use Rattle.local_certify.specs.Causes.{AllBelow}
use Rattle.partition_map.specs.Maps.{Exists, HasKey, HasPart, PartitionMap}
use Rattle.str_base.specs.declared.limits.TheConstants.{NODES}
use Rattle.prepare_master.specs.MasterTurns.{IsBeside, ShowsReplica}
use Rattle.replica_apply.proofs.FromFacts.{cache_apart, cache_beside, cache_other, may_place}
use Rattle.replica_apply.specs.Changes.{AreMarked, CanInsert, Rests}
use Rattle.replica_store.specs.StoreLists.{IsStore, LiesIn, StoreList}
use Rattle.snapshot_read.proofs.FromFacts.{MayRead, each-of, may_read, told-agree}
use Rattle.snapshot_read.specs.Shown.{IsPlaced, Shows, ShowsHosted, StandAt, told_from}
use Rattle.str_base.proofs.Members.{all_in, in_all_new, in_all_old, in_at, map_in}
use Rattle.str_base.proofs.SameNames.{same_part-is}
use Rattle.str_base.proofs.Tests.{and_true_left, and_true_right}
use Rattle.str_base.specs.declared.names.KeyId.{KeyId}
use Rattle.str_base.specs.declared.names.NodeId.{NodeId}
use Rattle.str_base.specs.declared.names.PartId.{PartId}
use Rattle.str_base.specs.declared.names.TxId.{TxId}
use Rattle.str_base.specs.declared.names.Version.{Version}
use Rattle.str_base.specs.declared.names.Write.{Write}
use Rattle.str_base.specs.Members.{In}
use Rattle.str_base.specs.Versions.{insert_all, of_pair, of_tx, same_key, same_part}
use Rattle.str_model.proofs.ViewFacts.NodeUses.{have_marks, none_before, read_ready}
use Rattle.str_model.proofs.ViewFacts.ValidMessages.{NamedWrites}
use Rattle.str_model.specs.Acts.{pre_version}
use Rattle.str_model.specs.NodeFacts.{MomentFacts, OpenTo}
use Rattle.str_model.specs.Owned.{Owns}
use Rattle.str_model.specs.Strange.{distinct_keys, has_key, has_node, has_part, keys_in}
use Rattle.str_model.specs.declared.messages.Arrived.{Arrived}
use Rattle.str_model.specs.declared.names.KeyMark.{KeyMark}
use Rattle.str_model.specs.Views.{Own, View, is_decided, lc_of, name_of}
use Rattle.str_scene.proofs.Mapped.{part-mapped}
use Rattle.str_scene.specs.SceneLimits.{IsScene}
use Rattle.str_scene.specs.Scenes.{Here, hosts, hosts_key, map_of, part_of}
use Rattle.version_chain.specs.ChainLists.{Apart, Each, IsOrdered, merged}
use Rattle.replica_store.proofs.Merging.{merged_ordered}
use Rattle.replica_store.proofs.MergedChanges.{insert_all_in_store}
use Rattle.std.proofs.lemmas.List.{length-map}
use Rattle.std.proofs.lemmas.Bool.{false_from_ne_true}

-- the stores of a node with what their types keep; together they are the versions of the view, of which the facts hold
pub record Stored (here : Here) (v : View) (store : StoreList) (cache : CacheList) : Type 0 where
  pub limits : IsScene here.scene
  pub exists : has_node here here.node ≡ true
  pub facts : MomentFacts here v
  pub versions : v.versions ≡ merged cache.versions store.versions
  pub stand : StandAt here.node (map_of here.scene) store cache
  pub is_store : IsStore store
  pub is_cache : IsCache cache

pub each_in : (P : Version → Type 0) (vs : List Version) (u : Version) → Each P vs → In u vs → P u
each_in P [] u e j = absurd j
each_in P (v ∷ vs) u e (inl q) = subst P q e.0
each_in P (v ∷ vs) u e (inr j) = each_in P vs u e.1 j

-- a partition of the scene is one of the map
pub part_there : (here : Here) (p : PartId) → has_part here p ≡ true → HasPart (map_of here.scene) p
part_there here p e =
    let a = ltb-true 0 p.0 (and_true_left (nat_lt 0 p.0) (nat_le p.0 (length here.scene.parts)) e) in
    let b = leb-true p.0 (length here.scene.parts) (and_true_right (nat_lt 0 p.0) (nat_le p.0 (length here.scene.parts)) e) in
    (omega (arith, a), b)

-- a key of the scene is one of the map
pub key_there : (here : Here) (k : KeyId) → has_key here k ≡ true → HasKey (map_of here.scene) k
key_there here k e =
    let t = ltb-true k.0 (length here.scene.keys.names) e in
    omega (arith, t, length-map here.scene.keys.names (λ (n : List ℕ × PartId). n.1))

module _ (here : Here) (v : View) (store : StoreList) (cache : CacheList) (s : Stored here v store cache) where
  -- ---- where each version lies

  -- a stored version is one of the view, in a partition that the node has
  pub of_store : (u : Version) → In u store.versions → (In u v.versions) × (hosts here.scene here.node u.part ≡ true)
  of_store u j = (
    subst (λ vs. In u vs) (sym s.versions) (in_all_old cache.versions store.versions u j),
    sym (s.stand.store_hosts u.part) ∙ each_in (LiesIn store.hosted) store.versions u s.is_store.1 j,
  )

  -- a cached one is too, in a partition that it has not
  pub of_cache : (u : Version) → In u cache.versions → (In u v.versions) × (hosts here.scene here.node u.part ≡ false)
  of_cache u j = (
    subst (λ vs. In u vs) (sym s.versions) (in_all_new cache.versions store.versions u j),
    sym (s.stand.cache_hosts u.part) ∙ (each_in (IsCached cache.node cache.hosted) cache.versions u s.is_cache.1 j).2,
  )

  pub lists_apart : Each (λ w. Each (Apart w) store.versions) cache.versions
  lists_apart = cache_apart here v s.facts cache.versions store.versions of_cache of_store

  -- the view is in order
  pub ordered : IsOrdered v.versions
  ordered = subst IsOrdered (sym s.versions) (merged_ordered cache.versions store.versions s.is_cache.0 s.is_store.0 lists_apart)

  placed_at : (u : Version) → In u v.versions → IsPlaced (map_of here.scene) u
  placed_at u j = (s.facts.versions u j).part ∙ sym (part-mapped here.scene u.key)

  -- ---- reads and certification

  -- what is told of own transactions, and the stores, say what the view says
  pub shows : Shows here v here.node (told_from 0 v.own) store cache (map_of here.scene)
  shows = record {
    same_node = refl;
    same_map = refl;
    versions = s.versions;
    placed = (each-of store.versions (λ u j. placed_at u (of_store u j).0), each-of cache.versions (λ u j. placed_at u (of_cache u j).0));
    agree = told-agree v.own;
  }

  pub told_enough : (i : ℕ) (x : Own) → Owns v i x → is_decided x.phase ≡ false → lc_of x.phase ≡ None → OpenTo v (i + 1) → MayRead (told_from 0 v.own) x.snap store.versions cache.versions
  told_enough i x own op none f =
      may_read here v x store.versions cache.versions
      (read_ready here v s.facts s.limits s.exists i x own op none (λ j y dep l. f j y dep (omega (arith, l))) (λ y dep o u m. f i y dep (omega arith) o u m)) s.versions

  -- a key that the node has is not cached
  pub shows_hosted : (k : KeyId) → hosts_key here k ≡ true → ShowsHosted v store.versions k
  shows_hosted k h = record {
    cached = cache.versions;
    versions = s.versions;
    elsewhere = each-of cache.versions (λ u j. false_from_ne_true (same_key u.key k) (λ e.
        let key : u.key ≡ k = λ z. record { 0 = eqb-true u.key.0 k.0 e z } in
        cc (sym (of_cache u j).1 ∙ (ap (λ p. hosts here.scene here.node p) (s.facts.versions u (of_cache u j).0).part ∙ ap (λ l. hosts here.scene here.node (part_of here.scene l)) key), h)));
  }

  -- ---- what arrives

  -- what is cached is beside it
  pub beside_all : (a : Arrived) → NamedWrites here a.tx a.part a.rs a.lc a.writes → hosts here.scene here.node a.part ≡ true → Each (IsBeside a) cache.versions
  beside_all a n h = cache_beside here v s.facts a n h cache.versions (λ u j. (of_cache u j).0) (λ u j. (of_cache u j).1)

  pub shows_replica : (a : Arrived) → NamedWrites here a.tx a.part a.rs a.lc a.writes → hosts here.scene here.node a.part ≡ true → ShowsReplica v a store.versions v.marks
  shows_replica a n h = record {
    cache = cache.versions;
    versions = s.versions;
    beside = beside_all a n h;
    marks = refl;
  }

  pub places : (a : Arrived) (ts : ℕ) → NamedWrites here a.tx a.part a.rs a.lc a.writes → ((u : Version) → In u v.versions → of_pair a.tx a.part u ≡ false)
      → CanInsert (map (pre_version a ts) a.writes) store.versions
  places a ts n none = may_place here v s.facts a ts n none store.versions (λ u j. (of_store u j).0)

  -- what is placed in the store is placed in the view
  pub placed_merged : (a : Arrived) (ts : ℕ) → NamedWrites here a.tx a.part a.rs a.lc a.writes → hosts here.scene here.node a.part ≡ true → (vs : List Version) → vs ≡ insert_all (map (pre_version a ts) a.writes) store.versions
      → merged cache.versions vs ≡ insert_all (map (pre_version a ts) a.writes) (merged cache.versions store.versions)
  placed_merged a ts n h vs e =
      ap (λ us. merged cache.versions us) e
      ∙ sym (insert_all_in_store (map (pre_version a ts) a.writes) cache.versions store.versions (pre_apart a.writes (λ w j. j)))
    where
      far : (w : Write) → In w a.writes → (u : Version) → In u cache.versions → Apart (pre_version a ts w) u
      far w j u k f g q =
          let key : w.key ≡ u.key = λ z. record { 0 = f z } in
          let p : part_of here.scene w.key ≡ a.part = same_part-is (part_of here.scene w.key) a.part (n.keys w j).1 in
          cc (sym (of_cache u k).1 ∙ (ap (λ p. hosts here.scene here.node p) ((s.facts.versions u (of_cache u k).0).part ∙ (ap (λ l. part_of here.scene l) (sym key) ∙ p)) ∙ h))

      pre_apart : (ws : List Write) → ((w : Write) → In w ws → In w a.writes) → Each (λ v. Each (Apart v) cache.versions) (map (pre_version a ts) ws)
      pre_apart [] f = tt
      pre_apart (w ∷ ws) f = (each-of cache.versions (λ u k. far w (f w (inl refl)) u k), pre_apart ws (λ z k. f z (inr k)))

  pub rests : (tx : TxId) (p : PartId) → hosts here.scene here.node p ≡ true → Rests tx p v store.versions
  rests tx p h = record {
    cache = cache.versions;
    versions = s.versions;
    ordered = s.is_cache.0;
    apart = lists_apart;
    other = cache_other here tx p h cache.versions (λ u j. (of_cache u j).1);
  }

  -- ---- own transactions

  -- one that is not certified has no version
  pub none_stored : (i : ℕ) (x : Own) → Owns v i x → lc_of x.phase ≡ None → Each (λ u. of_tx (name_of here i) u ≡ false) store.versions
  none_stored i x own none = each-of store.versions (λ u j. none_before here v s.facts i x own none u (of_store u j).0)

  pub none_cached : (i : ℕ) (x : Own) → Owns v i x → lc_of x.phase ≡ None → Each (λ u. of_tx (name_of here i) u ≡ false) cache.versions
  none_cached i x own none = each-of cache.versions (λ u j. none_before here v s.facts i x own none u (of_cache u j).0)

-- an own transaction at a place is the one there
pub same_at : {A : Type 0} (xs : List A) (i : ℕ) (x y : A) → slice_get xs i ≡ Some x → slice_get xs i ≡ Some y → x ≡ y
same_at xs i x y e f = cc (e, f)

-- the same of what calls are handed
module _ (here : Here) (v : View) (store : StoreList) (cache : CacheList) (s : Stored here v store cache) (node : NodeId) (n : node ≡ here.node) (map : PartitionMap) (m : map_of here.scene ≡ map) where
  pub stands_to : StandAt node map store cache
  stands_to = subst (λ z. StandAt z map store cache) (sym n) (subst (λ z. StandAt here.node z store cache) m s.stand)

  pub shows_to : (told : List OwnSnap) → told ≡ told_from 0 v.own → Shows here v node told store cache map
  shows_to told t =
      subst (λ z. Shows here v z told store cache map) (sym n)
      (subst (λ z. Shows here v here.node z store cache map) (sym t) (subst (λ z. Shows here v here.node (told_from 0 v.own) store cache z) m (shows here v store cache s)))

  pub keys_to : (i : ℕ) (x : Own) (ws : List Write) → Owns v i x → ws ≡ x.writes → (k : ℕ) (w : Write) → slice_get ws k ≡ Some w → HasKey map w.key
  keys_to i x ws own e k w g = subst (λ z. HasKey z w.key) m (keys_there here s.limits s.exists v s.facts i x own k w (ap (λ (z : List Write). slice_get z k) (sym e) ∙ g))

  pub marked_to : (i : ℕ) (x : Own) (ws : List Write) → Owns v i x → ws ≡ x.writes → (k : ℕ) (w : Write) → slice_get ws k ≡ Some w → w.key.0 < length v.marks
  marked_to i x ws own e k w g = keys_marked here s.limits s.exists v s.facts i x own k w (ap (λ (z : List Write). slice_get z k) (sym e) ∙ g)

  pub written_to : (i : ℕ) (x : Own) (ws : List Write) (tx : TxId) → Owns v i x → ws ≡ x.writes → tx ≡ name_of here i → AllWritten map ws tx store.versions × AllWritten map ws tx cache.versions
  written_to i x ws tx own e t =
      subst (λ z. AllWritten z ws tx store.versions × AllWritten z ws tx cache.versions) m
      (subst (λ z. AllWritten (map_of here.scene) z tx store.versions × AllWritten (map_of here.scene) z tx cache.versions) (sym e)
      (subst (λ z. AllWritten (map_of here.scene) x.writes z store.versions × AllWritten (map_of here.scene) x.writes z cache.versions) (sym t)
      (written_there here v s.facts i x own store.versions (λ u j. (of_store here v store cache s u j).0), written_there here v s.facts i x own cache.versions (λ u j. (of_cache here v store cache s u j).0))))

pub may_to : (here : Here) (v : View) (store : StoreList) (cache : CacheList) (s : Stored here v store cache) (told : List OwnSnap) → told ≡ told_from 0 v.own → (i : ℕ) (x : Own) (snap : Snap) → Owns v i x
    → is_decided x.phase ≡ false → lc_of x.phase ≡ None → OpenTo v (i + 1) → snap ≡ x.snap → MayRead told snap store.versions cache.versions
may_to here v store cache s told t i x snap own op none f e =
    subst (λ z. MayRead z snap store.versions cache.versions) (sym t) (subst (λ z. MayRead (told_from 0 v.own) z store.versions cache.versions) (sym e) (told_enough here v store cache s i x own op none f))

pub times_to : (here : Here) (v : View) (store : StoreList) (cache : CacheList) (s : Stored here v store cache) (i : ℕ) (x : Own) (snap : Snap) → Owns v i x → snap ≡ x.snap
    → AllBelow snap.rs v.marks store.versions cache.versions
times_to here v store cache s i x snap own e =
    subst (λ (z : Snap). AllBelow z.rs v.marks store.versions cache.versions) (sym e) (times_room here s.limits s.exists v s.facts i x own store.versions cache.versions s.versions)

-- each mark of keys of the scene is of a key with a mark
pub key_marks : (here : Here) (v : View) → MomentFacts here v → (p : PartId) (ms : List KeyMark) → keys_in here p (map (λ (m : KeyMark). m.key) ms) ≡ true → AreMarked ms v.marks
key_marks here v h p ms k i m e =
    let l = and_true_right (distinct_keys (map (λ (z : KeyMark). z.key) ms)) _ k in
    let q = all_in (λ (z : KeyId). has_key here z && same_part (part_of here.scene z) p) (map (λ (z : KeyMark). z.key) ms) m.key l (map_in (λ (z : KeyMark). z.key) ms m (in_at ms i m e)) in
    have_marks here v h m.key (and_true_left (has_key here m.key) (same_part (part_of here.scene m.key) p) q)

-- the node's number is one of those that a map can name
pub node_in : (here : Here) → IsScene here.scene → has_node here here.node ≡ true → Exists here.node.0 NODES
node_in here ok e =
    let a = ltb-true 0 here.node.0 (and_true_left (nat_lt 0 here.node.0) (nat_le here.node.0 here.scene.nodes) e) in
    let b = leb-true here.node.0 here.scene.nodes (and_true_right (nat_lt 0 here.node.0) (nat_le here.node.0 here.scene.nodes) e) in
    let c = ok.nodes.1 in
    (omega (arith, a), omega (arith, b, c))
