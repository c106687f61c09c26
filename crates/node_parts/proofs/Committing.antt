-- The commit of an own transaction in one written partition after the other, and the places of what it wrote.
use Rattle.std.proofs.Common.{Bool, List, [], ap, drop, eqb-true, false, filter, if◌then◌else◌, length, map, not, refl, rules, subst, sym, tests, true, ℕ, ◌&&◌, ◌+◌, ◌<◌, ◌==◌, ◌||◌, ◌∙◌, ◌∷◌, ◌≡◌, ◌≤◌}
use Rattle.std.proofs.lemmas.Bool.{or_right}
use Rattle.std.proofs.lemmas.List.{drop_all, drop_more}
use Rattle.std.specs.List.{list_any}
use Rattle.std.specs.Prelude.{slice_index_or}
use Rattle.cache_partition.specs.CacheLists.{CacheList, IsCache, IsCached}
use Rattle.cascade_abort.proofs.Dropping.{AllIn, all_out, narrowed, shed}
use Rattle.cascade_abort.specs.Removal.{AllWritten}
use Rattle.node_parts.specs.Holding.{own_version}
use Rattle.partition_map.specs.Maps as maps
use Rattle.replica_store.proofs.MergedChanges.{insert_in_cache, insert_in_store}
use Rattle.replica_store.proofs.Merging.{ListsApart}
use Rattle.replica_store.proofs.OwnCommit.{decided_each, finalise_each}
use Rattle.replica_store.specs.StoreLists.{IsStore, LiesIn, StoreList}
use Rattle.str_base.proofs.Order.{apart_back}
use Rattle.str_base.specs.declared.names.PartId.{PartId}
use Rattle.str_base.specs.declared.names.Ts.{Ts}
use Rattle.str_base.specs.declared.names.TxId.{TxId}
use Rattle.str_base.specs.declared.names.Version.{Version}
use Rattle.str_base.specs.declared.names.Write.{Write}
use Rattle.str_base.specs.Members.{In}
use Rattle.str_base.specs.Versions.{finalise, insert_all, insert_version, of_pair, of_tx, same_key, same_part, without}
use Rattle.str_model.specs.Acts.{decided_versions}
use Rattle.str_model.specs.NodeFacts.{AreDistinct}
use Rattle.str_scene.proofs.Mapped.{part-mapped}
use Rattle.str_scene.specs.Scenes.{Here, hosts, map_of, part_of}
use Rattle.version_chain.proofs.Each.{each_both, each_insert, each_so}
use Rattle.version_chain.proofs.Keeping.{AllApart}
use Rattle.version_chain.proofs.Telling.{each_in}
use Rattle.version_chain.specs.ChainLists.{Apart, Each, is_among, merged}

-- ---- the partitions of the writes

-- those that pass a test, in order of first write
abbrev pub parts_where : Here → (PartId → Bool) → List Write → List PartId
parts_where here test ws = map (λ (w : Write). part_of here.scene w.key) (filter (λ (w : Write). test (part_of here.scene w.key)) ws)

-- those that the node hosts
abbrev pub stored_parts : Here → List Write → List PartId
stored_parts here ws = parts_where here (hosts here.scene here.node) ws

-- the others
abbrev pub cached_parts : Here → List Write → List PartId
cached_parts here ws = parts_where here (λ p. not (hosts here.scene here.node p)) ws

-- a written partition that passes the test is among them
pub among_where : (here : Here) (test : PartId → Bool) (ws : List Write) (q : PartId) → test q ≡ true → maps.is_written (maps.part_of (map_of here.scene)) ws q ≡ true → is_among (parts_where here test ws) q ≡ true
among_where here test [] q t e = absurd (cc e)
among_where here test (w ∷ ws) q t e =
    by_first (same_part (part_of here.scene w.key) q) refl
    (ap (λ (r : PartId). same_part r q || maps.is_written (maps.part_of (map_of here.scene)) ws q) (sym (part-mapped here.scene w.key)) ∙ e)
    (λ h. among_where here test ws q t h)
  where
    by_kept : (a : Bool) → is_among (parts_where here test ws) q ≡ true
        → is_among (map (λ (u : Write). part_of here.scene u.key) (if a then w ∷ filter (λ (u : Write). test (part_of here.scene u.key)) ws else filter (λ (u : Write). test (part_of here.scene u.key)) ws)) q ≡ true
    by_kept true h = or_right (same_part (part_of here.scene w.key) q) _ h
    by_kept false h = h

    by_first : (a : Bool) → same_part (part_of here.scene w.key) q ≡ a → (a || maps.is_written (maps.part_of (map_of here.scene)) ws q) ≡ true
        → (maps.is_written (maps.part_of (map_of here.scene)) ws q ≡ true → is_among (parts_where here test ws) q ≡ true) → is_among (parts_where here test (w ∷ ws)) q ≡ true
    by_first true s h rec =
        let k : test (part_of here.scene w.key) ≡ true = ap (λ (n : ℕ). test (record { 0 = n })) (eqb-true (part_of here.scene w.key).0 q.0 s) ∙ t in
        rw (k, s) refl
    by_first false s h rec = by_kept (test (part_of here.scene w.key)) (rec h)

-- ---- in the store

-- one partition more
pub stored_step : (here : Here) (tx : TxId) (fc : ℕ) (w : Write) (ws : List Write) (b : Bool) (vs us start : List Version) → hosts here.scene here.node (part_of here.scene w.key) ≡ b
    → us ≡ (if b then finalise (of_pair tx (part_of here.scene w.key)) fc vs else vs)
    → finalise_each tx fc (stored_parts here (w ∷ ws)) vs ≡ start → finalise_each tx fc (stored_parts here ws) us ≡ start
stored_step here tx fc w ws true vs us start e u h = rw u (rw e at h)
stored_step here tx fc w ws false vs us start e u h = rw u (rw e at h)

-- in the loop
pub stored_at : (here : Here) (map : maps.PartitionMap) (tx : TxId) (fc : ℕ) (ws : List Write) (i : ℕ) (d : Write) (part : PartId) (b : Bool) (vs us start : List Version) → i < length ws
    → map_of here.scene ≡ map → part ≡ maps.part_of map (slice_index_or ws i d).key → hosts here.scene here.node part ≡ b → us ≡ (if b then finalise (of_pair tx part) fc vs else vs)
    → finalise_each tx fc (stored_parts here (drop i ws)) vs ≡ start → finalise_each tx fc (stored_parts here (drop (i + 1) ws)) us ≡ start
stored_at here map tx fc ws i d part b vs us start l m q e u h =
    let p : part ≡ part_of here.scene (slice_index_or ws i d).key = q ∙ ap (λ n. maps.part_of n (slice_index_or ws i d).key) (sym m) ∙ part-mapped here.scene (slice_index_or ws i d).key in
    stored_step here tx fc (slice_index_or ws i d) (drop (i + 1) ws) b vs us start (rw p at e) (rw p at u)
    (subst (λ (xs : List Write). finalise_each tx fc (stored_parts here xs) vs ≡ start) (drop_more ws i d l) h)

-- after the last write
pub stored_end : (here : Here) (tx : TxId) (fc : ℕ) (ws : List Write) (i : ℕ) (vs start : List Version) → length ws ≤ i → finalise_each tx fc (stored_parts here (drop i ws)) vs ≡ start → vs ≡ start
stored_end here tx fc ws i vs start l h = subst (λ (xs : List Write). finalise_each tx fc (stored_parts here xs) vs ≡ start) (drop_all i ws l) h

same_back : (m n : ℕ) → (m == n) ≡ true → (n == m) ≡ true
same_back m n e = search (rules, tests)

turned : (q : PartId) (ps : List PartId) → is_among ps q ≡ true → list_any (λ p. same_part q p) ps ≡ true
turned q [] e = absurd (cc e)
turned q (p ∷ ps) e = by_first (same_part p q) refl e (λ h. turned q ps h)
  where
    by_first : (a : Bool) → same_part p q ≡ a → (a || is_among ps q) ≡ true → (is_among ps q ≡ true → list_any (λ r. same_part q r) ps ≡ true)
        → (same_part q p || list_any (λ r. same_part q r) ps) ≡ true
    by_first true s h rec = rw (same_back p.0 q.0 s) refl
    by_first false s h rec = or_right (same_part q p) _ (rec h)

-- all at once
pub stored_all : (here : Here) (tx : TxId) (fc : ℕ) (ws : List Write) (store : StoreList) → IsStore store → ((p : PartId) → is_among store.hosted p ≡ maps.hosts (map_of here.scene) here.node p)
    → AllWritten (map_of here.scene) ws tx store.versions → finalise_each tx fc (stored_parts here ws) store.versions ≡ decided_versions here tx fc store.versions
stored_all here tx fc ws store is same h = sym (decided_each here tx fc (stored_parts here ws) store.versions is.0 written here_)
  where
    here_ : (u : Version) → In u store.versions → hosts here.scene here.node u.part ≡ true
    here_ u k = sym (same u.part) ∙ each_in (LiesIn store.hosted) store.versions u is.1 k

    written : (u : Version) → In u store.versions → of_tx tx u ≡ true → list_any (λ p. same_part u.part p) (stored_parts here ws) ≡ true
    written u k o =
        turned u.part (stored_parts here ws)
        (among_where here (hosts here.scene here.node) ws u.part (here_ u k)
        (each_in (λ v. of_tx tx v ≡ true → maps.is_written (maps.part_of (map_of here.scene)) ws v.part ≡ true) store.versions u h k o))

-- ---- in the cache

-- the versions of the transaction in each of these partitions are taken out
abbrev pub without_each : TxId → List PartId → List Version → List Version
without_each tx [] vs = vs
without_each tx (p ∷ ps) vs = without_each tx ps (without (of_pair tx p) vs)

-- one partition more
pub cached_step : (here : Here) (tx : TxId) (w : Write) (ws : List Write) (b : Bool) (vs us start : List Version) → hosts here.scene here.node (part_of here.scene w.key) ≡ b
    → us ≡ (if b then vs else without (of_pair tx (part_of here.scene w.key)) vs)
    → without_each tx (cached_parts here (w ∷ ws)) vs ≡ start → without_each tx (cached_parts here ws) us ≡ start
cached_step here tx w ws true vs us start e u h = rw u (rw e at h)
cached_step here tx w ws false vs us start e u h = rw u (rw e at h)

-- in the loop
pub cached_at : (here : Here) (map : maps.PartitionMap) (tx : TxId) (ws : List Write) (i : ℕ) (d : Write) (part : PartId) (b : Bool) (vs us start : List Version) → i < length ws
    → map_of here.scene ≡ map → part ≡ maps.part_of map (slice_index_or ws i d).key → hosts here.scene here.node part ≡ b → us ≡ (if b then vs else without (of_pair tx part) vs)
    → without_each tx (cached_parts here (drop i ws)) vs ≡ start → without_each tx (cached_parts here (drop (i + 1) ws)) us ≡ start
cached_at here map tx ws i d part b vs us start l m q e u h =
    let p : part ≡ part_of here.scene (slice_index_or ws i d).key = q ∙ ap (λ n. maps.part_of n (slice_index_or ws i d).key) (sym m) ∙ part-mapped here.scene (slice_index_or ws i d).key in
    cached_step here tx (slice_index_or ws i d) (drop (i + 1) ws) b vs us start (rw p at e) (rw p at u)
    (subst (λ (xs : List Write). without_each tx (cached_parts here xs) vs ≡ start) (drop_more ws i d l) h)

-- after the last write
pub cached_end : (here : Here) (tx : TxId) (ws : List Write) (i : ℕ) (vs start : List Version) → length ws ≤ i → without_each tx (cached_parts here (drop i ws)) vs ≡ start → vs ≡ start
cached_end here tx ws i vs start l h = subst (λ (xs : List Write). without_each tx (cached_parts here xs) vs ≡ start) (drop_all i ws l) h

each_out : (tx : TxId) (ps : List PartId) (vs : List Version) → AllIn ps tx vs → without_each tx ps vs ≡ without (of_tx tx) vs
each_out tx [] vs h = sym (all_out tx vs h)
each_out tx (p ∷ ps) vs h = each_out tx ps (without (of_pair tx p) vs) (narrowed p ps tx vs h) ∙ shed tx p vs

-- no cached version lies in a hosted partition
pub cached_elsewhere : (here : Here) (cache : CacheList) → IsCache cache → ((p : PartId) → is_among cache.hosted p ≡ maps.hosts (map_of here.scene) here.node p)
    → Each (λ v. hosts here.scene here.node v.part ≡ false) cache.versions
cached_elsewhere here cache is same = each_so (IsCached cache.node cache.hosted) (λ v. hosts here.scene here.node v.part ≡ false) cache.versions (λ v h. sym (same v.part) ∙ h.2) is.1

-- all at once
pub cached_all : (here : Here) (tx : TxId) (ws : List Write) (cache : CacheList) → IsCache cache → ((p : PartId) → is_among cache.hosted p ≡ maps.hosts (map_of here.scene) here.node p)
    → AllWritten (map_of here.scene) ws tx cache.versions → without_each tx (cached_parts here ws) cache.versions ≡ without (of_tx tx) cache.versions
cached_all here tx ws cache is same h =
    each_out tx (cached_parts here ws) cache.versions
    (each_both (λ v. hosts here.scene here.node v.part ≡ false) (λ v. of_tx tx v ≡ true → maps.is_written (maps.part_of (map_of here.scene)) ws v.part ≡ true)
    (λ v. of_tx tx v ≡ true → is_among (cached_parts here ws) v.part ≡ true) cache.versions
    (λ v k f o. among_where here (λ p. not (hosts here.scene here.node p)) ws v.part (ap not k) (f o)) (cached_elsewhere here cache is same) h)

-- ---- insertions

-- what is written by a transaction that has no version is apart from all
pub none_apart : (here : Here) (tx : TxId) (lc : Ts) (ws : List Write) (vs : List Version) → Each (λ v. of_tx tx v ≡ false) vs → ListsApart (map (own_version here tx lc) ws) vs
none_apart here tx lc [] vs h = tt
none_apart here tx lc (w ∷ ws) vs h =
    (each_so (λ v. of_tx tx v ≡ false) (Apart (own_version here tx lc w)) vs (λ v e k n s. absurd (other v e n s)) h, none_apart here tx lc ws vs h)
  where
    other : (v : Version) → of_tx tx v ≡ false → tx.node.0 ≡ v.tx.node.0 → tx.seq ≡ v.tx.seq → ⊥
    other v e n s = clash (v.tx.node.0 == tx.node.0) (v.tx.seq == tx.seq) (same_of tx.node.0 v.tx.node.0 n) (same_of tx.seq v.tx.seq s) e
      where
        same_of : (a b : ℕ) → a ≡ b → (b == a) ≡ true
        same_of a b q = search (rules, tests)

        clash : (a b : Bool) → a ≡ true → b ≡ true → (a && b) ≡ false → ⊥
        clash true true p q r = cc r
        clash true false p q r = cc q
        clash false b p q r = cc p

-- distinct keys make versions apart
pub distinct_apart : (here : Here) (tx : TxId) (lc : Ts) (ws : List Write) → AreDistinct ws → AllApart (map (own_version here tx lc) ws)
distinct_apart here tx lc [] h = tt
distinct_apart here tx lc (w ∷ ws) h = (others ws (first_of _ _ h), distinct_apart here tx lc ws (second_of _ _ h))
  where
    first_of : (a b : Bool) → (not a && b) ≡ true → a ≡ false
    first_of true b e = absurd (cc e)
    first_of false b e = refl

    second_of : (a b : Bool) → (not a && b) ≡ true → b ≡ true
    second_of true b e = absurd (cc e)
    second_of false b e = e

    or_no : (a b : Bool) → (a || b) ≡ false → (a ≡ false) × (b ≡ false)
    or_no true b e = absurd (cc e)
    or_no false b e = (refl, e)

    differ : (m n : ℕ) → (m == n) ≡ false → m ≡ n → ⊥
    differ m n e q = search (rules, tests)

    others : (us : List Write) → list_any (same_key w.key) (map (λ (u : Write). u.key) us) ≡ false → Each (Apart (own_version here tx lc w)) (map (own_version here tx lc) us)
    others [] e = tt
    others (u ∷ us) e = let k = or_no (same_key w.key u.key) (list_any (same_key w.key) (map (λ (x : Write). x.key) us)) e in ((λ q n s. differ w.key.0 u.key.0 k.0 q), others us k.1)

-- the others stay apart from a list with one of them in it
apart_with : (w : Version) (ws vs : List Version) → Each (Apart w) ws → ListsApart ws vs → ListsApart ws (insert_version w vs)
apart_with w ws vs a b = each_both (λ u. Each (Apart u) vs) (Apart w) (λ u. Each (Apart u) (insert_version w vs)) ws (λ u p q. each_insert (Apart u) w vs (apart_back w u q) p) b a

-- after one more, in the store and in the cache
pub stored_apart : (w : Version) (ws : List Version) (b : Bool) (vs us : List Version) → us ≡ (if b then insert_version w vs else vs) → AllApart (w ∷ ws) → ListsApart (w ∷ ws) vs → ListsApart ws us
stored_apart w ws true vs us e a h = rw e (apart_with w ws vs a.0 h.1)
stored_apart w ws false vs us e a h = rw e h.1

pub cached_apart : (w : Version) (ws : List Version) (b : Bool) (vs us : List Version) → us ≡ (if b then vs else insert_version w vs) → AllApart (w ∷ ws) → ListsApart (w ∷ ws) vs → ListsApart ws us
cached_apart w ws true vs us e a h = rw e h.1
cached_apart w ws false vs us e a h = rw e (apart_with w ws vs a.0 h.1)

-- the versions that are left, from the next one on
pub next_version : (here : Here) (tx : TxId) (lc : Ts) (ws : List Write) (i : ℕ) (d : Write) (v : Version) → i < length ws → v ≡ own_version here tx lc (slice_index_or ws i d)
    → map (own_version here tx lc) (drop i ws) ≡ v ∷ map (own_version here tx lc) (drop (i + 1) ws)
next_version here tx lc ws i d v l e = rw (drop_more ws i d l) (ap (λ u. u ∷ map (own_version here tx lc) (drop (i + 1) ws)) (sym e))

-- one more in either
pub merged_step : (w : Version) (ws : List Version) (b : Bool) (cache store new_cache new_store start : List Version)
    → new_store ≡ (if b then insert_version w store else store) → new_cache ≡ (if b then cache else insert_version w cache) → Each (Apart w) cache
    → insert_all (w ∷ ws) (merged cache store) ≡ start → insert_all ws (merged new_cache new_store) ≡ start
merged_step w ws true cache store new_cache new_store start s c a h = rw (s, c) (ap (λ vs. insert_all ws vs) (sym (insert_in_store w cache store a)) ∙ h)
merged_step w ws false cache store new_cache new_store start s c a h = rw (s, c) (ap (λ vs. insert_all ws vs) (sym (insert_in_cache w cache store a)) ∙ h)
