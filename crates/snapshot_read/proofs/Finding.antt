-- What a read comes to by what the stores give, and that a node's view says the same.
use Rattle.std.proofs.Common.{Bool, List, None, Option, Some, [], ap, false, filter, if◌then◌else◌, leb-true, nat_le, refl, subst, sym, true, ℕ, ◌&&◌, ◌∙◌, ◌∷◌, ◌≡◌, ◌≤◌}
use Rattle.str_base.proofs.Tests.{and_true_right}
use Rattle.std.specs.List.{last_or}
use Rattle.cache_partition.specs.CacheLists.{CacheList, IsCache}
use Rattle.dependency_set.specs.declared.snaps.OwnSnap.{OwnSnap}
use Rattle.dependency_set.specs.Snapshots.{Snap, accept_final}
use Rattle.partition_map.specs.Maps as maps
use Rattle.replica_store.specs.StoreLists.{IsStore, StoreList}
use Rattle.snapshot_read.proofs.Gating.{gated_here}
use Rattle.snapshot_read.proofs.Reading.{taken_here}
use Rattle.snapshot_read.proofs.Seeing.{hosted_here, master_here, pre_seen, visible_seen}
use Rattle.snapshot_read.specs.ListReads.{gated_at, kind_read, list_read, read_after, visible_read}
use Rattle.snapshot_read.specs.Shown.{Agree, AreTold, IsNamed, IsTold, Shows, StandAt, held, of_key, taken_over, told}
use Rattle.str_base.specs.declared.names.KeyId.{KeyId}
use Rattle.str_base.specs.declared.names.Kind.{Kind}
use Rattle.str_base.specs.declared.names.Kind.TheVariants.{Final, Local, Pre}
use Rattle.str_base.specs.declared.names.NodeId.{NodeId}
use Rattle.str_base.specs.declared.names.PartId.{PartId}
use Rattle.str_base.specs.declared.names.Ts.{Ts}
use Rattle.str_base.specs.declared.names.Value.TheVariants.{Absent}
use Rattle.str_base.specs.declared.names.Version.{Version}
use Rattle.str_base.specs.Versions.{is_local, last_pre, same_key, stamp, visible}
use Rattle.str_model.specs.Turns
use Rattle.str_model.specs.Turns.{Away, Plain, ReadTurn, Speculative, Wait, gated, read_kind, read_turn, read_visible}
use Rattle.str_model.specs.Views.{Own, View}
use Rattle.str_scene.specs.Scenes.{Here, first_or, hosts_key}
use Rattle.version_chain.proofs.Each.{each_filter}
use Rattle.version_chain.specs.ChainLists.{Each}

-- ---- what holds of a visible version

-- what holds of each holds of the last
last_of : (P : Version → Type 0) (xs : List Version) (acc : Option Version) (v : Version) → ((u : Version) → acc ≡ Some u → P u) → Each P xs → last_or acc xs ≡ Some v → P v
last_of P [] acc v a e q = a v q
last_of P (x ∷ xs) acc v a e q = last_of P xs (Some x) v (λ u f. let same : x ≡ u = cc f in subst P same e.0) e.1 q

-- a visible version is one of the list, at or below the timestamp
visible_one : (P : Version → Type 0) (k : KeyId) (r : ℕ) (vs : List Version) (v : Version) → Each P vs → visible vs k r ≡ Some v → P v × (v.ts.0 ≤ r)
visible_one P k r vs v e q =
    let test = λ (u : Version). same_key u.key k && nat_le u.ts.0 r in
    let one = last_of (λ u. P u × (test u ≡ true)) (filter test vs) None v (λ u f. absurd (cc f)) (each_filter test P vs e) q in
    (one.0, leb-true v.ts.0 r (and_true_right (same_key v.key k) (nat_le v.ts.0 r) one.1))

-- what holds of each in both stores
pub each_of : (P : Version → Type 0) (b : Bool) (store cache : List Version) → Each P store → Each P cache → Each P (of_key b store cache)
each_of P true store cache e f = e
each_of P false store cache e f = f

-- a visible version is one of which all is told
pub visible_told : (own : List OwnSnap) (rs : ℕ) (b : Bool) (store cache : List Version) (k : KeyId) (t : Ts) (v : Version) → AreTold own rs store cache → t ≡ stamp rs
    → Some v ≡ visible (of_key b store cache) k t.0 → IsTold own rs v × (v.ts.0 ≤ rs)
visible_told own rs b store cache k t v a e q =
    let one = visible_one (IsTold own rs) k t.0 (of_key b store cache) v (each_of (IsTold own rs) b store cache a.0 a.1) (sym q) in
    let same : t.0 ≡ rs = ap (λ (u : Ts). u.0) e in
    (one.0, rw (← same) one.1)

-- ---- by what the stores give

module _ (node : NodeId) (map : maps.PartitionMap) (own : List OwnSnap) (store cache : List Version) (snap : Snap) (k : KeyId) (part : PartId) (b : Bool) (p : part ≡ maps.part_of map k)
    (h : b ≡ maps.hosts map node part) (t : Ts) (e : t ≡ stamp snap.rs) where
  -- the answer of the map is that of the key
  hosted_is : maps.hosts map node (maps.part_of map k) ≡ b
  hosted_is = sym (h ∙ ap (λ u. maps.hosts map node u) p)

  time : t.0 ≡ snap.rs
  time = ap (λ (u : Ts). u.0) e

  pre_is : (o : Option Version) → o ≡ last_pre (of_key b store cache) k t.0 → last_pre (held map node store cache k) k snap.rs ≡ o
  pre_is o q = ap (λ c. last_pre (of_key c store cache) k snap.rs) hosted_is ∙ ap (λ r. last_pre (of_key b store cache) k r) (sym time) ∙ sym q

  visible_is : (o : Option Version) → o ≡ visible (of_key b store cache) k t.0 → visible (held map node store cache k) k snap.rs ≡ o
  visible_is o q = ap (λ c. visible (of_key c store cache) k snap.rs) hosted_is ∙ ap (λ r. visible (of_key b store cache) k r) (sym time) ∙ sym q

  read_by : (o : Option Version) → last_pre (held map node store cache k) k snap.rs ≡ o → list_read node map own store cache snap k ≡ read_after node map own (held map node store cache k) snap k o
  read_by o q = ap (λ w. read_after node map own (held map node store cache k) snap k w) q

  seen_by : (o w : Option Version) → None ≡ last_pre (of_key b store cache) k t.0 → w ≡ visible (of_key b store cache) k t.0
      → list_read node map own store cache snap k ≡ visible_read node map own snap k w
  seen_by o w n q = read_by None (pre_is None n) ∙ ap (λ x. visible_read node map own snap k x) (visible_is w q)

  -- a Pre version
  pub gives_pre : (v : Version) → Some v ≡ last_pre (of_key b store cache) k t.0 → Wait v.tx ≡ list_read node map own store cache snap k
  gives_pre v q = sym (read_by (Some v) (pre_is (Some v) q))

  -- a visible version
  pub gives_version : (v : Version) (turn : ReadTurn) → None ≡ last_pre (of_key b store cache) k t.0 → Some v ≡ visible (of_key b store cache) k t.0
      → turn ≡ kind_read node own snap v v.kind → turn ≡ list_read node map own store cache snap k
  gives_version v turn n q f = f ∙ sym (seen_by None (Some v) n q)

  -- none, of a hosted key
  pub gives_none : (turn : ReadTurn) (copy : Snap) → None ≡ last_pre (of_key b store cache) k t.0 → None ≡ visible (of_key b store cache) k t.0 → b ≡ true → copy ≡ snap
      → turn ≡ gated_at node copy (Plain Absent None 0 copy) → turn ≡ list_read node map own store cache snap k
  gives_none turn copy n q y same f =
      f ∙ ap (λ (c : Snap). gated_at node c (Plain Absent None 0 c)) same
      ∙ sym (ap (λ c. if c then gated_at node snap (Plain Absent None 0 snap) else Away (first_or node (maps.replicas map (maps.part_of map k)))) (hosted_is ∙ y))
      ∙ sym (seen_by None None n q)

  -- none, of a key that is not hosted
  pub gives_away : (m : NodeId) → None ≡ last_pre (of_key b store cache) k t.0 → None ≡ visible (of_key b store cache) k t.0 → b ≡ false
      → ((n : NodeId) → m ≡ first_or n (maps.replicas map part)) → Away m ≡ list_read node map own store cache snap k
  gives_away m n q y f =
      ap Away (f node ∙ ap (λ u. first_or node (maps.replicas map u)) p)
      ∙ sym (ap (λ c. if c then gated_at node snap (Plain Absent None 0 snap) else Away (first_or node (maps.replicas map (maps.part_of map k)))) (hosted_is ∙ y))
      ∙ sym (seen_by None None n q)

-- ---- by a view

-- the read of a version is that of a view whose own transactions have the snapshots that are told of
kind_same : (here : Here) (xs : List Own) (own : List OwnSnap) (snap : Snap) (v : Version) (kind : Kind) → Agree xs own → (is_local kind ≡ true → IsNamed own v.tx.seq)
    → kind_read here.node own snap v kind ≡ read_kind here xs snap v kind
kind_same here xs own snap v Pre a h = refl
kind_same here xs own snap v Local a h =
    let same = taken_here xs own v.tx.seq snap a (h refl) in
    sym (gated_here here (taken_over (told own v.tx.seq) v.tx.seq snap) (Speculative v.value v.tx (taken_over (told own v.tx.seq) v.tx.seq snap)))
    ∙ ap (λ (c : Snap). gated here c (Speculative v.value v.tx c)) (sym same)
kind_same here xs own snap v Final a h = sym (gated_here here (accept_final snap v.ts.0) (Plain v.value (Some v.tx) v.ts.0 (accept_final snap v.ts.0)))

module _ (here : Here) (view : View) (node : NodeId) (own : List OwnSnap) (store : StoreList) (cache : CacheList) (map : maps.PartitionMap) (s : Shows here view node own store cache map)
    (at_node : StandAt node map store cache) (is : IsStore store) (ic : IsCache cache) (snap : Snap) (k : KeyId) (told_of : AreTold own snap.rs store.versions cache.versions) where
  mine : List Version
  mine = held map node store.versions cache.versions k

  nothing : Turns.ReadTurn
  nothing = Plain Absent None 0 snap

  row : List NodeId
  row = maps.replicas map (maps.part_of map k)

  none_same : (if maps.hosts map node (maps.part_of map k) then gated_at node snap (Plain Absent None 0 snap) else Away (first_or node (maps.replicas map (maps.part_of map k))))
      ≡ read_visible here view.own snap k None
  unfolding nothing row
  none_same =
      ap (λ c. if c then gated_at node snap nothing else Away (first_or node row)) (sym (hosted_here here view node own store cache map s at_node is ic k))
      ∙ ap (λ n. if hosts_key here k then gated_at n snap nothing else Away (first_or n row)) (sym s.same_node)
      ∙ ap (λ x. if hosts_key here k then x else Away (first_or here.node row)) (sym (gated_here here snap nothing))
      ∙ ap (λ m. if hosts_key here k then gated here snap nothing else Away m) (sym (master_here here view node own store cache map s at_node is ic k))

  seen_same : (w : Option Version) → visible mine k snap.rs ≡ w → visible_read node map own snap k w ≡ read_visible here view.own snap k w
  unfolding mine
  seen_same None q = none_same
  seen_same (Some v) q =
      let one = visible_told own snap.rs (maps.hosts map node (maps.part_of map k)) store.versions cache.versions k (stamp snap.rs) v told_of refl (sym q) in
      ap (λ n. kind_read n own snap v v.kind) (sym s.same_node) ∙ kind_same here view.own own snap v v.kind s.agree one.0.origin

  -- a view that shows the lists says what the read comes to
  pub read_shown : list_read node map own store.versions cache.versions snap k ≡ read_turn here view snap k
  unfolding mine read_turn
  read_shown =
      by_pre (last_pre mine k snap.rs)
      ∙ ap (λ o. Turns.read_after here view snap k o) (sym (pre_seen here view node own store cache map s at_node is ic k snap.rs (maps.hosts map node (maps.part_of map k)) refl))
    where
      by_pre : (o : Option Version) → read_after node map own mine snap k o ≡ Turns.read_after here view snap k o
      by_pre (Some v) = refl
      by_pre None =
          seen_same (visible mine k snap.rs) refl
          ∙ ap (λ w. read_visible here view.own snap k w) (sym (visible_seen here view node own store cache map s at_node is ic k snap.rs (maps.hosts map node (maps.part_of map k)) refl))
