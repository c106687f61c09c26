-- What arrives at a node is judged as its view says, also where its partition is not one of the node.
use Rattle.std.proofs.Common.{Bool, List, None, Option, Some, [], ap, arith, eqb-true, false, if◌then◌else◌, is_some, refl, subst, sym, true, length, ℕ, ◌&&◌, ◌==◌, ◌∙◌, ◌≡◌}
use Rattle.std.proofs.lemmas.Bool.{false_from_ne_true}
use Rattle.std.proofs.lemmas.Option.{slice_get_within}
use Rattle.std.specs.List.{list_any}
use Rattle.cache_partition.specs.CacheLists.{CacheList}
use Rattle.node_core.proofs.Parts.Showing.{Stored, beside_all, of_store, shows_replica}
use Rattle.partition_map.specs.Maps.{PartitionMap}
use Rattle.prepare_master.proofs.Showing.{IsUnwritten}
use Rattle.prepare_master.specs.MasterTurns.{IsBeside, IsJudged, ShowsReplica, is_fresh, is_ignored}
use Rattle.replica_apply.proofs.Agreeing.{evicted_alone}
use Rattle.replica_apply.specs.declared.slaves.Evicted.{Evicted}
use Rattle.replica_apply.specs.declared.slaves.SlaveTurn.{SlaveTurn}
use Rattle.replica_apply.specs.declared.slaves.SlaveTurn.TheVariants as slaves
use Rattle.replica_apply.specs.Slaves.{IsLast, IsSlaveTurn, evicted_by, evicted_to, is_taken, named, slave_done, taken_at}
use Rattle.replica_store.specs.StoreLists.{StoreList}
use Rattle.str_base.proofs.Lists.{found_passes}
use Rattle.str_base.proofs.Tests.{and_true_left, and_true_right}
use Rattle.str_base.specs.declared.names.NodeId.{NodeId}
use Rattle.str_base.specs.declared.names.PartId.{PartId}
use Rattle.str_base.specs.declared.names.TxId.{TxId}
use Rattle.str_base.specs.declared.names.Version.{Version}
use Rattle.str_base.specs.declared.names.Write.{Write}
use Rattle.str_base.specs.Versions.{is_local, of_tx, same_key, same_node}
use Rattle.str_model.proofs.Changes.PairWords.{any_has}
use Rattle.str_model.proofs.KindTests.{local_kind}
use Rattle.str_model.proofs.ViewFacts.ValidMessages.{NamedWrites}
use Rattle.str_model.proofs.ViewFacts.VersionsKept.{master_hosts}
use Rattle.str_model.specs.Arrivals.{held_key, replicate_rule}
use Rattle.str_model.specs.declared.messages.Arrived.{Arrived}
use Rattle.str_model.specs.Proposals.{Accept, Ignore, MasterTurn, Park, Refuse, prepare_turn, takes}
use Rattle.str_model.specs.Views.{Doing, View}
use Rattle.str_scene.specs.Scenes.{Here, hosts, is_master, map_of}
use Rattle.version_chain.proofs.Each.{each_so}
use Rattle.version_chain.specs.ChainLists.{Each}

-- ---- a Prepare

ignored_is : (t : MasterTurn) → is_ignored t ≡ true → t ≡ Ignore
ignored_is Ignore e = refl
ignored_is (Accept ts) e = absurd cc
ignored_is (Refuse by k) e = absurd cc
ignored_is (Park by) e = absurd cc

not_master : (here : Here) (a : Arrived) → hosts here.scene here.node a.part ≡ false → is_master here.scene here.node a.part ≡ false
not_master here a e = false_from_ne_true (is_master here.scene here.node a.part) (λ m. cc (master_hosts here a.part m, e))

prepare_away : (here : Here) (v : View) (a : Arrived) → hosts here.scene here.node a.part ≡ false → prepare_turn here v a ≡ Ignore
unfolding prepare_turn
prepare_away here v a e = rw (not_master here a e) refl

module _ (here : Here) (v : View) (store : StoreList) (cache : CacheList) (s : Stored here v store cache) (a : Arrived) (n : NamedWrites here a.tx a.part a.rs a.lc a.writes) where
  pub prepare_is : (turn : MasterTurn) → (ShowsReplica v a store.versions v.marks → turn ≡ prepare_turn here v a)
      → IsJudged (is_fresh (map_of here.scene) here.node store.versions v.done v.waiters a) a store.versions v.marks turn → turn ≡ prepare_turn here v a
  prepare_is turn f j = by_test (hosts here.scene here.node a.part) refl
    where
      away : is_master here.scene here.node a.part ≡ false → is_ignored turn ≡ true
      away m = rw m at j.ignored

      by_test : (b : Bool) → hosts here.scene here.node a.part ≡ b → turn ≡ prepare_turn here v a
      by_test true e = f (shows_replica here v store cache s a n e)
      by_test false e = ignored_is turn (away (not_master here a e)) ∙ sym (prepare_away here v a e)

  -- ---- a Replicate

  -- who holds a key here is one of the own transactions
  pub last_held : IsLast here.node store.versions a.writes (length v.own)
  last_held q l = by_held (held_key store.versions (named here.node q) a.writes) refl
    where
      by_held : (o : Option Write) → held_key store.versions (named here.node q) a.writes ≡ o → o ≡ None
      by_held None e = refl
      by_held (Some w) e =
          let tx : TxId = named here.node q in
          let t = found_passes (λ (w : Write). list_any (λ u. same_key u.key w.key && (of_tx tx u && is_local u.kind)) store.versions) a.writes w e in
          let r = any_has (λ (u : Version). same_key u.key w.key && (of_tx tx u && is_local u.kind)) store.versions t in
          let both = and_true_right (same_key r.0.key w.key) (of_tx tx r.0 && is_local r.0.kind) r.2 in
          let o = s.facts.base.locals r.0 (of_store here v store cache s r.0 r.1).0 (local_kind r.0.kind (and_true_right (of_tx tx r.0) (is_local r.0.kind) both)) in
          let k : r.0.tx.seq ≡ q = eqb-true r.0.tx.seq q (and_true_right (same_node r.0.tx.node here.node) (r.0.tx.seq == q) (and_true_left (of_tx tx r.0) (is_local r.0.kind) both)) in
          let i = slice_get_within v.own o.place o.owner o.owns in
          let p = o.seq in absurd (omega (arith, l, k, i, p))

  unwritten_cache : hosts here.scene here.node a.part ≡ true → Each (IsUnwritten a.writes) cache.versions
  unwritten_cache e = each_so (IsBeside a) (IsUnwritten a.writes) cache.versions (λ u b. b.1) (beside_all here v store cache s a n e)

  not_taken : (turn : SlaveTurn) (es : List Evicted) → IsSlaveTurn (is_taken (map_of here.scene) here.node store.versions v.done a) here.node store.versions v.marks a es turn
      → hosts here.scene here.node a.part ≡ false → turn ≡ slaves.Ignore
  not_taken turn es t e = none_ignores turn (rw e at t.taken)
    where
      none_ignores : (z : SlaveTurn) → taken_at z ≡ None → z ≡ slaves.Ignore
      none_ignores slaves.Ignore q = refl
      none_ignores (slaves.Take ts evict) q = absurd (cc q)

  replicate_away : (d : Doing) → d.view ≡ v → hosts here.scene here.node a.part ≡ false → replicate_rule here a d ≡ None
  unfolding replicate_rule takes
  replicate_away d q e = rw e refl

  pub slave_is : (d : Doing) → d.view ≡ v → (turn : SlaveTurn) → (ShowsReplica v a store.versions v.marks → replicate_rule here a d ≡ slave_done here a turn d)
      → IsSlaveTurn (is_taken (map_of here.scene) here.node store.versions v.done a) here.node store.versions v.marks a (evicted_to here.node store.versions a.writes (length v.own)) turn
      → replicate_rule here a d ≡ slave_done here a turn d
  slave_is d q turn f t = by_test (hosts here.scene here.node a.part) refl
    where
      by_test : (b : Bool) → hosts here.scene here.node a.part ≡ b → replicate_rule here a d ≡ slave_done here a turn d
      by_test true e = f (shows_replica here v store cache s a n e)
      by_test false e = replicate_away d q e ∙ ap (λ z. slave_done here a z d) (sym (not_taken turn _ t e))

  pub slave_evicts : (turn : SlaveTurn)
      → IsSlaveTurn (is_taken (map_of here.scene) here.node store.versions v.done a) here.node store.versions v.marks a (evicted_to here.node store.versions a.writes (length v.own)) turn
      → (k : ℕ) × (evicted_by turn ≡ evicted_to here.node v.versions a.writes k)
  slave_evicts turn t = by_test (hosts here.scene here.node a.part) refl
    where
      taken : hosts here.scene here.node a.part ≡ true → (b : Bool) → is_some (taken_at turn) ≡ b → (k : ℕ) × (evicted_by turn ≡ evicted_to here.node v.versions a.writes k)
      taken e true g = (
        length v.own,
        t.evicted ∙ (ap (λ b. if b then evicted_to here.node store.versions a.writes (length v.own) else []) g
            ∙ (sym (evicted_alone here.node a.writes cache.versions store.versions (length v.own) (unwritten_cache e))
            ∙ ap (λ vs. evicted_to here.node vs a.writes (length v.own)) (sym s.versions))),
      )
      taken e false g = (0, t.evicted ∙ ap (λ b. if b then evicted_to here.node store.versions a.writes (length v.own) else []) g)

      by_test : (b : Bool) → hosts here.scene here.node a.part ≡ b → (k : ℕ) × (evicted_by turn ≡ evicted_to here.node v.versions a.writes k)
      by_test true e = taken e (is_some (taken_at turn)) refl
      by_test false e = (0, ap evicted_by (not_taken turn _ t e))

-- what was judged at the node and by the map that a call was handed
pub last_here : (node here : NodeId) (vs : List Version) (ws : List Write) (k : ℕ) → node ≡ here → IsLast here vs ws k → IsLast node vs ws k
last_here node here vs ws k n l = subst (λ z. IsLast z vs ws k) (sym n) l

pub judged_here : (node here : NodeId) (m map : PartitionMap) (vs : List Version) (done : List (TxId × PartId)) (marks : List ℕ) (a : Arrived) (ws : List Write) (k : ℕ) (turn : SlaveTurn) → node ≡ here → m ≡ map
    → IsSlaveTurn (is_taken map node vs done a) node vs marks a (evicted_to node vs ws k) turn → IsSlaveTurn (is_taken m here vs done a) here vs marks a (evicted_to here vs ws k) turn
judged_here node here m map vs done marks a ws k turn n e t =
    subst (λ z. IsSlaveTurn (is_taken m z vs done a) z vs marks a (evicted_to z vs ws k) turn) n
    (subst (λ y. IsSlaveTurn (is_taken y node vs done a) node vs marks a (evicted_to node vs ws k) turn) (sym e) t)
