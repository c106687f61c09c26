-- What the stores of a node show of the written keys is what its view shows.
use Rattle.std.proofs.Common.{Bool, Err, List, None, Ok, Option, Result, Some, [], ap, false, find, if◌then◌else◌, max, refl, sym, true, ℕ, ◌++◌, ◌+◌, ◌∙◌, ◌∷◌, ◌≡◌}
use Rattle.cache_partition.specs.CacheLists.{CacheList, IsCache}
use Rattle.dependency_set.specs.declared.snaps.OwnSnap.{OwnSnap}
use Rattle.dependency_set.specs.Snapshots.{Snap, holds, oldest}
use Rattle.local_certify.specs.Judging.{after, join_one, judged, judged_all, passed_by}
use Rattle.local_certify.specs.ListCerts.{cert_found, closed_at, joined_told, list_cert, met_in}
use Rattle.partition_map.specs.Maps as maps
use Rattle.replica_store.specs.StoreLists.{IsStore, StoreList}
use Rattle.snapshot_read.proofs.Gating.{name_here}
use Rattle.snapshot_read.proofs.Reading.{taken_here}
use Rattle.snapshot_read.proofs.Seeing.{chain_seen, newest_seen}
use Rattle.snapshot_read.specs.Shown.{Agree, AreTold, IsNamed, IsTold, Shows, StandAt, held}
use Rattle.str_base.specs.declared.names.KeyId.{KeyId}
use Rattle.str_base.specs.declared.names.Kind.{Kind}
use Rattle.str_base.specs.declared.names.Kind.TheVariants.{Final, Local, Pre}
use Rattle.str_base.specs.declared.names.NodeId.{NodeId}
use Rattle.str_base.specs.declared.names.TxId.{TxId}
use Rattle.str_base.specs.declared.names.Version.{Version}
use Rattle.str_base.specs.declared.names.Write.{Write}
use Rattle.str_base.specs.Versions.{chain, is_local, mark_of, newest, same_key}
use Rattle.str_model.specs.Turns.{Certified, WaitGate, cert_after, cert_turn, conflicts, joined, joined_one, met, passed}
use Rattle.str_model.specs.Views.{Own, View}
use Rattle.str_scene.specs.Scenes.{Here}
use Rattle.version_chain.proofs.Each.{each_insert_all, each_kept, each_so}
use Rattle.version_chain.specs.ChainLists.{Each, merged}

-- ---- one list

-- one list after the other
judged_both : (own : List OwnSnap) (rs : ℕ) (us vs : List Version) (snap : Snap) → judged own rs (us ++ vs) snap ≡ after (judged own rs us snap) (judged own rs vs)
judged_both own rs [] vs snap = refl
judged_both own rs (u ∷ us) vs snap = by_test (conflicts rs u) (judged_both own rs us vs (join_one own u u.kind snap))
  where
    by_test : (b : Bool) → judged own rs (us ++ vs) (join_one own u u.kind snap) ≡ after (judged own rs us (join_one own u u.kind snap)) (judged own rs vs)
        → (if b then Err u else judged own rs (us ++ vs) (join_one own u u.kind snap)) ≡ after (if b then Err u else judged own rs us (join_one own u u.kind snap)) (judged own rs vs)
    by_test true rec = refl
    by_test false rec = rec

-- the judgement of two lists, each as it is
after_same : (r : Result Snap Version) (f g : Snap → Result Snap Version) → ((s : Snap) → f s ≡ g s) → after r f ≡ after r g
after_same (Ok s) f g e = e s
after_same (Err v) f g e = refl

-- a conflict is the first
pub judged_err : (own : List OwnSnap) (rs : ℕ) (vs : List Version) (snap : Snap) (v : Version) → judged own rs vs snap ≡ Err v → find (conflicts rs) vs ≡ Some v
judged_err own rs [] snap v e = absurd (cc e)
judged_err own rs (u ∷ us) snap v e = by_test (conflicts rs u) e (λ f. judged_err own rs us (join_one own u u.kind snap) v f)
  where
    by_test : (b : Bool) → (if b then Err u else judged own rs us (join_one own u u.kind snap)) ≡ Err v → (judged own rs us (join_one own u u.kind snap) ≡ Err v → find (conflicts rs) us ≡ Some v)
        → (if b then Some u else find (conflicts rs) us) ≡ Some v
    by_test true f rec = let same : u ≡ v = cc f in rw same refl
    by_test false f rec = rec f

-- without a conflict all is taken over
pub judged_ok : (own : List OwnSnap) (rs : ℕ) (vs : List Version) (snap s : Snap) → judged own rs vs snap ≡ Ok s → (find (conflicts rs) vs ≡ None) × (s ≡ joined_told own vs snap)
judged_ok own rs [] snap s e = (refl, cc e)
judged_ok own rs (u ∷ us) snap s e = by_test (conflicts rs u) e (λ f. judged_ok own rs us (join_one own u u.kind snap) s f)
  where
    by_test : (b : Bool) → (if b then Err u else judged own rs us (join_one own u u.kind snap)) ≡ Ok s
        → (judged own rs us (join_one own u u.kind snap) ≡ Ok s → (find (conflicts rs) us ≡ None) × (s ≡ joined_told own us (join_one own u u.kind snap)))
        → ((if b then Some u else find (conflicts rs) us) ≡ None) × (s ≡ joined_told own us (join_one own u u.kind snap))
    by_test true f rec = absurd (cc f)
    by_test false f rec = rec f

-- the versions of all keys are judged one after the other
pub judged_met : (own : List OwnSnap) (rs : ℕ) (versions : KeyId → List Version) (ws : List Write) (snap : Snap) → judged_all own rs versions ws snap ≡ judged own rs (met_in versions ws) snap
judged_met own rs versions [] snap = refl
judged_met own rs versions (w ∷ ws) snap =
    after_same (judged own rs (chain w.key (versions w.key)) snap) (judged_all own rs versions ws) (judged own rs (met_in versions ws)) (λ t. judged_met own rs versions ws t)
    ∙ sym (judged_both own rs (chain w.key (versions w.key)) (met_in versions ws) snap)

-- ---- what a view says of them

-- its transaction is told of, where it is Local
abbrev pub HasOrigin : List OwnSnap → Version → Type 0
HasOrigin own v = is_local v.kind ≡ true → IsNamed own v.tx.seq

join_same : (xs : List Own) (own : List OwnSnap) (v : Version) (kind : Kind) (snap : Snap) → Agree xs own → (is_local kind ≡ true → IsNamed own v.tx.seq) → join_one own v kind snap ≡ joined_one xs v kind snap
join_same xs own v Local snap a h = sym (taken_here xs own v.tx.seq snap a (h refl))
join_same xs own v Pre snap a h = refl
join_same xs own v Final snap a h = refl

-- own transactions with the snapshots that are told of bring the same
joined_same : (xs : List Own) (own : List OwnSnap) (vs : List Version) (snap : Snap) → Agree xs own → Each (HasOrigin own) vs → joined_told own vs snap ≡ joined xs vs snap
joined_same xs own [] snap a h = refl
joined_same xs own (v ∷ vs) snap a h = joined_same xs own vs (join_one own v v.kind snap) a h.1 ∙ ap (λ s. joined xs vs s) (join_same xs own v v.kind snap a h.0)

-- ---- what is met

each_joined : (P : Version → Type 0) (us vs : List Version) → Each P us → Each P vs → Each P (us ++ vs)
each_joined P [] vs e f = f
each_joined P (u ∷ us) vs e f = (e.0, each_joined P us vs e.1 f)

each_met : (P : Version → Type 0) (ws : List Write) (vs : List Version) → Each P vs → Each P (met ws vs)
each_met P [] vs e = tt
each_met P (w ∷ ws) vs e = each_joined P (chain w.key vs) (met ws vs) (each_kept (λ v. same_key v.key w.key) P vs e) (each_met P ws vs e)

module _ (here : Here) (view : View) (node : NodeId) (own : List OwnSnap) (store : StoreList) (cache : CacheList) (map' : maps.PartitionMap) (s : Shows here view node own store cache map')
    (at_node : StandAt node map' store cache) (is : IsStore store) (ic : IsCache cache) where
  -- the same versions are met
  met_seen : (ws : List Write) → met_in (held map' node store.versions cache.versions) ws ≡ met ws view.versions
  met_seen [] = refl
  met_seen (w ∷ ws) =
      ap (λ vs. vs ++ met_in (held map' node store.versions cache.versions) ws)
      (sym (chain_seen here view node own store cache map' s at_node is ic w.key (maps.hosts map' node (maps.part_of map' w.key)) refl))
      ∙ ap (λ vs. chain w.key view.versions ++ vs) (met_seen ws)

  -- the same has to be passed
  passed_seen : (marks : List ℕ) (ws : List Write) → view.marks ≡ marks → passed view ws ≡ passed_by marks (held map' node store.versions cache.versions) ws
  passed_seen marks [] e = refl
  passed_seen marks (w ∷ ws) e =
      ap (λ n. max (max (mark_of view.marks w.key) n) (passed view ws)) (newest_seen here view node own store cache map' s at_node is ic w.key (maps.hosts map' node (maps.part_of map' w.key)) refl)
      ∙ ap (λ ms. max (max (mark_of ms w.key) (newest (held map' node store.versions cache.versions w.key) w.key)) (passed view ws)) e
      ∙ ap (λ n. max (max (mark_of marks w.key) (newest (held map' node store.versions cache.versions w.key) w.key)) n) (passed_seen marks ws e)

  -- each that is met has its origin told of
  origins : (rs : ℕ) (ws : List Write) → AreTold own rs store.versions cache.versions → Each (HasOrigin own) (met ws view.versions)
  origins rs ws t =
      let each = each_so (IsTold own rs) (HasOrigin own) (merged cache.versions store.versions) (λ v h. h.origin) (each_insert_all (IsTold own rs) cache.versions store.versions t.1 t.0) in
      each_met (HasOrigin own) ws view.versions (rw s.versions each)

  -- a view that shows the lists says what the certification comes to
  pub cert_shown : (marks : List ℕ) (snap : Snap) (ws : List Write) → view.marks ≡ marks → AreTold own snap.rs store.versions cache.versions
      → list_cert node map' own store.versions cache.versions marks snap ws ≡ cert_turn here view snap ws
  unfolding cert_turn
  cert_shown marks snap ws m t =
      let versions = held map' node store.versions cache.versions in
      let past = passed_by marks versions ws in
      ap (λ vs. cert_found node past (joined_told own vs snap) (find (conflicts snap.rs) vs)) (met_seen ws)
      ∙ ap (λ (x : Snap). cert_found node past x (find (conflicts snap.rs) (met ws view.versions))) (joined_same view.own own (met ws view.versions) snap s.agree (origins snap.rs ws t))
      ∙ ap (λ p. cert_found node p (joined view.own (met ws view.versions) snap) (find (conflicts snap.rs) (met ws view.versions))) (sym (passed_seen marks ws m))
      ∙ by_found (find (conflicts snap.rs) (met ws view.versions))
    where
      by_found : (o : Option Version) → cert_found node (passed view ws) (joined view.own (met ws view.versions) snap) o ≡ cert_after here view snap ws o
      by_found (Some v) = refl
      by_found None =
          let new = joined view.own (met ws view.versions) snap in
          ap (λ n. closed_at n (passed view ws) new) (sym s.same_node)
          ∙ ap (λ (n : TxId). if holds new then Certified (1 + max new.rs (passed view ws)) new else WaitGate n) (sym (name_here here (oldest new.deps)))
