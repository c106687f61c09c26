-- A view that shows the store judges what arrived as the store alone does.
use Rattle.std.proofs.Common.{Bool, List, None, Option, Some, [], ap, false, find, if◌then◌else◌, map, max, not, refl, sym, true, ℕ, ◌&&◌, ◌++◌, ◌+◌, ◌∙◌, ◌∷◌, ◌≡◌, ◌||◌}
use Rattle.str_base.proofs.Tests.{or_false_left, or_false_right}
use Rattle.std.proofs.lemmas.Bool.{and_right}
use Rattle.std.specs.List.{last_or, list_any}
use Rattle.partition_map.specs.Maps.{PartitionMap, first_or, leads, replicas}
use Rattle.prepare_master.specs.MasterTurns.{IsAt, IsBeside, ShowsReplica, by_reasons, is_fresh, judged, proposal, to_pass}
use Rattle.replica_store.proofs.Merging.{merged_unseen}
use Rattle.str_base.specs.declared.names.KeyId.{KeyId}
use Rattle.str_base.specs.declared.names.NodeId.{NodeId}
use Rattle.str_base.specs.declared.names.PartId.{PartId}
use Rattle.str_base.specs.declared.names.TxId.{TxId}
use Rattle.str_base.specs.declared.names.Version.{Version}
use Rattle.str_base.specs.declared.names.Write.{Write}
use Rattle.str_base.specs.Versions.{chain, insert_version, is_before, mark_of, newest, of_pair, same_key, same_node, same_part, same_tx, ts_or_zero}
use Rattle.str_model.specs.declared.messages.Arrived.{Arrived}
use Rattle.str_model.specs.declared.messages.Waiter.{Waiter}
use Rattle.str_model.specs.Proposals
use Rattle.str_model.specs.Proposals.{holds_pair, is_pair, master_refuses, master_turn, parks, prepare_turn, proposed, refuses}
use Rattle.str_model.specs.Turns.{met}
use Rattle.str_model.specs.Views.{View}
use Rattle.str_scene.specs.Scenes.{Here, map_of}
use Rattle.version_chain.proofs.Each.{each_so}
use Rattle.version_chain.specs.ChainLists.{Each, merged}

-- ---- versions that no write touches

-- the version is of a key that is not written
abbrev pub IsUnwritten : List Write → Version → Type 0
IsUnwritten ws v = list_any (λ w. same_key v.key w.key) ws ≡ false

-- the versions of a key
pub chain_alone : (k : KeyId) (cache vs : List Version) → Each (λ v. same_key v.key k ≡ false) cache → chain k (merged cache vs) ≡ chain k vs
chain_alone k cache vs e = merged_unseen (λ v. same_key v.key k) cache vs e

module _ (w : Write) (ws : List Write) (cache : List Version) (e : Each (IsUnwritten (w ∷ ws)) cache) where
  pub first_key : Each (λ v. same_key v.key w.key ≡ false) cache
  first_key = each_so (IsUnwritten (w ∷ ws)) (λ v. same_key v.key w.key ≡ false) cache (λ v h. or_false_left (same_key v.key w.key) (list_any (λ u. same_key v.key u.key) ws) h) e

  pub other_keys : Each (IsUnwritten ws) cache
  other_keys = each_so (IsUnwritten (w ∷ ws)) (IsUnwritten ws) cache (λ v h. or_false_right (same_key v.key w.key) (list_any (λ u. same_key v.key u.key) ws) h) e

-- the versions of the written keys
pub met_alone : (ws : List Write) (cache vs : List Version) → Each (IsUnwritten ws) cache → met ws (merged cache vs) ≡ met ws vs
met_alone [] cache vs e = refl
met_alone (w ∷ ws) cache vs e =
    ap (λ xs. xs ++ met ws (merged cache vs)) (chain_alone w.key cache vs (first_key w ws cache e)) ∙ ap (λ xs. chain w.key vs ++ xs) (met_alone ws cache vs (other_keys w ws cache e))

-- what has to be passed
pub pass_alone : (ws : List Write) (cache vs : List Version) (marks : List ℕ) → Each (IsUnwritten ws) cache → to_pass (merged cache vs) marks ws ≡ to_pass vs marks ws
pass_alone [] cache vs marks e = refl
pass_alone (w ∷ ws) cache vs marks e =
    ap (λ xs. max (max (mark_of marks w.key) (ts_or_zero (last_or None xs))) (to_pass (merged cache vs) marks ws)) (chain_alone w.key cache vs (first_key w ws cache e))
    ∙ ap (λ n. max (max (mark_of marks w.key) (newest vs w.key)) n) (pass_alone ws cache vs marks (other_keys w ws cache e))

-- ---- tests that none passes

-- one more that fails a test
pub any_insert : (test : Version → Bool) (v : Version) (vs : List Version) → test v ≡ false → list_any test (insert_version v vs) ≡ list_any test vs
any_insert test v [] e = rw e refl
any_insert test v (w ∷ ws) e = by_before (is_before v w) (any_insert test v ws e)
  where
    by_before : (b : Bool) → list_any test (insert_version v ws) ≡ list_any test ws → list_any test (if b then v ∷ w ∷ ws else w ∷ insert_version v ws) ≡ list_any test (w ∷ ws)
    by_before true rec = rw e refl
    by_before false rec = ap (λ b. test w || b) rec

-- more that fail a test
pub any_alone : (test : Version → Bool) (cache vs : List Version) → Each (λ v. test v ≡ false) cache → list_any test (merged cache vs) ≡ list_any test vs
any_alone test [] vs e = refl
any_alone test (v ∷ cache) vs e = any_alone test cache (insert_version v vs) e.1 ∙ any_insert test v vs e.0

-- ---- decisions

-- a Prepare is judged by the versions of its keys and by what it has to pass
pub judged_by : (view : View) (a : Arrived) → master_turn view a ≡ by_reasons (find (refuses a) (met a.writes view.versions)) (find (parks a) (met a.writes view.versions)) (proposed view a)
unfolding master_turn
judged_by view a = by_refusal (find (refuses a) (met a.writes view.versions))
  where
    by_park : (o : Option Version) → Proposals.master_parks view a o ≡ by_reasons None o (proposed view a)
    by_park None = refl
    by_park (Some v) = refl

    by_refusal : (o : Option Version) → master_refuses view a o ≡ by_reasons o (find (parks a) (met a.writes view.versions)) (proposed view a)
    by_refusal None = by_park (find (parks a) (met a.writes view.versions))
    by_refusal (Some v) = refl

module _ (view : View) (a : Arrived) (vs : List Version) (marks : List ℕ) (s : ShowsReplica view a vs marks) where
  pub unwritten : Each (IsUnwritten a.writes) s.cache
  unwritten = each_so (IsBeside a) (IsUnwritten a.writes) s.cache (λ v h. h.1) s.beside

  shown_met : met a.writes view.versions ≡ met a.writes vs
  shown_met = ap (λ us. met a.writes us) s.versions ∙ met_alone a.writes s.cache vs unwritten

  shown_proposal : proposed view a ≡ proposal vs marks a
  shown_proposal =
      ap (λ us. proposal us view.marks a) s.versions ∙ ap (λ ms. proposal (merged s.cache vs) ms a) s.marks ∙ ap (λ n. max a.lc.0 (1 + n)) (pass_alone a.writes s.cache vs marks unwritten)

  -- it is judged as by the store alone
  pub shown_judged : master_turn view a ≡ judged a vs marks
  shown_judged =
      judged_by view a ∙ ap (λ us. by_reasons (find (refuses a) us) (find (parks a) us) (proposed view a)) shown_met
      ∙ ap (λ n. by_reasons (find (refuses a) (met a.writes vs)) (find (parks a) (met a.writes vs)) n) shown_proposal

  -- a pair with this partition
  pub shown_pair : list_any (of_pair a.tx a.part) view.versions ≡ list_any (of_pair a.tx a.part) vs
  shown_pair =
      ap (λ us. list_any (of_pair a.tx a.part) us) s.versions
      ∙ any_alone (of_pair a.tx a.part) s.cache vs (each_so (IsBeside a) (λ v. of_pair a.tx a.part v ≡ false) s.cache (λ v h. and_right (same_tx v.tx a.tx) (same_part v.part a.part) h.0) s.beside)

-- the first of a row leads it
pub leads_first : (row : List NodeId) (m node : NodeId) → ((n : NodeId) → m ≡ first_or n row) → leads node row ≡ same_node m node
leads_first [] m node f = let p : m.0 ≡ 0 = ap (λ n. n.0) (f (record { 0 = 0 })) in let q : m.0 ≡ 1 = ap (λ n. n.0) (f (record { 0 = 1 })) in absurd (cc (p, q))
leads_first (r ∷ row) m node f = ap (λ n. same_node n node) (sym (f m))

-- another node leads
pub not_led : (map : PartitionMap) (node : NodeId) (vs : List Version) (done : List (TxId × PartId)) (ws : List Waiter) (a : Arrived) (m : NodeId)
    → ((n : NodeId) → m ≡ first_or n (replicas map a.part)) → same_node m node ≡ false → is_fresh map node vs done ws a ≡ false
not_led map node vs done ws a m f e = rw (leads_first (replicas map a.part) m node f, e) refl

-- this node leads
pub led : (map : PartitionMap) (node : NodeId) (vs : List Version) (done : List (TxId × PartId)) (ws : List Waiter) (a : Arrived) (m : NodeId) (p : Bool)
    → ((n : NodeId) → m ≡ first_or n (replicas map a.part)) → same_node m node ≡ true → same_node a.tx.node node ≡ false
    → list_any (is_pair a.tx a.part) done ≡ false → list_any (of_pair a.tx a.part) vs ≡ false → p ≡ list_any (holds_pair a.tx a.part) ws → is_fresh map node vs done ws a ≡ not p
led map node vs done ws a m p f e n d v w = rw (leads_first (replicas map a.part) m node f, e, n, d, v, w) refl

module _ (here : Here) (node : NodeId) (map : PartitionMap) (view : View) (a : Arrived) (vs : List Version) (marks : List ℕ) (done : List (TxId × PartId)) (ws : List Waiter)
    (at : IsAt here node map) (s : ShowsReplica view a vs marks) (d : view.done ≡ done) (w : view.waiters ≡ ws) where
  -- the view has it as new where the lists do
  shown_new : is_fresh (map_of here.scene) here.node view.versions view.done view.waiters a ≡ is_fresh map node vs done ws a
  shown_new =
      ap (λ (m : PartitionMap). is_fresh m here.node view.versions view.done view.waiters a) at.1 ∙ ap (λ n. is_fresh map n view.versions view.done view.waiters a) at.0
      ∙ ap (λ b. leads node (replicas map a.part) && (not (same_node a.tx.node node) && not ((list_any (is_pair a.tx a.part) view.done || b) || list_any (holds_pair a.tx a.part) view.waiters))) (shown_pair view a vs marks s)
      ∙ ap (λ ds. is_fresh map node vs ds view.waiters a) d ∙ ap (λ us. is_fresh map node vs done us a) w

  -- it is prepared as by the store and the lists alone
  pub shown_prepared : (b : Bool) → is_fresh map node vs done ws a ≡ b → prepare_turn here view a ≡ (if b then judged a vs marks else Proposals.Ignore)
  unfolding prepare_turn
  shown_prepared b e =
      ap (λ c. if c then master_turn view a else Proposals.Ignore) (shown_new ∙ e) ∙ ap (λ t. if b then t else Proposals.Ignore) (shown_judged view a vs marks s)
