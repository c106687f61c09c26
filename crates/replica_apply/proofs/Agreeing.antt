-- A view that shows the store says of a Replicate what the store says.
use Rattle.std.proofs.Common.{Bool, List, None, Some, [], ap, filter, if◌then◌else◌, max, not, refl, suc, sym, zero, ℕ, ◌&&◌, ◌+◌, ◌++◌, ◌∙◌, ◌∷◌, ◌≡◌, ◌||◌}
use Rattle.std.specs.List.{last_or, list_any}
use Rattle.partition_map.specs.Maps
use Rattle.partition_map.specs.Maps.{PartitionMap, leads, replicas}
use Rattle.prepare_master.specs.MasterTurns.{IsAt, ShowsReplica, proposal, to_pass}
use Rattle.prepare_master.proofs.Showing.{IsUnwritten, chain_alone, first_key, other_keys, shown_pair, unwritten}
use Rattle.replica_apply.specs.Slaves.{evicted_to, evicts, is_local_of, is_taken, named}
use Rattle.replica_apply.proofs.Holding.{any_chain}
use Rattle.replica_apply.proofs.Keeping.{kept_chain}
use Rattle.str_base.specs.declared.names.NodeId.{NodeId}
use Rattle.str_base.specs.declared.names.PartId.{PartId}
use Rattle.str_base.specs.declared.names.TxId.{TxId}
use Rattle.str_base.specs.declared.names.Version.{Version}
use Rattle.str_base.specs.declared.names.Write.{Write}
use Rattle.str_base.specs.Versions.{mark_of, newest, same_key, same_node, ts_or_zero, without}
use Rattle.str_model.specs.declared.messages.Arrived.{Arrived}
use Rattle.str_model.specs.Arrivals.{held_key}
use Rattle.str_model.specs.Proposals.{is_pair, takes}
use Rattle.str_model.specs.Views.{View}
use Rattle.str_scene.specs.Scenes.{Here}
use Rattle.version_chain.specs.ChainLists.{Each, merged}

-- the keys that are held
pub held_alone : (tx : TxId) (ws : List Write) (cache vs : List Version) → Each (IsUnwritten ws) cache → held_key (merged cache vs) tx ws ≡ held_key vs tx ws
held_alone tx [] cache vs e = refl
held_alone tx (w ∷ ws) cache vs e =
    ap (λ b. if b then Some w else held_key (merged cache vs) tx ws)
    (any_chain (is_local_of tx) w.key (merged cache vs) ∙ ap (λ us. list_any (is_local_of tx) us) (chain_alone w.key cache vs (first_key w ws cache e)) ∙ sym (any_chain (is_local_of tx) w.key vs))
    ∙ ap (λ o. if list_any (λ v. same_key v.key w.key && is_local_of tx v) vs then Some w else o) (held_alone tx ws cache vs (other_keys w ws cache e))

-- what has to be passed, where versions are taken out of both
pass_without : (test : Version → Bool) (ws : List Write) (cache vs : List Version) (marks : List ℕ) → Each (IsUnwritten ws) cache
    → to_pass (without test (merged cache vs)) marks ws ≡ to_pass (without test vs) marks ws
pass_without test [] cache vs marks e = refl
pass_without test (w ∷ ws) cache vs marks e =
    ap (λ xs. max (max (mark_of marks w.key) (ts_or_zero (last_or None xs))) (to_pass (without test (merged cache vs)) marks ws))
    (sym (kept_chain test w.key (merged cache vs)) ∙ ap (λ us. filter (λ v. not (test v)) us) (chain_alone w.key cache vs (first_key w ws cache e)) ∙ kept_chain test w.key vs)
    ∙ ap (λ n. max (max (mark_of marks w.key) (newest (without test vs) w.key)) n) (pass_without test ws cache vs marks (other_keys w ws cache e))

-- the keys that are evicted
pub evicted_alone : (node : NodeId) (ws : List Write) (cache vs : List Version) (n : ℕ) → Each (IsUnwritten ws) cache → evicted_to node (merged cache vs) ws n ≡ evicted_to node vs ws n
evicted_alone node ws cache vs zero e = refl
evicted_alone node ws cache vs (suc n) e =
    ap (λ es. es ++ evicts (suc n) (held_key (merged cache vs) (named node (suc n)) ws)) (evicted_alone node ws cache vs n e)
    ∙ ap (λ o. evicted_to node vs ws n ++ evicts (suc n) o) (held_alone (named node (suc n)) ws cache vs e)

module _ (view : View) (a : Arrived) (vs : List Version) (marks : List ℕ) (s : ShowsReplica view a vs marks) where
  -- whom it evicts
  pub shown_evicted : (node : NodeId) (n : ℕ) → evicted_to node view.versions a.writes n ≡ evicted_to node vs a.writes n
  shown_evicted node n = ap (λ us. evicted_to node us a.writes n) s.versions ∙ evicted_alone node a.writes s.cache vs n (unwritten view a vs marks s)

  -- the timestamp that is proposed after versions are taken out
  pub shown_after : (test : Version → Bool) → proposal (without test view.versions) view.marks a ≡ proposal (without test vs) marks a
  shown_after test =
      ap (λ us. proposal (without test us) view.marks a) s.versions ∙ ap (λ ms. proposal (without test (merged s.cache vs)) ms a) s.marks
      ∙ ap (λ n. max a.lc.0 (1 + n)) (pass_without test a.writes s.cache vs marks (unwritten view a vs marks s))

  -- whether it is taken
  pub shown_taken : (here : Here) (node : NodeId) (map : PartitionMap) (done : List (TxId × PartId)) → IsAt here node map → view.done ≡ done → takes here view a ≡ is_taken map node vs done a
  unfolding takes
  shown_taken here node map done at d =
      ap (λ (m : PartitionMap). is_taken m here.node view.versions view.done a) at.1 ∙ ap (λ n. is_taken map n view.versions view.done a) at.0
      ∙ ap (λ b. Maps.hosts map node a.part && (not (leads node (replicas map a.part)) && (not (same_node a.tx.node node) && not (list_any (is_pair a.tx a.part) view.done || b)))) (shown_pair view a vs marks s)
      ∙ ap (λ ds. is_taken map node vs ds a) d
