use Rattle.std.proofs.Common.{List, Some, [], ap, arith, length, refl, slice_get, subst, suc, zero, ℕ, ◌<◌, ◌∙◌, ◌∷◌, ◌≡◌}
use Rattle.str_base.proofs.Lists.{of_two}
use Rattle.str_base.specs.declared.names.NodeId.{NodeId}
use Rattle.str_base.specs.declared.names.PartId.{PartId}
use Rattle.str_base.specs.declared.names.Write.{Write}
use Rattle.partition_map.specs.Maps.{Exists, IsMap, IsRow, PartitionMap}
use Rattle.partition_map.proofs.maps.tests.knows_replicas_and_participants.Goals as goal

-- a node by its number
abbrev node : ℕ → NodeId
node n = record { 0 = n }

-- different nodes
differ : (a b : ℕ) (n : NodeId) → ((a ≡ b) → ⊥) → Some (node a) ≡ Some n → Some (node b) ≡ Some n → ⊥
differ a b n apart e f = let h : node a ≡ node b = cc (e, f) in apart (ap (λ (k : NodeId). k.0) h)

-- two nodes of 8 make a row
two_nodes : (a b : ℕ) → Exists a 8 → Exists b 8 → ((a ≡ b) → ⊥) → IsRow 8 (node a ∷ node b ∷ [])
two_nodes a b p q apart =
    record {
      some = omega arith;
      few = omega arith;
      exist = λ i n e. of_two (node a) (node b) (λ n. Exists n.0 8) p q i n e;
      distinct = places;
    }
  where
    places : (i j : ℕ) (n : NodeId) → slice_get (node a ∷ node b ∷ []) i ≡ Some n → slice_get (node a ∷ node b ∷ []) j ≡ Some n → i ≡ j
    places zero zero n e f = refl
    places zero (suc zero) n e f = absurd (differ a b n apart e f)
    places zero (suc (suc j)) n e f = absurd (cc f)
    places (suc zero) zero n e f = absurd (differ a b n apart f e)
    places (suc zero) (suc zero) n e f = refl
    places (suc zero) (suc (suc j)) n e f = absurd (cc f)
    places (suc (suc i)) j n e f = absurd (cc e)

-- the map of the test
the_map : IsMap (record {
  rows = (record { 0 = 1 } ∷ record { 0 = 2 } ∷ []) ∷ (record { 0 = 3 } ∷ record { 0 = 2 } ∷ []) ∷ [];
  keys = record { 0 = 2 } ∷ record { 0 = 1 } ∷ record { 0 = 2 } ∷ [];
})
the_map =
    record {
      few = omega arith;
      rows = of_two _ _ (IsRow 8) (two_nodes 1 2 (omega arith, omega arith) (omega arith, omega arith) (λ e. omega arith)) (two_nodes 3 2 (omega arith, omega arith) (omega arith, omega arith) (λ e. omega arith));
      keys = parts;
    }
  where
    exists : (p q : PartId) → Exists p.0 2 → p ≡ q → Exists q.0 2
    exists p q h e = let P : PartId → Type 0 = λ k. Exists k.0 2 in subst P e h

    parts : (i : ℕ) (p : PartId) → slice_get (record { 0 = 2 } ∷ record { 0 = 1 } ∷ record { 0 = 2 } ∷ []) i ≡ Some p → Exists p.0 2
    parts zero p e = exists (record { 0 = 2 }) p (omega arith, omega arith) (cc e)
    parts (suc zero) p e = exists (record { 0 = 1 }) p (omega arith, omega arith) (cc e)
    parts (suc (suc zero)) p e = exists (record { 0 = 2 }) p (omega arith, omega arith) (cc e)
    parts (suc (suc (suc i))) p e = absurd (cc e)

pub new-requires : goal.new-requires
new-requires g c =
    rw (c.in_ok-rows.ensures.items, c.in_ok-keys.ensures.items, c.pair.ensures, c.pair-2.ensures) the_map

pub participants-got-requires-clause-keys : goal.participants-got-requires-clause-keys
participants-got-requires-clause-keys g c =
    let three : length c.in_ok-map.map.keys ≡ 3 = ap (λ (m : PartitionMap). length m.keys) c.in_ok-map.ensures ∙ ap (λ (ks : List PartId). length ks) c.in_ok-keys.ensures.items in
    λ i w e.
    let k : w.key.0 < 3 = of_two c.write.result c.write-2.result (λ (x : Write). x.key.0 < 3) (omega arith) (omega arith) i w (rw c.writes.ensures at e) in
    omega (arith, three, k)

pub participants-got-requires-2-clause-keys : goal.participants-got-requires-2-clause-keys
participants-got-requires-2-clause-keys g c =
    let three : length c.in_ok-map.map.keys ≡ 3 = ap (λ (m : PartitionMap). length m.keys) c.in_ok-map.ensures ∙ ap (λ (ks : List PartId). length ks) c.in_ok-keys.ensures.items in
    λ i w e.
    let k : w.key.0 < 3 = of_two c.write-3.result c.write-4.result (λ (x : Write). x.key.0 < 3) (omega arith) (omega arith) i w (rw c.writes-2.ensures at e) in
    omega (arith, three, k)
