use Rattle.std.proofs.Common.{List, [], ap, arith, false, refl, suc, sym, zero, ℕ, ◌==◌, ◌∙◌, ◌∷◌, ◌≡◌}
use Rattle.std.proofs.lemmas.Bool.Decides.{nat_tests}
use Rattle.cache_partition.specs.CacheLists.{CacheList}
use Rattle.partition_map.specs.Maps.{PartitionMap, hosts}
use Rattle.replica_store.specs.StoreLists.{StoreList}
use Rattle.snapshot_read.specs.Shown.{StandAt}
use Rattle.str_base.specs.declared.names.PartId.{PartId}
use Rattle.version_chain.specs.ChainLists.{is_among}
use Rattle.local_certify.proofs.certs.tests.meets.Goals as goal

-- the map of the tests: partition 1 at node 1, partition 2 at node 2
abbrev two_parts : PartitionMap
two_parts = record { rows = (record { 0 = 1 } ∷ []) ∷ (record { 0 = 2 } ∷ []) ∷ []; keys = record { 0 = 1 } ∷ record { 0 = 2 } ∷ [] }

-- node 1 hosts partition 1 alone
hosts_one : (n : ℕ) → is_among (record { 0 = 1 } ∷ []) (record { 0 = n }) ≡ hosts two_parts (record { 0 = 1 }) (record { 0 = n })
hosts_one zero = refl
hosts_one (suc zero) = refl
hosts_one (suc (suc zero)) = refl
hosts_one (suc (suc (suc n))) = let e : (1 == suc (suc (suc n))) ≡ false = grind (arith, nat_tests) in rw e refl

hosted_as : (map : PartitionMap) → map ≡ two_parts → (parts : List PartId) → parts ≡ record { 0 = 1 } ∷ [] → (p : PartId) → is_among parts p ≡ hosts map (record { 0 = 1 }) p
hosted_as map m parts e p = ap (λ (ps : List PartId). is_among ps p) e ∙ hosts_one p.0 ∙ ap (λ (q : PartitionMap). hosts q (record { 0 = 1 }) p) (sym m)

-- the two stores of the tests stand at node 1
stands : (map : PartitionMap) → map ≡ two_parts → (store : StoreList) → store.node ≡ record { 0 = 1 } → store.hosted ≡ record { 0 = 1 } ∷ [] → (cache : CacheList) → cache.node ≡ record { 0 = 1 }
    → cache.hosted ≡ record { 0 = 1 } ∷ [] → StandAt (record { 0 = 1 }) map store cache
stands map m store n h cache k g = record { store_here = n; cache_here = k; store_hosts = hosted_as map m store.hosted h; cache_hosts = hosted_as map m cache.hosted g }

pub cert-requires-clause-here : goal.cert-requires-clause-here
cert-requires-clause-here g =
    stands g.in_ok-map.map g.in_ok-map.ensures g.in_ok-store.store g.in_ok-store.ensures.0 g.in_ok-store.ensures.1 g.in_ok-cache.cache g.in_ok-cache.ensures.0 g.in_ok-cache.ensures.1
