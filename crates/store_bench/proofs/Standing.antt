-- What stands at node 1, which hosts the one partition.
use Rattle.std.proofs.Common.{List, ap, arith, false, refl, suc, sym, true, zero, ℕ, ◌==◌, ◌∙◌, ◌≡◌}
use Rattle.std.proofs.lemmas.Bool.Decides.{nat_tests}
use Rattle.cache_partition.specs.CacheLists.{CacheList}
use Rattle.partition_map.specs.Maps.{PartitionMap, hosts}
use Rattle.replica_store.specs.StoreLists.{LiesIn, StoreList}
use Rattle.snapshot_read.specs.Shown.{StandAt}
use Rattle.store_bench.specs.Filled.{one_hosted, one_part}
use Rattle.str_base.specs.declared.names.PartId.{PartId}
use Rattle.str_base.specs.declared.names.Version.{Version}
use Rattle.version_chain.specs.ChainLists.{is_among}

-- a version of the partition lies in it
pub lies : (hosted : List PartId) → hosted ≡ one_hosted → (v : Version) → v.part.0 ≡ 1 → LiesIn hosted v
lies hosted h v p = ap (λ (ps : List PartId). is_among ps v.part) h ∙ (let e : (1 == v.part.0) ≡ true = grind (arith, nat_tests, p) in rw e refl)

-- node 1 hosts that partition alone
hosts_one : (n : ℕ) → is_among one_hosted (record { 0 = n }) ≡ hosts one_part (record { 0 = 1 }) (record { 0 = n })
hosts_one zero = refl
hosts_one (suc zero) = refl
hosts_one (suc (suc n)) = let e : (1 == suc (suc n)) ≡ false = grind (arith, nat_tests) in rw e refl

hosted_as : (map : PartitionMap) → map ≡ one_part → (parts : List PartId) → parts ≡ one_hosted → (p : PartId) → is_among parts p ≡ hosts map (record { 0 = 1 }) p
hosted_as map m parts e p = ap (λ (ps : List PartId). is_among ps p) e ∙ hosts_one p.0 ∙ ap (λ (q : PartitionMap). hosts q (record { 0 = 1 }) p) (sym m)

-- the two stores stand at node 1
pub stands : (map : PartitionMap) → map ≡ one_part → (store : StoreList) → store.node ≡ record { 0 = 1 } → store.hosted ≡ one_hosted → (cache : CacheList) → cache.node ≡ record { 0 = 1 }
    → cache.hosted ≡ one_hosted → StandAt (record { 0 = 1 }) map store cache
stands map m store n h cache k g = record { store_here = n; cache_here = k; store_hosts = hosted_as map m store.hosted h; cache_hosts = hosted_as map m cache.hosted g }
