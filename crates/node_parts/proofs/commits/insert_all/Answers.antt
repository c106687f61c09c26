use Rattle.std.proofs.Common.{ap, arith, drop, map, refl, sym, ◌+◌, ◌∙◌}
use Rattle.std.proofs.lemmas.List.{drop_all}
use Rattle.node_parts.proofs.Committing.{cached_apart, distinct_apart, merged_step, next_version, none_apart, stored_apart}
use Rattle.node_parts.specs.Holding.{own_version}
use Rattle.str_base.specs.Versions.{insert_all}
use Rattle.version_chain.specs.ChainLists.{merged}
use Rattle.node_parts.proofs.commits.insert_all.Goals as goal

pub loop-write-init : goal.loop-write-init
loop-write-init c =
    let here = c.args.site.now in
    rw c.as_slice-write-items.ensures.items
    (record {
      apart = distinct_apart here c.args.tx c.args.lc c.args.writes.now c.requires.distinct;
      stored = none_apart here c.args.tx c.args.lc c.args.writes.now c.args.store.now.versions c.requires.stored;
      cached = none_apart here c.args.tx c.args.lc c.args.writes.now c.args.cache.now.versions c.requires.cached;
      merged = refl;
      store_here = (refl, refl);
      cache_here = (refl, refl);
      store_spare = omega arith;
      cache_spare = omega arith;
    })

pub insert_own-requires-clause-hosted : goal.insert_own-requires-clause-hosted
insert_own-requires-clause-hosted c =
    let was = c.loop-write.invariant in
    let here = c.requires.here in
    rw (was.store_here.1, was.cache_here.1) (here.cache_hosts c.local_version.result.part ∙ sym (here.store_hosts c.local_version.result.part))

pub insert_own-requires-clause-stored : goal.insert_own-requires-clause-stored
insert_own-requires-clause-stored c =
    let next = next_version c.args.site.now c.args.tx c.args.lc c.as_slice-write-items.result.now c.loop-write.write-index _ c.local_version.result c.loop-write-test.true c.local_version.ensures in
    (rw next at c.loop-write.invariant.stored).0

pub insert_own-requires-clause-cached : goal.insert_own-requires-clause-cached
insert_own-requires-clause-cached c =
    let next = next_version c.args.site.now c.args.tx c.args.lc c.as_slice-write-items.result.now c.loop-write.write-index _ c.local_version.result c.loop-write-test.true c.local_version.ensures in
    (rw next at c.loop-write.invariant.cached).0

pub loop-write-preserved : goal.loop-write-preserved
loop-write-preserved c =
    let was = c.loop-write.invariant in
    let done = c.insert_own.ensures in
    let next = next_version c.args.site.now c.args.tx c.args.lc c.as_slice-write-items.result.now c.loop-write.write-index _ c.local_version.result c.loop-write-test.true c.local_version.ensures in
    let rest = map (own_version c.args.site.now c.args.tx c.args.lc) (drop (c.loop-write.write-index + 1) c.as_slice-write-items.result.now) in
    let apart = rw next at was.apart in
    let stored = rw next at was.stored in
    let cached = rw next at was.cached in
    let both = rw next at was.merged in
    record {
      apart = apart.1;
      stored = stored_apart c.local_version.result rest _ c.loop-write.store.versions _ done.store apart stored;
      cached = cached_apart c.local_version.result rest _ c.loop-write.cache.versions _ done.cache apart cached;
      merged = merged_step c.local_version.result rest _ c.loop-write.cache.versions c.loop-write.store.versions _ _ _ done.store done.cache cached.0 both;
      store_here = (done.store_here.0 ∙ was.store_here.0, done.store_here.1 ∙ was.store_here.1);
      cache_here = (done.cache_here.0 ∙ was.cache_here.0, done.cache_here.1 ∙ was.cache_here.1);
      store_spare = omega (arith, done.store_spare, was.store_spare);
      cache_spare = omega (arith, done.cache_spare, was.cache_spare);
    }

pub returns-clause-merged : goal.returns-clause-merged
returns-clause-merged c i e a =
    let here = c.args.site.now in
    let ws = c.args.writes.now in
    let end = drop_all c.loop-write.write-index c.as_slice-write-items.result.now c.loop-write-test.false in
    (rw end at c.loop-write.invariant.merged) ∙ ap (λ t. insert_all (map (own_version here t c.args.lc) ws) (merged c.args.cache.now.versions c.args.store.now.versions)) e
