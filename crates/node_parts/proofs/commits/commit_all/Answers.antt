use Rattle.std.proofs.Common.{arith, sym, ◌∙◌, ◌≡◌}
use Rattle.node_parts.proofs.Committing.{cached_all, cached_at, cached_elsewhere, cached_end, stored_all, stored_at, stored_end}
use Rattle.replica_store.proofs.MergedChanges.{decided_merged, none_hosted}
use Rattle.str_base.specs.Versions.{of_tx, without}
use Rattle.str_model.specs.Acts.{decided_versions}
use Rattle.str_scene.specs.Scenes.{hosts}
use Rattle.version_chain.specs.ChainLists.{is_among, merged}
use Rattle.node_parts.proofs.commits.commit_all.Goals as goal

pub loop-write-preserved : goal.loop-write-preserved
loop-write-preserved c =
    let here = c.args.site.now in
    let ws = c.as_slice-write-items.result.now in
    let was = c.loop-write.invariant in
    let done = c.commit_part.ensures in
    let hosted : hosts here.scene here.node c.part_of.result ≡ is_among c.loop-write.store.hosted c.part_of.result = rw was.store_here.1 (sym (c.requires.here.store_hosts c.part_of.result)) in
    record {
      store = stored_at here _ c.args.tx c.args.fc.0 ws c.loop-write.write-index _ c.part_of.result _ c.loop-write.store.versions _ _ c.loop-write-test.true c.map.ensures.value c.part_of.ensures.value hosted done.store was.store;
      cache = cached_at here _ c.args.tx ws c.loop-write.write-index _ c.part_of.result _ c.loop-write.cache.versions _ _ c.loop-write-test.true c.map.ensures.value c.part_of.ensures.value hosted done.cache was.cache;
      store_here = (done.store_here.0 ∙ was.store_here.0, done.store_here.1 ∙ was.store_here.1);
      cache_here = (done.cache_here.0 ∙ was.cache_here.0, done.cache_here.1 ∙ was.cache_here.1);
      store_spare = omega (arith, done.store_spare, was.store_spare);
      cache_spare = omega (arith, done.cache_spare, was.cache_spare);
    }

pub returns-clause-store : goal.returns-clause-store
returns-clause-store c =
    let here = c.args.site.now in
    stored_end here c.args.tx c.args.fc.0 c.as_slice-write-items.result.now c.loop-write.write-index c.loop-write.store.versions _ c.loop-write-test.false c.loop-write.invariant.store
    ∙ stored_all here c.args.tx c.args.fc.0 c.args.writes.now c.args.store.now c.node.ensures.kept c.requires.here.store_hosts c.requires.stored

pub returns-clause-cache : goal.returns-clause-cache
returns-clause-cache c =
    let here = c.args.site.now in
    cached_end here c.args.tx c.as_slice-write-items.result.now c.loop-write.write-index c.loop-write.cache.versions _ c.loop-write-test.false c.loop-write.invariant.cache
    ∙ cached_all here c.args.tx c.args.writes.now c.args.cache.now c.node-2.ensures.kept c.requires.here.cache_hosts c.requires.cached

pub returns-clause-merged : goal.returns-clause-merged
returns-clause-merged c a =
    let here = c.args.site.now in
    let store : c.loop-write.store.versions ≡ decided_versions here c.args.tx c.args.fc.0 c.args.store.now.versions = returns-clause-store c in
    let cache : c.loop-write.cache.versions ≡ without (of_tx c.args.tx) c.args.cache.now.versions = returns-clause-cache c in
    (λ j. merged (cache j) (store j))
    ∙ sym (decided_merged here c.args.tx c.args.fc.0 c.args.cache.now.versions c.args.store.now.versions c.node-2.ensures.kept.0 c.node.ensures.kept.0 a
    (none_hosted here c.args.tx c.args.cache.now.versions (cached_elsewhere here c.args.cache.now c.node-2.ensures.kept c.requires.here.cache_hosts)))
