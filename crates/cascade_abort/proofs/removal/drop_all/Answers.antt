use Rattle.std.proofs.Common.{ap, arith, refl, sym, ◌∙◌, ◌≡◌}
use Rattle.cascade_abort.proofs.Dropping.{narrowed_at, out_at, shed_at}
use Rattle.replica_store.proofs.MergedChanges.{without_merged}
use Rattle.str_base.specs.Versions.{of_tx, without}
use Rattle.version_chain.specs.ChainLists.{merged}
use Rattle.cascade_abort.proofs.removal.drop_all.Goals as goal

pub loop-part-preserved : goal.loop-part-preserved
loop-part-preserved c =
    let here = c.loop-part.invariant in
    let store = c.drop_stored.ensures in
    let cache = c.drop_cached.ensures in
    record {
      stored = narrowed_at c.as_slice-part-items.result.now c.loop-part.part-index _ _ c.args.tx c.loop-part.store.versions _ c.loop-part-test.true refl store.versions here.stored;
      cached = narrowed_at c.as_slice-part-items.result.now c.loop-part.part-index _ _ c.args.tx c.loop-part.cache.versions _ c.loop-part-test.true refl cache.versions here.cached;
      store = shed_at c.args.tx _ c.loop-part.store.versions _ c.args.store.now.versions store.versions here.store;
      cache = shed_at c.args.tx _ c.loop-part.cache.versions _ c.args.cache.now.versions cache.versions here.cache;
      store_here = (store.here.0 ∙ here.store_here.0, store.here.1 ∙ here.store_here.1);
      cache_here = (cache.here.0 ∙ here.cache_here.0, cache.here.1 ∙ here.cache_here.1);
      store_spare = omega (arith, store.spare, here.store_spare);
      cache_spare = omega (arith, cache.spare, here.cache_spare);
    }

pub returns-clause-store : goal.returns-clause-store
returns-clause-store c = out_at c.as_slice-part-items.result.now c.loop-part.part-index c.args.tx c.loop-part.store.versions c.args.store.now.versions c.loop-part-test.false c.loop-part.invariant.stored c.loop-part.invariant.store

pub returns-clause-cache : goal.returns-clause-cache
returns-clause-cache c = out_at c.as_slice-part-items.result.now c.loop-part.part-index c.args.tx c.loop-part.cache.versions c.args.cache.now.versions c.loop-part-test.false c.loop-part.invariant.cached c.loop-part.invariant.cache

pub returns-clause-merged : goal.returns-clause-merged
returns-clause-merged c k s a =
    let store : c.loop-part.store.versions ≡ without (of_tx c.args.tx) c.args.store.now.versions = returns-clause-store c in
    let cache : c.loop-part.cache.versions ≡ without (of_tx c.args.tx) c.args.cache.now.versions = returns-clause-cache c in
    ap (λ vs. merged vs c.loop-part.store.versions) cache ∙ ap (λ vs. merged (without (of_tx c.args.tx) c.args.cache.now.versions) vs) store
    ∙ sym (without_merged (of_tx c.args.tx) c.args.cache.now.versions c.args.store.now.versions k.0 s.0 a)
