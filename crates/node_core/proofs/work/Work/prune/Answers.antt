use Rattle.std.proofs.Common.{List, ap, arith, length, refl, subst, sym, ◌+◌, ◌<◌, ◌∙◌, ◌≡◌}
use Rattle.node_core.proofs.OldVersions.Counting.{length-merged}
use Rattle.node_core.proofs.OldVersions.PrunedStores.{key_within, merged_pruned}
use Rattle.node_core.proofs.Parts.PartChanges.{did_parts, same_out, stand_still, stored_of, work_then}
use Rattle.node_core.specs.Working.{HasFacts, WorkState}
use Rattle.str_base.specs.declared.names.Version.{Version}
use Rattle.str_model.specs.Pruning.{pruned}
use Rattle.str_scene.specs.Scenes.{KeyTable, Scene}
use Rattle.version_chain.specs.ChainLists.{merged}
use Rattle.node_core.proofs.work.Work.prune.Goals as goal

pub prune-requires : goal.prune-requires
prune-requires c =
    let f = subst HasFacts (sym c.self.view_is) c.requires in
    let h = c.self.inside.held in
    key_within c.self.inside.site _ h.store h.cache (stored_of c.self.inside.site h c.self.inside.own c.self.inside.left c.self.inside.room c.self.invariant f.moment c.node.ensures.kept) c.len-keys.result
    (c.len-keys.ensures.value ∙ (ap (λ (t : KeyTable). length t.names) c.keys.ensures.value ∙ ap (λ (t : Scene). length t.keys.names) c.scene.ensures.value))

pub invariant_of-self : goal.invariant_of-self
invariant_of-self c =
    let h = c.self.inside.held in
    let o = c.self.inside.own in
    let s = c.prune.ensures.spare in
    let r = c.self.invariant.has_room in
    let k = r.store in
    work_then c.self.inside.site h (record h { store = c.prune.new.store }) o o c.self.inside.left c.self.inside.left c.self.inside.room c.self.invariant
    (stand_still c.self.inside.site h (record h { store = c.prune.new.store }) c.prune.ensures.here (refl, refl) c.self.invariant.stands) refl refl (omega arith)
    (record { store = omega (arith, k, s); cache = r.cache; done = r.done; parked = r.parked }) (omega arith)

pub returns-clause-did : goal.returns-clause-did
returns-clause-did c =
    let h = c.self.inside.held in
    let o = c.self.inside.own in
    let out = c.self.inside.out in
    let left = c.self.inside.left in
    let room = c.self.inside.room in
    let g = c.args.below.0 in
    let k = c.node.ensures.kept in
    rw (← c.self.view_is)
    (did_parts c.self.inside.site h (record h { store = c.prune.new.store }) o o out out left left room _ (same_out out)
    (record {
      versions = ap (λ (xs : List Version). merged h.cache.versions xs) c.prune.ensures.versions ∙ sym (merged_pruned g h.cache.node h.cache.hosted h.cache.versions h.store.versions k.1.1 k.0.0);
      marks = refl;
      floor = refl;
      own = refl;
      waiters = refl;
      done = refl;
      sent = refl;
      released = refl;
      added = refl;
    }))

pub returns-clause-count : goal.returns-clause-count
returns-clause-count c =
    let h = c.self.inside.held in
    let a = length-merged h.cache.versions h.store.versions in
    let b = length-merged h.cache.versions c.prune.new.store.versions in
    rw (← c.self.view_is) (λ l. let n = c.prune.ensures.count (omega (arith, l, a)) in omega (arith, a, b, n))
