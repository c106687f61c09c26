use Rattle.std.proofs.Common.{arith, subst, sym}
use Rattle.version_chain.proofs.Each.{each_insert}
use Rattle.replica_store.specs.StoreLists.{IsStore, LiesIn, StoreList}
use Rattle.replica_store.proofs.Crowds.{noted_insert}
use Rattle.replica_store.proofs.stores.ReplicaStore.insert.Goals as goal

pub invariant_of-self : goal.invariant_of-self
invariant_of-self c =
    let vs = c.self.inside.chains.versions in
    let i = c.self.invariant in
    let a = i.room in
    let b = c.insert.ensures.spare in
    let d = i.crowd_room in
    let e = c.note.ensures.spare in
    record {
      order = c.insert.ensures.order.1;
      hosted_ = rw c.insert.ensures.versions (each_insert (LiesIn c.self.inside.hosted) c.args.version vs (subst (λ (s : StoreList). LiesIn s.hosted c.args.version) (sym c.self.view_is) c.requires.hosted) i.hosted_);
      noted = rw c.insert.ensures.versions (noted_insert c.self.inside.crowd.keys c.note.new.crowd.keys c.args.version vs i.noted c.note.ensures.all (rw c.insert.ensures.versions at c.note.ensures.key));
      room = omega (arith, a, b);
      crowd_room = omega (arith, d, e);
    }

pub returns-clause-kept : goal.returns-clause-kept
returns-clause-kept c =
    let i = c.self.invariant in
    (subst IsStore c.self.view_is (i.order, i.hosted_), (c.insert.ensures.order.1, rw c.insert.ensures.versions (each_insert (LiesIn c.self.inside.hosted) c.args.version c.self.inside.chains.versions (subst (λ (s : StoreList). LiesIn s.hosted c.args.version) (sym c.self.view_is) c.requires.hosted) i.hosted_)))
