use Rattle.std.proofs.Common.{arith, not, subst}
use Rattle.str_base.specs.Versions.{of_pair}
use Rattle.version_chain.proofs.Each.{each_kept}
use Rattle.replica_store.specs.StoreLists.{IsStore, LiesIn}
use Rattle.replica_store.proofs.Crowds.{noted_fewer, number_without}
use Rattle.replica_store.proofs.stores.ReplicaStore.remove.Goals as goal

pub invariant_of-self : goal.invariant_of-self
invariant_of-self c =
    let vs = c.self.inside.chains.versions in
    let i = c.self.invariant in
    let a = i.room in
    let b = c.remove.ensures.spare in
    record {
      order = c.remove.ensures.order.1;
      hosted_ = rw c.remove.ensures.versions (each_kept (λ v. not (of_pair c.args.tx c.args.part v)) (LiesIn c.self.inside.hosted) vs i.hosted_);
      noted = rw c.remove.ensures.versions (noted_fewer c.self.inside.crowd.keys vs _ (λ k. number_without k (of_pair c.args.tx c.args.part) vs) i.noted);
      room = omega (arith, a, b);
      crowd_room = i.crowd_room;
    }

pub returns-clause-kept : goal.returns-clause-kept
returns-clause-kept c =
    let i = c.self.invariant in
    (subst IsStore c.self.view_is (i.order, i.hosted_), (c.remove.ensures.order.1, rw c.remove.ensures.versions (each_kept (λ v. not (of_pair c.args.tx c.args.part v)) (LiesIn c.self.inside.hosted) c.self.inside.chains.versions i.hosted_)))
