use Rattle.std.proofs.Common.{arith, subst}
use Rattle.str_base.specs.Versions.{of_pair}
use Rattle.version_chain.proofs.Each.{each_finalise}
use Rattle.replica_store.specs.StoreLists.{IsStore, LiesIn}
use Rattle.replica_store.proofs.Crowds.{noted_fewer, number_finalise}
use Rattle.replica_store.proofs.stores.ReplicaStore.finalise.Goals as goal

pub invariant_of-self : goal.invariant_of-self
invariant_of-self c =
    let vs = c.self.inside.chains.versions in
    let i = c.self.invariant in
    let a = i.room in
    let b = c.finalise.ensures.spare in
    record {
      order = c.finalise.ensures.order.1;
      hosted_ = rw c.finalise.ensures.versions (each_finalise (LiesIn c.self.inside.hosted) (of_pair c.args.tx c.args.part) c.args.fc.0 vs (λ v h. h) i.hosted_);
      noted = rw c.finalise.ensures.versions (noted_fewer c.self.inside.crowd.keys vs _ (λ k. let n = number_finalise k (of_pair c.args.tx c.args.part) c.args.fc.0 vs in omega (arith, n)) i.noted);
      room = omega (arith, a, b);
      crowd_room = i.crowd_room;
    }

pub returns-clause-kept : goal.returns-clause-kept
returns-clause-kept c =
    let i = c.self.invariant in
    (subst IsStore c.self.view_is (i.order, i.hosted_), (c.finalise.ensures.order.1, rw c.finalise.ensures.versions (each_finalise (LiesIn c.self.inside.hosted) (of_pair c.args.tx c.args.part) c.args.fc.0 c.self.inside.chains.versions (λ v h. h) i.hosted_)))
