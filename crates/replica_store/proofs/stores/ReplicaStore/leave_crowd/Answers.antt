use Rattle.std.proofs.Common.{Option, Some, ap, arith, sym, ◌∙◌, ◌≡◌}
use Rattle.std.specs.Option.{option_map}
use Rattle.str_base.specs.declared.names.KeyId.{KeyId}
use Rattle.std.specs.List.{slice_get}
use Rattle.replica_store.specs.StoreLists.{StoreList}
use Rattle.replica_store.proofs.Crowds.{noted_leave}
use Rattle.replica_store.proofs.stores.ReplicaStore.leave_crowd.Goals as goal

pub invariant_of-self : goal.invariant_of-self
invariant_of-self c =
    let i = c.self.invariant in
    let key = c.in-Some.key in
    let crowd = c.self.inside.crowd.keys in
    let a = i.crowd_room in
    let b = c.swap_remove_index.ensures.room.0 in
    let e : c.swap_remove_index.result ≡ Some key.0 = c.swap_remove_index.ensures.key ∙ (ap (λ (s : StoreList). slice_get s.crowd c.args.place) c.self.view_is
    ∙ (sym c.crowd_at.ensures ∙ ap (λ (o : Option KeyId). option_map (λ (k : KeyId). k.0) o) c.in-Some.is)) in
    record {
      order = i.order;
      hosted_ = i.hosted_;
      noted = noted_leave crowd c.swap_remove_index.new.self.keys key c.self.inside.chains.versions i.noted (sym c.has_two.ensures ∙ c.if-not-has_two.true) (rw e at c.swap_remove_index.ensures.updates).0;
      room = i.room;
      crowd_room = omega (arith, a, b);
    }
