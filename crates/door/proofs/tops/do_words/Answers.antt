use Rattle.door.proofs.Calls.{door_done, door_unwritten, memory_wanted, none_there}
use Rattle.door.proofs.tops.do_words.Goals as goal

pub returns-in_err-visit-clause-failed : goal.returns-in_err-visit-clause-failed
returns-in_err-visit-clause-failed g c =
    memory_wanted _ _ _ _ _ _ _ _ _ c.from_residual-in_err-visit.result c.is_empty.ensures c.if-not-is_empty.false c.from_residual-in_err-visit.ensures.1

pub returns-in_err-cluster-clause-failed : goal.returns-in_err-cluster-clause-failed
returns-in_err-cluster-clause-failed g c =
    memory_wanted _ _ _ _ _ _ _ _ _ c.from_residual-in_err-cluster.result c.is_empty.ensures c.if-not-is_empty.false c.from_residual-in_err-cluster.ensures.1

pub returns-clause-done : goal.returns-clause-done
returns-clause-done g c =
    let k = c.in_ok-cluster.cluster in
    let e = c.in_ok-cluster.ensures in
    door_done _ _ _ _ c.in_ok-scene.scene k.scene k.world c.write_whole.result c.in_ok-scene.ensures.taken e.scene e.limits e.run e.stop e.ended c.write_whole.ensures.written

pub returns-clause-failed : goal.returns-clause-failed
returns-clause-failed g c =
    let k = c.in_ok-cluster.cluster in
    let e = c.in_ok-cluster.ensures in
    door_unwritten _ _ _ _ _ _ _ _ _ c.in_ok-scene.scene k.scene k.world c.write_whole.result (none_there _ _ c.is_empty.ensures c.if-not-is_empty.false) c.in_ok-scene.ensures.taken e.scene e.limits e.run e.stop e.ended
    c.write_whole.ensures.partial c.write_whole.ensures.failed
