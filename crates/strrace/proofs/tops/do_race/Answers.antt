use Rattle.strrace.proofs.Merged.{race_done, race_unwritten}
use Rattle.strrace.proofs.tops.do_race.Goals as goal

pub returns-clause-done : goal.returns-clause-done
returns-clause-done g c = λ words asked.
    race_done words _ _ _ _ c.in_ok-scene.scene _ c.args.count c.in_ok-cluster.cluster.world c.write_whole.result asked c.in_ok-scene.ensures.taken c.in_ok-cluster.ensures.scene
    c.in_ok-cluster.ensures.raced c.in_ok-cluster.ensures.ended c.write_whole.ensures.written

pub returns-clause-failed : goal.returns-clause-failed
returns-clause-failed g c = λ words asked.
    race_unwritten words _ _ _ _ _ _ _ _ c.in_ok-scene.scene _ c.args.count c.in_ok-cluster.cluster.world c.write_whole.result asked c.in_ok-scene.ensures.taken c.in_ok-cluster.ensures.scene
    c.in_ok-cluster.ensures.raced c.in_ok-cluster.ensures.ended c.write_whole.ensures.partial c.write_whole.ensures.failed
