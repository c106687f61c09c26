use Rattle.local_certify.proofs.Certifying.{next_below, pass_next}
use Rattle.local_certify.proofs.certs.passed.Goals as goal

pub loop-write-preserved : goal.loop-write-preserved
loop-write-preserved c = (
  pass_next c.args.marks.now c.args.map.now c.args.node c.args.store.now.versions c.args.cache.now.versions c.args.writes.now c.loop-write.write-index _ c.loop-write.last c.mark.result.0
      c.newest-newest.result.0 c.greatest-last.result _ c.part_of.result c.hosts-is_hosted.result c.loop-write-test.true c.loop-write.invariant.0 c.part_of.ensures.value c.hosts-is_hosted.ensures
      c.mark.ensures c.newest-newest.ensures.value c.greatest-last.ensures,
  next_below c.args.marks.now c.args.writes.now c.loop-write.write-index _ c.loop-write.last c.mark.result.0 c.newest-newest.result.0 c.greatest-last.result c.requires.marked
      c.requires.times.marked c.loop-write-test.true c.mark.ensures c.loop-write.invariant.1 c.newest-newest.ensures.limit c.greatest-last.ensures,
)
