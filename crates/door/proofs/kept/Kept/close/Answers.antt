use Rattle.door.proofs.Following.{follows_keeps, follows_on}
use Rattle.spsi_laws.specs.Laws.Drain.{drain_from}
use Rattle.door.proofs.kept.Kept.close.Goals as goal

pub invariant_of-self : goal.invariant_of-self
invariant_of-self g c = (
  c.self.invariant.0,
  follows_on _ _ _ _ _ _ _ (drain_from c.self.inside.cluster.scene c.self.inside.cluster.world) c.self.invariant.1 c.drain.ensures.scene c.in-Ok.ensures.ok c.drain.ensures.run,
)

pub invariant_of-self-in-Err : goal.invariant_of-self-in-Err
invariant_of-self-in-Err g c = (
  c.self.invariant.0,
  follows_on _ _ _ _ _ _ _ c.in-Err.ensures.err.done c.self.invariant.1 c.drain.ensures.scene c.in-Err.ensures.err.ran c.drain.ensures.run,
)

pub returns-in-Err-clause-kept : goal.returns-in-Err-clause-kept
returns-in-Err-clause-kept g c =
    follows_keeps _ _ _ _ _ _ _ (follows_on _ _ _ _ _ _ _ c.in-Err.ensures.err.done c.self.invariant.1 c.drain.ensures.scene c.in-Err.ensures.err.ran c.drain.ensures.run)
