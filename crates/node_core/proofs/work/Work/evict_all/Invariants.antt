use Rattle.std.proofs.Common.{take}
use Rattle.replica_apply.specs.Slaves.{evict_all}
use Rattle.node_core.specs.Working.{Did}
use Rattle.node_core.proofs.work.Work.evict_all.Given as goal

abbrev pub invariant-loop-evicted : goal.invariant-loop-evicted
invariant-loop-evicted l = Did (evict_all l.fn.self.here l.fn.a (take l.evicted-index l.fn.evict) l.fn.self.doing) l.fn.self l.self
