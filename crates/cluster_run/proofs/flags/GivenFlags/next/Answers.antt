use Rattle.std.proofs.Common.{arith}
use Rattle.cluster_run.proofs.Oldest.{oldest_none, oldest_some}
use Rattle.cluster_run.proofs.flags.GivenFlags.next.Goals as goal

pub returns-then-self-len : goal.returns-then-self-len
returns-then-self-len c = rw (← c.self.view_is) (oldest_some c.self.inside.flags.items c.self.inside.oldest c.self.invariant (omega arith))

pub returns-else-self-len : goal.returns-else-self-len
returns-else-self-len c = rw (← c.self.view_is) (oldest_none c.self.inside.flags.items c.self.inside.oldest c.self.invariant (omega arith))
