use Rattle.std.proofs.Common.{length, ◌++◌, ◌≡◌}
use Rattle.str_base.specs.Versions.{chain}
use Rattle.version_chain.proofs.chains.Chains.walk_from_unsettled.Given as goal

abbrev pub invariant-walk : goal.invariant-walk
invariant-walk l = chain l.fn.key l.self.versions ≡ l.walk.older ++ l.walk.newer

abbrev pub decreases-walk : goal.decreases-walk
decreases-walk l = length l.walk.older
