use Rattle.std.proofs.Common.{find, length, ◌≡◌}
use Rattle.prepare_master.specs.MasterTurns.{gives}
use Rattle.str_base.specs.Versions.{chain}
use Rattle.prepare_master.proofs.masters.reason_at.Given as goal

abbrev pub invariant-loop-version : goal.invariant-loop-version
invariant-loop-version l = find (gives l.reason l.a) l.walk.newer ≡ find (gives l.reason l.a) (chain l.fn.key l.fn.store.versions)

abbrev pub decreases-loop-version : goal.decreases-loop-version
decreases-loop-version l = length l.walk.newer
