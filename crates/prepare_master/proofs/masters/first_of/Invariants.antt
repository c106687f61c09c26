use Rattle.std.proofs.Common.{drop, find, ◌≡◌}
use Rattle.prepare_master.specs.MasterTurns.{first_reason, gives}
use Rattle.str_model.specs.Turns.{met}
use Rattle.prepare_master.proofs.masters.first_of.Given as goal

abbrev pub invariant-loop-write : goal.invariant-loop-write
invariant-loop-write l = find (gives l.reason l.a) (met (drop l.write-index l.write-items) l.store.versions) ≡ first_reason l.reason l.a l.store.versions
