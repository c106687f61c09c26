use Rattle.std.proofs.Common.{drop, max, ◌≡◌}
use Rattle.prepare_master.specs.MasterTurns.{to_pass}
use Rattle.prepare_master.proofs.proposals.passed.Given as goal

abbrev pub invariant-loop-write : goal.invariant-loop-write
invariant-loop-write l = max l.passed (to_pass l.store.versions l.marks (drop l.write-index l.write-items)) ≡ to_pass l.store.versions l.marks l.writes
