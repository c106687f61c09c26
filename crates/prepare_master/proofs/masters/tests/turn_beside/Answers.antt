use Rattle.prepare_master.proofs.masters.tests.turn_beside.Goals as goal

-- src/masters.rt:269:12
pub prepare-requires-clause-keys : goal.prepare-requires-clause-keys
prepare-requires-clause-keys c = c.prepare_of-a.ensures.keys c.in_ok-marks.marks c.in_ok-marks.ensures
