use Rattle.prepare_master.proofs.masters.tests.a_prepare_that_came_before.Goals as goal

-- src/masters.rt:338:17
pub prepare-requires-clause-keys : goal.prepare-requires-clause-keys
prepare-requires-clause-keys g c = c.prepare_of-a.ensures.keys c.in_ok-marks.marks c.in_ok-marks.ensures

-- src/masters.rt:341:28
pub retry-requires : goal.retry-requires
retry-requires g c = record { keys = c.prepare_of-a.ensures.keys c.in_ok-marks.marks c.in_ok-marks.ensures }

-- src/masters.rt:345:13
pub retry-requires-2 : goal.retry-requires-2
retry-requires-2 g c = record { keys = c.prepare_of-late.ensures.keys c.in_ok-marks.marks c.in_ok-marks.ensures }
