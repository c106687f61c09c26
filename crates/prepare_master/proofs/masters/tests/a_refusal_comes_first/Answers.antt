use Rattle.prepare_master.proofs.masters.tests.a_refusal_comes_first.Goals as goal

-- src/masters.rt:312:13
pub retry-requires : goal.retry-requires
retry-requires g c = record { keys = c.prepare_of-a.ensures.keys c.in_ok-marks.marks c.in_ok-marks.ensures }
