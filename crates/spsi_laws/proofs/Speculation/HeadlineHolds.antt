-- What is promised of the one run of a scene, of every run.
use Rattle.si_laws.proofs.Isolation.IsolationHolds.{isolated_run}
use Rattle.si_laws.proofs.Reasons.AnswersGiven.{aborts_answered, commits_answered}
use Rattle.si_laws.proofs.Reasons.RefuseReasons.{reasons_hold}
use Rattle.spsi_laws.proofs.Speculation.SpeculationHolds.{speculation_holds}
use Rattle.spsi_laws.specs.Headline.{HeadlineHolds}
use Rattle.std.proofs.Common.{take}

pub headline_holds : HeadlineHolds
headline_holds scene ok events = record {
  isolation = isolated_run scene ok events;
  speculation = λ n. speculation_holds scene ok (take n events);
  gate = (reasons_hold scene ok events).0;
  causes = (reasons_hold scene ok events).1;
  aborts = aborts_answered scene ok events;
  commits = commits_answered scene ok events;
}
