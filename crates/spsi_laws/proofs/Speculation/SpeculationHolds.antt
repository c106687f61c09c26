-- The law Speculation: newest reads, live dependencies and ordered pairs.
use Rattle.si_laws.proofs.Isolation.PrefixHolds.{prefix_law}
use Rattle.spsi_laws.proofs.Dependencies.DependenciesLive.{dependencies_live}
use Rattle.spsi_laws.proofs.Speculation.NewestReads.{newest_holds}
use Rattle.spsi_laws.proofs.Pairs.PairsHold.{pairs_hold}
use Rattle.spsi_laws.specs.Laws.Speculation.{SpeculationHolds}
use Rattle.std.proofs.Common.{inl, inr}

pub speculation_holds : SpeculationHolds
speculation_holds scene ok es = record {
  newest = λ n v i x there own op r h. elim ((prefix_law scene ok es).reads n v i x there own op r h) [
    | inl a ↦ inl a
    | inr b ↦ (elim b [ inl c ↦ inr (inl c) | inr o ↦ inr (inr (newest_holds scene ok es n v i x there own op r h o)) ])
  ];
  live = dependencies_live scene ok es;
  pairs = pairs_hold scene ok es;
}
