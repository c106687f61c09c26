-- The law Speculation: speculative snapshot isolation of every state.
use Rattle.str_model.specs.Owned.{OfEachState}
use Rattle.si_laws.specs.SpeculativeIsolation.{SPSI}

-- the law
abbrev pub SpeculationHolds : Type 0
SpeculationHolds = OfEachState (λ scene w. SPSI w)
