-- The law Pairs: of two that a transaction rests on and that wrote one key one is before the other.
use Rattle.str_model.specs.Owned.{OfEachState}
use Rattle.si_laws.specs.SpeculativeIsolation.{OfEachOpen, PairsOrdered, PairsOrderedFurther}

-- the law
abbrev pub PairsHold : Type 0
PairsHold = OfEachState (λ scene w. OfEachOpen w (λ n v x. PairsOrdered w n x))

-- the same of all that it or one of its dependencies rests on
abbrev pub PairsHoldFurther : Type 0
PairsHoldFurther = OfEachState (λ scene w. OfEachOpen w (λ n v x. PairsOrderedFurther w n x))
