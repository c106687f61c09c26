-- The law Newest: a read from an undecided writer is of the version that is visible.
use Rattle.str_model.specs.declared.names.ReadDone.{ReadDone}
use Rattle.str_model.specs.Owned.{OfEachState}
use Rattle.si_laws.specs.SpeculativeIsolation.{OfEachOpen, OfOpenWriter, ReadLocal}
use Rattle.si_laws.specs.Standing.{HasRead}

-- the law
abbrev pub NewestHolds : Type 0
NewestHolds =
    OfEachState (λ scene w. OfEachOpen w (λ n v x. (r : ReadDone) → HasRead x r → OfOpenWriter w r → ReadLocal w n v x r))
