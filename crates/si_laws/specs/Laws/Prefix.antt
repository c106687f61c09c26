-- The law Prefix: reads of committed data see a prefix of the commits.
use Rattle.std.specs.Prelude.{◌⊎◌}
use Rattle.str_model.specs.declared.names.ReadDone.{ReadDone}
use Rattle.str_model.specs.Owned.{OfEachState}
use Rattle.str_model.specs.Runs.{World}
use Rattle.str_scene.specs.Scenes.{Scene}
use Rattle.si_laws.specs.SnapshotIsolation.{CommittedSnapshots, Wishes}
use Rattle.si_laws.specs.SpeculativeIsolation.{OfEachOpen, OfOpenWriter, ReadCommitted, ReadNothing}
use Rattle.si_laws.specs.Standing.{HasRead}

-- a read without a writer or from a committed one is the newest
abbrev pub FinalReads : World → Type 0
FinalReads w =
    OfEachOpen w (λ n v x. (r : ReadDone) → HasRead x r → ReadNothing w x r ⊎ (ReadCommitted w x r ⊎ OfOpenWriter w r))

-- committed answers, wishes and reads of committed data
pub record Prefix (scene : Scene) (w : World) : Type 0 where
  pub snapshots : CommittedSnapshots scene w.answers
  pub wishes : Wishes scene w.answers
  pub reads : FinalReads w

-- the law
abbrev pub PrefixHolds : Type 0
PrefixHolds = OfEachState Prefix
