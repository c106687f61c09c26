-- The law Rest: where nothing is left to do, every transaction is answered.
use Rattle.std.specs.Prelude.{Some, length, ℕ, ◌≡◌}
use Rattle.str_scene.specs.declared.names.TxPlace.{TxPlace}
use Rattle.str_model.specs.declared.messages.Answer.{Answer}
use Rattle.str_model.specs.Drains.{AtRest}
use Rattle.str_model.specs.Owned.{OfEachState}
use Rattle.str_model.specs.Runs.{World}
use Rattle.str_scene.specs.SceneLimits.{Exists}
use Rattle.str_scene.specs.Scenes.{Scene, Session, nth}
use Rattle.si_laws.specs.SnapshotIsolation.{IsAnswer}

-- the transaction at the place is answered
abbrev pub IsAnswered : World → TxPlace → Type 0
IsAnswered w place = (i : ℕ) × (a : Answer) × IsAnswer w.answers i a × (a.place ≡ place)

-- every transaction of the scene is answered
abbrev pub AllAnswered : Scene → World → Type 0
AllAnswered scene w =
    (place : TxPlace) (text : Session) → nth scene.sessions place.session.0 ≡ Some text → Exists place.index (length text.txs) → IsAnswered w place

-- the law
abbrev pub RestHolds : Type 0
RestHolds = OfEachState (λ scene w. AtRest scene w → AllAnswered scene w)
