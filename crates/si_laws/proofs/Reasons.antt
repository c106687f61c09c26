-- The gate law, and true causes.
-- Nothing commits before what it depends on or has read from, and each abort names why.

pub mod QuietRules
pub mod AbortChanges
pub mod AbortLinks
pub mod AbortsAll
pub mod CausesTrue
pub mod OthersNamed
pub mod ConflictReasons
pub mod CausesNamed
pub mod AnswersReleased
pub mod WithoutRefuse
pub mod RefuseSent
pub mod MessagesSent
pub mod RefuseReasons
pub mod AnswersGiven
mod EvictedScene
pub mod CommitsAfter
pub mod DependenciesFirst
pub mod ReadsKept
pub mod WritersFirst
pub mod KeysWritten
