-- What a single change does to own transactions, versions, pairs, snapshots and answers.

pub mod SnapshotsGain
pub mod OwnGoesOn
pub mod OwnChanges
pub mod AnswerChanges
pub mod PairWords
pub mod VersionChanges
pub mod PairChanges
pub mod MasterChanges
pub mod OwnTurns
pub mod VersionsMet
pub mod DependencyLooks
