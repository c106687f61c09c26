-- After each event each dependency of an undecided transaction stands.
-- One pass by rising number ends every cascade.

pub mod DependenciesHold
pub mod DependenciesBefore
pub mod CascadesEnd
pub mod CommittedAlone
pub mod DependenciesLive
