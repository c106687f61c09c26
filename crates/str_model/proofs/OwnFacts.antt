-- What every change keeps of a node's own transactions, for any input.
-- Their order, times, scripts, dependencies, versions and participants.

pub mod LocalOwners
pub mod EarlierDependencies
pub mod TurnsBelow
pub mod DependenciesStand
pub mod AtHome
pub mod HomeFinals
pub mod ScriptsCovered
pub mod UnmetNeeds
pub mod PlacesInOrder
pub mod NodeTimes
pub mod EachOwn
pub mod ScriptCounts
pub mod AskedParts
pub mod FewOwn
