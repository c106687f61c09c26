-- What the rule of an input comes to, by the calls that the code makes: client steps, what arrives, what comes back.

pub mod ScriptTurns
pub mod ClientSteps
pub mod Evictions
pub mod ReturnRules
pub mod ArrivalRules
pub mod ScriptSteps
pub mod ArrivalSteps
pub mod ReturnSteps
pub mod ClientWork
pub mod ReplicaSteps
