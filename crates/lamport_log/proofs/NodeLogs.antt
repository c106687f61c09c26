-- Entries at their places in a log.
-- What holds of a log as it and the others grow.

pub mod EntryPlaces
pub mod LogsGrow
