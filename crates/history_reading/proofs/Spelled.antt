-- What is read of the parts of a line: names, numbers, keys, gets, causes, ends and whole lines.

pub mod AnswersRead
pub mod CausesRead
pub mod EndingsRead
pub mod EndsRead
pub mod GetsRead
pub mod PartsRead
pub mod PlacesFound
pub mod Zips
