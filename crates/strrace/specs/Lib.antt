pub mod Starting
pub mod RaceWords
pub mod RaceRuns
