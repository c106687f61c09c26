pub mod FirstBad
pub mod Taking
pub mod Spelling
