pub mod Found
pub mod Asked
pub mod Apart
pub mod Named
