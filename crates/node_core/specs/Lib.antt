pub mod Working
pub mod Arriving
pub mod Reading
pub mod Beginning
pub mod Waiting
pub mod Sizes
