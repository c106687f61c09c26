pub mod Acting
pub mod Closings
pub mod Following
pub mod Keeping
pub mod Places
pub mod Searching
pub mod Working
pub mod Tops
