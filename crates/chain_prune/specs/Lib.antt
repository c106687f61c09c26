pub mod Hidden
pub mod SeenAlike
