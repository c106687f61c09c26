pub mod Adding
pub mod Answering
pub mod Keeping
pub mod Rising
pub mod Slotted
pub mod Standing
