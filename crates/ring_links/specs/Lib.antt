pub mod Links
pub mod Ends
pub mod Making
pub mod Flows
