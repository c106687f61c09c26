pub mod Proper
pub mod Few
pub mod Taking
