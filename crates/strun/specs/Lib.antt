pub mod Audits
pub mod Banks
pub mod Inputs
pub mod Outputs
pub mod Tops
pub mod Failing
