pub mod Verdict
pub mod Standing
pub mod Restoring
