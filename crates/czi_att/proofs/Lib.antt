pub mod Staged
pub mod Written
