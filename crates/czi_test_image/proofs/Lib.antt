pub mod Removed
