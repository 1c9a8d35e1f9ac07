pub mod Patches
pub mod Refusing
pub mod Patched
pub mod Meeting
pub mod Sweep
pub mod Painted
