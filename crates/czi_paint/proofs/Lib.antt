pub mod Sweeping
pub mod Overlays
pub mod Patched
pub mod Named
pub mod Painted
pub mod InDocument
