pub mod Devices
pub mod Journals
pub mod Probing
