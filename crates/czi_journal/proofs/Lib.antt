mod Flipping
mod Probes
mod Sealing
pub mod Slots
mod Staging
mod Voids
