mod Writable
pub mod Outside
mod Openable
mod Made
mod Committed
mod Reading
pub mod Fresh
pub mod Keeping
pub mod Fitting
pub mod Going
pub mod OnRig
pub mod Oldest
pub mod Apart
pub mod Inverting
pub mod Planned
pub mod Same
pub mod Created
pub mod Newest
pub mod Room
