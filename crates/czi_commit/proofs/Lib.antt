pub mod Carrying
pub mod Arming
pub mod Standing
pub mod Gaps
