pub mod States
pub mod Text
pub mod Refusals
pub mod Replies
pub mod Pnm
