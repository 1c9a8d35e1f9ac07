mod Found
mod Kept
pub mod Steps
mod Telling
pub mod ToldAgain
pub mod Undone
pub mod Usable
