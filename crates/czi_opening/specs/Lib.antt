pub mod Answers
pub mod Course
pub mod Devices
pub mod Opens
pub mod Steps
