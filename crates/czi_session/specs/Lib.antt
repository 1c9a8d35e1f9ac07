pub mod Stops
pub mod Course
pub mod Ends
pub mod Text
