pub mod View
pub mod Devices
pub mod Marks
pub mod Survey
