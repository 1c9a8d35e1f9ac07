mod Tests
mod Spelling
mod Bytes
mod Padding
mod Windows
mod Steps
mod Words
mod Grammar
mod Values
pub mod Faults
pub mod Reading
pub mod RegionLines
pub mod RegionWords
mod Found
mod Passing
mod Payloads
mod Shown
pub mod Course
