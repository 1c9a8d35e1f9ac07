pub mod Sorting
pub mod Spans
pub mod Apart
mod Neighbours
