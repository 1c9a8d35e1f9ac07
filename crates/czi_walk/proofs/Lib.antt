pub mod Segments
mod Known
pub mod Walked
pub mod Marked
pub mod Live
pub mod Stand
