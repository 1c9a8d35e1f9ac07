pub mod Padding
pub mod Span
