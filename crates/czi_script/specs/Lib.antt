pub mod BytesText
pub mod Script
pub mod View
pub mod Reader
pub mod Filled
pub mod Pieces
pub mod Course
pub mod Words
