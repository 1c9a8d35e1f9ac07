pub mod Pieces
pub mod Lines
pub mod Held
pub mod Contents
pub mod Described
pub mod Turning
pub mod Rows
