pub mod Again
pub mod Rising
pub mod Sound
mod Encoding
mod Taken
mod Answering
mod Whole
