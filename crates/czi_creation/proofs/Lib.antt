pub mod Bytes
pub mod Refusing
pub mod Writing
