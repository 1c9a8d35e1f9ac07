pub mod Filled
pub mod Made
pub mod Ready
