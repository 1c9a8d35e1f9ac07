mod Asking
pub mod Ending
pub mod Made
pub mod Walks
