pub mod Words
pub mod Arguments
pub mod View
pub mod Run
pub mod Creates
