pub mod Regions
pub mod Painted
pub mod Replies
pub mod Answers
pub mod Machine
pub mod Performs
pub mod Laws
pub mod Answering
