pub mod View
pub mod HeaderView
