pub mod Editing
pub mod Performing
pub mod Going
pub mod Opening
pub mod Sealing
pub mod Beginning
pub mod Mapped
