pub mod Bounds
pub mod Formers
pub mod Holding
pub mod Laws
pub mod Parts
pub mod Stands
pub mod Told
pub mod View
