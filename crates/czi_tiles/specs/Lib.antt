pub mod Window
pub mod Covered
pub mod Chosen
pub mod Candidates
pub mod Cells
pub mod Grid
