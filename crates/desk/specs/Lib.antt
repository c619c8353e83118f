pub mod Desks
pub mod Edits
pub mod Reach
