pub mod Rows
pub mod Walks
pub mod Hangs
pub mod Turns
