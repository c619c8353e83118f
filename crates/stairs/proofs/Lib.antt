pub mod Rows
pub mod Keys
pub mod Tree
pub mod HeadRow
pub mod Turns
