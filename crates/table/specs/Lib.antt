pub mod Rows
pub mod Lookup
