pub mod Rows
pub mod Stored
pub mod Reached
pub mod Demand
