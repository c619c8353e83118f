pub mod Asked
pub mod Searches
