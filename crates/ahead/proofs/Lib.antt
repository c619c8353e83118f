pub mod Rated
pub mod Unpacking
