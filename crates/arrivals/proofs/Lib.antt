pub mod Places
pub mod Arriving
pub mod Counting
