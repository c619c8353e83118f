pub mod Stairs
pub mod Streams
pub mod Sizes
pub mod Whole
pub mod Reported
