pub mod RowStreams
pub mod Framing
