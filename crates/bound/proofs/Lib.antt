pub mod Others
pub mod Bounding
pub mod Asking
