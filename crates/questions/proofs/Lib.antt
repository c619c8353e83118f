pub mod Asking
pub mod Responding
