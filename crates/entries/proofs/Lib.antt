pub mod Opened
pub mod Answers
pub mod Places
pub mod GateLaws
pub mod PortLaws
pub mod SlotLaws
pub mod StreamLaws
