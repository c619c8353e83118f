pub mod Replies
pub mod Judged
