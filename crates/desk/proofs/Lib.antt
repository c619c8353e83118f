pub mod Held
pub mod Answers
pub mod StairLaws
pub mod OpenFits
pub mod Reaching
