pub mod Window
pub mod Answers
pub mod Workers
