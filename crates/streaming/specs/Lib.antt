pub mod Stream
pub mod Answers
pub mod Count
pub mod Symbols
pub mod Flow
