pub mod Spelling
pub mod Parts
pub mod Made
pub mod Examples
