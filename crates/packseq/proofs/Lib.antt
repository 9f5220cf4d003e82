pub mod Output
pub mod Reading
