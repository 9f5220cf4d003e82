pub mod Fields
pub mod Takes
pub mod Compared
pub mod Runs
pub mod Counts
