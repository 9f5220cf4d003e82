pub mod Tables
pub mod Counts
pub mod Streams
pub mod Packing
pub mod Memory
