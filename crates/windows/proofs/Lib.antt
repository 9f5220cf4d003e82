pub mod Windows
pub mod Turns
pub mod Written
pub mod WholeBytes
pub mod AllBytes
pub mod Assigned
pub mod Answering
pub mod Given
