pub mod Laws
pub mod Passing
