pub mod Shapes
pub mod Kinds
pub mod Guesses
pub mod Encoders
pub mod Streams
pub mod Asked
