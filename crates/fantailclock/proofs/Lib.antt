pub mod Cases
pub mod Told
pub mod Hosted
pub mod OwnNo
pub mod Unfolded
