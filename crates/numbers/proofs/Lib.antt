pub mod Turning
pub mod Coming
