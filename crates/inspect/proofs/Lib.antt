pub mod Again
pub mod Lines
