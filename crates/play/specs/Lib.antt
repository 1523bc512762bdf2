pub mod Singles
pub mod Sources
