pub mod Listings
pub mod Statements
