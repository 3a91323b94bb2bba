pub mod Stories
pub mod Ranges
pub mod Joins
