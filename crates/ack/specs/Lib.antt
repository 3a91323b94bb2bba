pub mod Back
pub mod Lines
pub mod Text
pub mod Told
