pub mod Address
pub mod Visible
