pub mod Readings
pub mod State
pub mod Store
pub mod Stores
pub mod Windows
