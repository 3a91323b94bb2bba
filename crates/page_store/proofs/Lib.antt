pub mod Fresh
pub mod Handing
pub mod Starts
pub mod Walks
