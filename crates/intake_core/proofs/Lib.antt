pub mod Answering
pub mod Changes
pub mod Creating
pub mod Sweeping
pub mod Taking
pub mod Visiting
pub mod Acting
pub mod Messaging
