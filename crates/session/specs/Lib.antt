pub mod Sessions
pub mod Rules
pub mod Wanted
pub mod Plans
pub mod Steps
pub mod Told
