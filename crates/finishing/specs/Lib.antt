pub mod Runs
pub mod Finishing
