pub mod Bundles
pub mod Reads
pub mod Writes
pub mod Lists
