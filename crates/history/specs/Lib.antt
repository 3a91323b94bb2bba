pub mod Ledger
pub mod Law
pub mod Samples
