pub mod Faults
pub mod Ranges
pub mod Protocols
pub mod Judging
pub mod Packets
pub mod Forms
pub mod Laws
