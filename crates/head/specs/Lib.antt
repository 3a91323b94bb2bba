pub mod Faults
pub mod Marks
pub mod Lines
pub mod Heads
pub mod Loops
pub mod Grammar
pub mod Laws
