pub mod Wishes
pub mod Grown
pub mod Troubles
