pub mod Ids
pub mod Pages
