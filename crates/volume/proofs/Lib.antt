pub mod Numbers
pub mod Joins
pub mod Laws
pub mod Trailers
pub mod Walks
pub mod Puts
