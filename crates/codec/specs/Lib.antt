pub mod Fields
pub mod Laws
pub mod Messages
pub mod Numbers
pub mod Segments
pub mod Serial
