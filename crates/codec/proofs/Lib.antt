pub mod Bodies
pub mod Forms
pub mod Headers
pub mod Octets
pub mod Trips
pub mod Writes
