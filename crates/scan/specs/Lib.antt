pub mod Headers
pub mod Order
pub mod Offers
