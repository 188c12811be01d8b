-- The lemmas; `Values` is for callers.
mod Turns
mod Coefficients
mod Registers
mod Octets
mod Sliced
mod Table
mod Quotients
mod Unique
pub mod Values
