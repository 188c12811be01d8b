-- The definitions: the checksum and its division, and how a register with tables computes them.
pub mod Crc
pub mod Register
pub mod Division
pub mod Tables
