-- The laws of bytes and lists that proofs cite, here and in the crates above.
-- Assumes nothing.
pub mod LittleEndian
pub mod Stores
pub mod WordBytes
pub mod ListLaws
