-- What the contracts of this crate and of the crates above say about bytes and lists of words.
-- Assumes nothing.
pub mod Bytes
pub mod Lists
