-- What the contracts of this crate and of the crates above say about masks and words.
-- Assumes nothing.
pub mod Masks
pub mod Words
