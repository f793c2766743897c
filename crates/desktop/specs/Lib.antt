-- What the functions of the desktop answer and write, and what they ask of each other.
-- Assumes nothing.
pub mod Buffers
pub mod Words
