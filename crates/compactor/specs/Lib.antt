-- What the contracts of this crate cite: the words that number the survivors, the words and bytes of a record, and what is asked of a caller.
-- Assumes nothing.
pub mod Numbers
pub mod Bytes
pub mod Ready
