-- What the crates above may cite: the laws of values, states and calls, and what the operations promise.
-- Assumes nothing.
pub mod ValueLaws
pub mod StateLaws
pub mod InputLaws
pub mod CallLaws
pub mod Promises
