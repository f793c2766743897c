-- What the crates above may cite: the laws of trimmed files and of calls of trim and trim_by.
-- Assumes nothing.
pub mod TrimLaws
pub mod CallLaws
pub mod Trimmed
pub mod Promises
pub mod CallByLaws
pub mod PromisesBy
