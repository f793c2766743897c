-- What the crates above may cite: the laws of parts, of blanks and of survivors, and what a call of compact comes to.
-- Assumes nothing.
pub mod PartLaws
pub mod BlankLaws
pub mod SurvivorLaws
pub mod Compacted
pub mod Ports
pub mod CallLaws
pub mod Promises
