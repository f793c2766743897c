-- What the crates above may cite: the masks of a design are closed, least and the only ones.
-- Assumes nothing.
pub mod Families
pub mod Rounds
pub mod LeastMasks
pub mod CalledLaws
pub mod TallyLaws
pub mod CallLaws
pub mod Promises
