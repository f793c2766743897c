-- That the examples hold.
-- Assumes nothing.
pub mod Examples
