-- The table of examples.
-- Assumes nothing.
pub mod Examples
