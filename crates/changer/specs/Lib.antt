-- What the contracts of this crate cite: what the code below `change_over` asks of its callers.
-- Assumes nothing.
pub mod Numbered
