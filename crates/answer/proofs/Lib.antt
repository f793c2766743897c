-- What the functions for C cite: the answer of each operation fits into its number.
-- Assumes nothing.
pub mod Fitting
